-- Operands with commas between them, read again.
use Rattle.std.proofs.Common.{◌≡◌, ℕ, ◌+◌, ◌<◌, ◌∙◌, true, false, List, [], ◌∷◌, ◌++◌, Option, Some, length, map, refl, sym, ap, subst, arith, append_assoc, rules}
use Rattle.std.proofs.lemmas.Bool.{and_parts}
use Rattle.std.proofs.lemmas.Bool.Decides.{nat_tests}
use Rattle.std.proofs.Math.Bool.{and-false}
use Rattle.std.proofs.Math.Seq.{take-length}
use Rattle.std.specs.List.{list_all, prefix_len, suffix_len, onto_first}
use Rattle.std.proofs.lemmas.List.{reverse-append}
use Rattle.asm_parse.specs.Arg.{ArgValue}
use Rattle.line_text.specs.Characters.{is_blank}
use Rattle.asm_parse.specs.Operand.{OperandValue}
use Rattle.asm_parse.specs.Form.{arg_of, args_at, args_of, before_blanks, behind, is_outside, parts_at}
use Rattle.mips_list.specs.WordText.{after_name, marked}
use Rattle.assembler_laws.proofs.Numbers.{differs}
use Rattle.assembler_laws.proofs.OperandTexts.{sub_zero}
use Rattle.assembler_laws.proofs.NumberTexts.{IsOperand, is_plain}

-- Bytes.

plain_no_blank : (b : ℕ) → is_plain b ≡ true → is_blank b ≡ false
plain_no_blank b is = grind (arith, nat_tests)

-- Parts between commas. Plain bytes change nothing of where the bytes behind them stand.

parts_behind : (q : _) (bs rest : List ℕ) (ts : List (List ℕ)) → ((b : ℕ) → is_plain b ≡ true → behind q b ≡ q) → list_all is_plain bs ≡ true → parts_at 44 q rest ≡ [] ∷ ts
    → parts_at 44 q (bs ++ rest) ≡ bs ∷ ts
parts_behind q [] rest ts stays plain here = here
parts_behind q (b ∷ bs) rest ts stays plain here =
    let parts = and_parts (is_plain b) (list_all is_plain bs) plain in
    rw (differs is_plain b 44 parts.0 refl, and-false (is_outside q), stays b parts.0, parts_behind q bs rest ts stays parts.1 here) refl

-- each text is an operand
abbrev pub AreOperands : List (List ℕ) → List OperandValue → Type 0
AreOperands [] [] = Unit {0}
AreOperands [] (o ∷ os) = ⊥
AreOperands (t ∷ ts) [] = ⊥
AreOperands (t ∷ ts) (o ∷ os) = IsOperand t o × AreOperands ts os

-- texts with a comma before each
parts_marked : (q : _) (ts : List (List ℕ)) (os : List OperandValue) → ((b : ℕ) → is_plain b ≡ true → behind q b ≡ q)
    → ((rest : List ℕ) → parts_at 44 q (44 ∷ rest) ≡ [] ∷ parts_at 44 q rest) → AreOperands ts os → parts_at 44 q (marked 44 ts) ≡ [] ∷ ts
parts_marked q [] os stays marks are = refl
parts_marked q (t ∷ ts) [] stays marks are = absurd are
parts_marked q (t ∷ ts) (o ∷ os) stays marks are = search (rules, parts_behind, (parts_marked q ts os stays marks are.1))

-- Blanks.

-- bytes whose last is no blank
pub record EndsPlain (bs : List ℕ) : Type 0 where
  pub front : List ℕ
  pub last : ℕ
  pub cut : bs ≡ front ++ last ∷ []
  pub plain : is_plain last ≡ true

pub ends_behind : (front bs : List ℕ) → EndsPlain bs → EndsPlain (front ++ bs)
ends_behind front bs ends = record { front = front ++ ends.front; last = ends.last; cut = ap (λ xs. front ++ xs) ends.cut ∙ sym (append_assoc front ends.front (ends.last ∷ [])); plain = ends.plain }

pub plain_ends : (bs : List ℕ) → list_all is_plain bs ≡ true → 0 < length bs → EndsPlain bs
plain_ends [] plain some = absurd (omega arith)
plain_ends (b ∷ []) plain some = record { front = []; last = b; cut = refl; plain = (and_parts (is_plain b) true plain).0 }
plain_ends (b ∷ c ∷ bs) plain some = ends_behind (b ∷ []) (c ∷ bs) (plain_ends (c ∷ bs) (and_parts (is_plain b) (list_all is_plain (c ∷ bs)) plain).1 (omega arith))

pub no_blanks_behind : (bs : List ℕ) → EndsPlain bs → suffix_len is_blank bs ≡ 0
no_blanks_behind bs ends = rw (ends.cut, reverse-append ends.front (ends.last ∷ []), plain_no_blank ends.last ends.plain) refl

pub no_blanks_before : (bs : List ℕ) → list_all is_plain bs ≡ true → 0 < length bs → prefix_len is_blank bs ≡ 0
no_blanks_before [] plain some = refl
no_blanks_before (b ∷ bs) plain some = rw (plain_no_blank b (and_parts (is_plain b) (list_all is_plain bs) plain).0) refl

pub before_none : (start : ℕ) (bs : List ℕ) → EndsPlain bs → before_blanks (record { start = start; bytes = bs }) ≡ record { start = start; bytes = bs }
before_none start bs ends = rw (no_blanks_behind bs ends, sub_zero (length bs), take-length bs) refl

-- Operands.

arg_plain : (start : ℕ) (bs : List ℕ) (o : OperandValue) → IsOperand bs o → arg_of (record { start = start; bytes = bs }) ≡ Some (record { operand = o; start = start + 0; end = start + 0 + length bs })
unfolding arg_of
arg_plain start bs o is = search (rules, no_blanks_before, no_blanks_behind, plain_ends, sub_zero, take-length)

arg_spaced : (start : ℕ) (bs : List ℕ) (o : OperandValue) → IsOperand bs o → arg_of (record { start = start; bytes = 32 ∷ bs }) ≡ Some (record { operand = o; start = start + 1; end = start + 1 + length bs })
unfolding arg_of
arg_spaced start bs o is = search (rules, no_blanks_before, no_blanks_behind, plain_ends, sub_zero, take-length)

-- operands that are read from parts
pub record AreRead (args : Option (List ArgValue)) (os : List OperandValue) : Type 0 where
  pub found : List ArgValue
  pub is : args ≡ Some found
  pub operands : map (λ arg. arg.operand) found ≡ os

args_then : (start : ℕ) (part : List ℕ) (parts : List (List ℕ)) (arg : ArgValue) (o : OperandValue) (os : List OperandValue) → arg_of (record { start = start; bytes = part }) ≡ Some arg → arg.operand ≡ o
    → AreRead (args_of (start + (length part + 1)) parts) os → AreRead (args_of start (part ∷ parts)) (o ∷ os)
args_then start part parts arg o os here same rest = search rules

args_plain : (start : ℕ) (ts : List (List ℕ)) (os : List OperandValue) → AreOperands ts os → AreRead (args_of start ts) os
args_plain start [] [] are = record { found = []; is = refl; operands = refl }
args_plain start [] (o ∷ os) are = absurd are
args_plain start (t ∷ ts) [] are = absurd are
args_plain start (t ∷ ts) (o ∷ os) are =
    args_then start t ts _ o os (arg_plain start t o are.0) refl (args_plain (start + (length t + 1)) ts os are.1)

-- operands behind a name
pub args_spaced : (start : ℕ) (t : List ℕ) (ts : List (List ℕ)) (o : OperandValue) (os : List OperandValue) → AreOperands (t ∷ ts) (o ∷ os) → AreRead (args_at (record { start = start; bytes = after_name (t ∷ ts) })) (o ∷ os)
args_spaced start t ts o os are =
    subst (λ (parts : List (List ℕ)). AreRead (args_of start (onto_first 32 parts)) (o ∷ os)) (sym (parts_behind _ t (marked 44 ts) ts (λ b plain. rw (differs is_plain b 34 plain refl) refl) are.0.plain (parts_marked _ ts os (λ b plain. rw (differs is_plain b 34 plain refl) refl) (λ rest. refl) are.1)))
    (args_then start (32 ∷ t) ts _ o os (arg_spaced start t o are.0) refl (args_plain (start + (length (32 ∷ t) + 1)) ts os are.1))
