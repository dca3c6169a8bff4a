-- The spans of what is said.
use Rattle.std.proofs.Common.{◌≡◌, ℕ, zero, suc, ◌+◌, ◌<◌, ◌≤◌, List, [], ◌∷◌, Bool, true, false, Option, Some, None, cond, length, refl, ap, sym, ◌∙◌, subst, arith, length-drop, inl, inr}
use Rattle.std.proofs.lemmas.Bool.{cases_lt}
use Rattle.std.specs.Prelude.{◌==◌}
use Rattle.line_text.specs.Characters.{is_blank}
use Rattle.std.proofs.lemmas.Option.{none-some, same_Some}
use Rattle.std.specs.List.{AllByRecursion, prefix_len}
use Rattle.std.specs.Option.{option_map, option_and_then}
use Rattle.asm_parse.specs.Arg.{ArgValue}
use Rattle.asm_parse.specs.Operand.{OperandValue, operand_of, based_of}
use Rattle.asm_parse.specs.Expression.{expression_of, inner_of, literal_value}
use Rattle.asm_parse.specs.Form.{Piece, front, skip, trimmed, args_at, arg_of, operands_of}
use Rattle.asm_parse.specs.Span.{IsCutArg}
use Rattle.asm_parse.proofs.ArgLemmas.{comma, args_here, args_on}
use Rattle.asm_parse.proofs.PartLemmas.{IsPart, part_span, part_front, part_skip, part_trimmed}

-- nothing is no operand
operand_none : operand_of [] ≡ None
unfolding operand_of expression_of inner_of literal_value based_of
operand_none = refl

operand_some : (bs : List ℕ) (operand : OperandValue) → operand_of bs ≡ Some operand → 0 < length bs
operand_some [] operand is = absurd (none-some operand (sym operand_none ∙ is))
operand_some (b ∷ bs) operand is = omega arith

-- what an answer was made of
pub made_of : {A B : Type 0} (f : A → B) (o : Option A) (y : B) → option_map f o ≡ Some y → (x : A) × (o ≡ Some x) × (f x ≡ y)
made_of f None y is = absurd (none-some y is)
made_of f (Some x) y is = (x, refl, same_Some _ _ is)

-- an operand in a part
arg_cut : (source : List ℕ) (low high : ℕ) (p : Piece) (arg : ArgValue) → IsPart source low high p → arg_of p ≡ Some arg → IsCutArg source low high arg
unfolding arg_of
arg_cut source low high p arg part is =
    let found = made_of _ (operand_of (trimmed p).bytes) arg is in
    let inside = part_trimmed source low high p part in
    subst (IsCutArg source low high) found.2 (record {
      from = inside.from;
      some = omega (arith, operand_some (trimmed p).bytes found.0 found.1);
      to = inside.to;
      form = ap operand_of (part_span source low high (trimmed p) inside) ∙ found.1;
    })

-- the first operand and the others
args_step : (P : ArgValue → Type 0) (first : Option ArgValue) (others : Option (List ArgValue)) (args : List ArgValue) →
    option_and_then (λ arg. option_map (λ more. arg ∷ more) others) first ≡ Some args →
    ((arg : ArgValue) → first ≡ Some arg → P arg) → ((more : List ArgValue) → others ≡ Some more → AllByRecursion P more) → AllByRecursion P args
args_step P None others args is one more = absurd (none-some args is)
args_step P (Some arg) None args is one more = absurd (none-some args is)
args_step P (Some arg) (Some rest) args is one more = subst (AllByRecursion P) (same_Some _ _ is) (one arg refl, more rest refl)

module _ (source : List ℕ) (low high : ℕ) where
  -- the operands of a part that has no comma
  arg_alone : (p : Piece) (args : List ArgValue) → length p.bytes ≤ comma p → IsPart source low high p → args_at p ≡ Some args →
      AllByRecursion (IsCutArg source low high) args
  arg_alone p args end part is =
      args_step (IsCutArg source low high) _ _ args (rw (args_here p end) at is)
      (λ arg said. arg_cut source low high (front (comma p) p) arg (part_front source low high (comma p) p part) said)
      (λ more said. subst (AllByRecursion (IsCutArg source low high)) (same_Some _ _ said) tt)

  -- the operands of a part of at most so many bytes
  args_cut : (most : ℕ) (p : Piece) (args : List ArgValue) → length p.bytes ≤ most → IsPart source low high p → args_at p ≡ Some args →
      AllByRecursion (IsCutArg source low high) args
  args_cut zero p args short part is = arg_alone p args (omega arith) part is
  args_cut (suc most) p args short part is =
      elim (cases_lt (comma p) (length p.bytes)) [
        | inl within ↦
            args_step (IsCutArg source low high) _ _ args (rw (args_on p within) at is)
            (λ arg said. arg_cut source low high (front (comma p) p) arg (part_front source low high (comma p) p part) said)
            (λ more said. args_cut most (skip (comma p + 1) p) more (omega (arith, length-drop (comma p + 1) p.bytes)) (part_skip source low high (comma p + 1) p (omega arith) part) said)
        | inr end ↦ arg_alone p args end part is
      ]

pub operands_cut : (source : List ℕ) (low high : ℕ) (p : Piece) (args : List ArgValue) → IsPart source low high p → operands_of p ≡ Some args →
    AllByRecursion (IsCutArg source low high) args
unfolding operands_of
operands_cut source low high p args part is = by_tests (length p.bytes == 0) (prefix_len is_blank p.bytes == 0) is
  where
    by_tests : (v w : Bool) → cond v (Some []) (cond w None (args_at p)) ≡ Some args → AllByRecursion (IsCutArg source low high) args
    by_tests true w is = subst (AllByRecursion (IsCutArg source low high)) (same_Some _ _ is) tt
    by_tests false true is = absurd (none-some args is)
    by_tests false false is = args_cut source low high (length p.bytes) p args (omega arith) part is
