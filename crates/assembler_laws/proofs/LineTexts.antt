-- A line that is an operation and its operands, read again.
use Rattle.std.proofs.Common.{◌≡◌, ℕ, zero, suc, ◌+◌, ◌-◌, ◌<◌, ◌∙◌, Bool, true, false, List, [], ◌∷◌, ◌++◌, Some, None, length, drop, refl, ap, arith, rules}
use Rattle.std.specs.Prelude.{◌==◌, ◌&&◌, not, nat_le, nat_eq}
use Rattle.std.proofs.lemmas.Bool.{and_parts}
use Rattle.std.proofs.lemmas.Bool.Decides.{nat_tests}
use Rattle.std.proofs.Math.Bool.{and-false}
use Rattle.std.specs.List.{list_all, prefix_len, onto_first}
use lib.Pointwise.{pointwise}
use Rattle.std.proofs.lemmas.List.{append-nil, take_at, drop_at}
use Rattle.std.proofs.lemmas.List.Folds.{list_all-append}
use Rattle.line_text.specs.Lines.{LineValue, lines_of, lines_from, pieces_of, without_end}
use Rattle.asm_parse.specs.Arg.{ArgValue}
use Rattle.line_text.specs.Characters.{is_blank, is_text_byte}
use Rattle.asm_parse.specs.Bytes.{is_name_byte}
use Rattle.asm_parse.specs.Operand.{OperandValue}
use Rattle.asm_parse.specs.Words.{begins_name}
use Rattle.asm_parse.specs.Form.{Piece, before_mark, behind, is_outside, body_named, body_of, label_of, parsed_line, operands_of, said, statement_of, trimmed}
use Rattle.asm_parse.specs.declared.syntax.AsmLine.{AsmLine}
use Rattle.mips_list.specs.WordText.{after_name, marked}
use Rattle.assembler_laws.proofs.Numbers.{differs, list_all_weaker}
use Rattle.assembler_laws.proofs.NumberTexts.{is_plain}
use Rattle.assembler_laws.proofs.ArgTexts.{AreOperands, AreRead, EndsPlain, args_spaced, before_none, ends_behind, plain_ends}

-- a byte of a line without quoted texts and comments
abbrev pub is_said : ℕ → Bool
is_said b = nat_le 32 b && nat_le b 126 && not (b == 34) && not (b == 35)

plain_said : (b : ℕ) → is_plain b ≡ true → is_said b ≡ true
plain_said b is = grind (arith, nat_tests)

said_text : (b : ℕ) → is_said b ≡ true → is_text_byte b ≡ true
said_text b is = grind (arith, nat_tests)

name_plain : (b : ℕ) → is_name_byte b ≡ true → is_plain b ≡ true
name_plain b is = grind (arith, nat_tests)

-- A text of one line.

one_piece : (bs : List ℕ) → list_all is_said bs ≡ true → 0 < length bs → pieces_of bs ≡ bs ∷ []
one_piece [] all some = absurd (omega arith)
one_piece (b ∷ []) all some = rw (differs is_said b 10 (and_parts (is_said b) true all).0 refl) refl
one_piece (b ∷ c ∷ bs) all some =
    let parts = and_parts (is_said b) (list_all is_said (c ∷ bs)) all in
    let more : pieces_of (c ∷ bs) ≡ (c ∷ bs) ∷ [] = one_piece (c ∷ bs) parts.1 (omega arith) in
    rw (differs is_said b 10 parts.0 refl) (ap (onto_first b) more)

pub all_behind : (n : ℕ) (bs : List ℕ) → list_all is_said bs ≡ true → list_all is_said (drop n bs) ≡ true
all_behind zero bs all = all
all_behind (suc n) [] all = refl
all_behind (suc n) (b ∷ bs) all = all_behind n bs (and_parts (is_said b) (list_all is_said bs) all).1

-- what begins with a byte that is not said does not stand at the front of what is
no_front : (c : ℕ) (cs bs : List ℕ) → is_said c ≡ false → list_all is_said bs ≡ true → pointwise nat_eq (c ∷ cs) bs ≡ false
no_front c cs bs other all = search rules

no_end : (bs : List ℕ) → list_all is_said bs ≡ true → without_end bs ≡ bs
no_end bs all = rw (no_front 13 (10 ∷ []) (drop (length bs - 2) bs) refl (all_behind (length bs - 2) bs all), no_front 10 [] (drop (length bs - 1) bs) refl (all_behind (length bs - 1) bs all)) refl

-- a text without a line feed is one line
pub one_line : (bs : List ℕ) → list_all is_said bs ≡ true → 0 < length bs → lines_of bs ≡ (record { number = 1; start = 0; text = bs }) ∷ []
one_line bs all some = ap (lines_from 1 0) (one_piece bs all some) ∙ ap (λ text. (record { number = 1; start = 0; text = text }) ∷ []) (no_end bs all)

-- What a line says.

no_comment : (q : _) (bs : List ℕ) → ((b : ℕ) → is_said b ≡ true → behind q b ≡ q) → list_all is_said bs ≡ true → before_mark 35 q bs ≡ bs
no_comment q [] stays all = refl
no_comment q (b ∷ bs) stays all =
    let parts = and_parts (is_said b) (list_all is_said bs) all in
    rw (differs is_said b 35 parts.0 refl, and-false (is_outside q), stays b parts.0, no_comment q bs stays parts.1) refl

-- the name of an operation
abbrev pub is_name : List ℕ → Bool
is_name name = begins_name name && list_all is_name_byte name

-- bytes that may follow a name: none, or a blank and more
abbrev pub Follows : List ℕ → Type 0
Follows [] = Unit {0}
Follows (b ∷ bs) = b ≡ 32

name_length : (name rest : List ℕ) → list_all is_name_byte name ≡ true → Follows rest → prefix_len is_name_byte (name ++ rest) ≡ length name
name_length [] [] all follows = refl
name_length [] (b ∷ rest) all follows = rw follows refl
name_length (c ∷ name) rest all follows =
    let parts = and_parts (is_name_byte c) (list_all is_name_byte name) all in
    let next : 1 + length name ≡ suc (length name) = omega arith in
    rw (parts.0, name_length name rest parts.1 follows, next) refl

no_label : (name rest : List ℕ) → list_all is_name_byte name ≡ true → Follows rest → label_of (name ++ rest) ≡ None
unfolding label_of
no_label name rest all follows = search (rules, name_length, take_at, drop_at, and-false)

-- the operands behind a name
pub operands_read : (start : ℕ) (ts : List (List ℕ)) (os : List OperandValue) → AreOperands ts os → AreRead (operands_of (record { start = start; bytes = after_name ts })) os
unfolding operands_of
operands_read start [] [] are = record { found = []; is = refl; operands = refl }
operands_read start [] (o ∷ os) are = absurd are
operands_read start (t ∷ ts) [] are = absurd are
operands_read start (t ∷ ts) (o ∷ os) are = search (rules, args_spaced, nat_tests)

follows_name : (ts : List (List ℕ)) → Follows (after_name ts)
follows_name [] = tt
follows_name (t ∷ ts) = refl

some_length : (name rest : List ℕ) → begins_name name ≡ true → (length (name ++ rest) == 0) ≡ false
some_length name rest begins = search rules

body_read : (start : ℕ) (name : List ℕ) (ts : List (List ℕ)) (args : List ArgValue) → is_name name ≡ true → operands_of (record { start = start + length name; bytes = after_name ts }) ≡ Some args
    → body_of (record { start = start; bytes = name ++ after_name ts }) ≡ Some (body_named name args)
unfolding body_of
body_read start name ts args is reads = search (rules, and_parts, name_length, take_at, follows_name, some_length, drop_at)

statement_read : (number start : ℕ) (name : List ℕ) (ts : List (List ℕ)) (args : List ArgValue) → is_name name ≡ true → operands_of (record { start = start + length name; bytes = after_name ts }) ≡ Some args
    → statement_of number (record { start = start; bytes = name ++ after_name ts })
    ≡ Some (record { line = number; start = start; end = start + length (name ++ after_name ts); label = None; body = body_named name args })
unfolding statement_of
statement_read number start name ts args is reads = search (rules, and_parts, no_label, follows_name, body_read)

-- All bytes of a line.

name_bytes : (name : List ℕ) → list_all is_name_byte name ≡ true → list_all is_plain name ≡ true
name_bytes name all = list_all_weaker is_name_byte is_plain name_plain name all

plain_bytes : (bs : List ℕ) → list_all is_plain bs ≡ true → list_all is_said bs ≡ true
plain_bytes bs all = list_all_weaker is_plain is_said plain_said bs all

marked_bytes : (mark : ℕ) (ts : List (List ℕ)) (os : List OperandValue) → is_said mark ≡ true → AreOperands ts os → list_all is_said (marked mark ts) ≡ true
marked_bytes mark [] os said are = refl
marked_bytes mark (t ∷ ts) [] said are = absurd are
marked_bytes mark (t ∷ ts) (o ∷ os) said are =
    rw (said, list_all-append is_said t (marked 44 ts), plain_bytes t are.0.plain, marked_bytes 44 ts os refl are.1) refl

marked_ends : (front : List ℕ) (mark : ℕ) (ts : List (List ℕ)) (os : List OperandValue) → EndsPlain front → AreOperands ts os → EndsPlain (front ++ marked mark ts)
marked_ends front mark [] os ends are = rw (append-nil front) ends
marked_ends front mark (t ∷ ts) [] ends are = absurd are
marked_ends front mark (t ∷ ts) (o ∷ os) ends are =
    ends_behind front (mark ∷ t ++ marked 44 ts) (ends_behind (mark ∷ []) (t ++ marked 44 ts) (marked_ends t 44 ts os (plain_ends t are.0.plain are.0.some) are.1))

-- bytes of a line, whose last is no blank
pub record IsLine (bs : List ℕ) : Type 0 where
  pub bytes : list_all is_said bs ≡ true
  pub ends : EndsPlain bs

pub text_is_line : (name : List ℕ) (ts : List (List ℕ)) (os : List OperandValue) → is_name name ≡ true → AreOperands ts os → IsLine (name ++ after_name ts)
text_is_line name ts os is are = search (rules, and_parts, name_bytes, list_all-append, plain_bytes, marked_bytes, marked_ends, plain_ends)

no_blanks_named : (name rest : List ℕ) → is_name name ≡ true → prefix_len is_blank (name ++ rest) ≡ 0
no_blanks_named name rest is = search rules

said_line : (line : LineValue) → list_all is_said line.text ≡ true → said line ≡ trimmed (record { start = line.start; bytes = line.text })
said_line line all = ap (λ bs. trimmed (record { start = line.start; bytes = bs })) (no_comment _ line.text (λ b is. rw (differs is_said b 34 is refl) refl) all)

said_whole : (number start : ℕ) (name : List ℕ) (ts : List (List ℕ)) → is_name name ≡ true → IsLine (name ++ after_name ts)
    → said (record { number = number; start = start; text = name ++ after_name ts }) ≡ record { start = start + 0; bytes = name ++ after_name ts }
said_whole number start name ts is line = search (rules, said_line, no_blanks_named, before_none)

add_zero : (n : ℕ) → n + 0 ≡ n
add_zero n = omega arith

line_from : (line : LineValue) (p : Piece) (statement : AsmLine) → list_all is_text_byte line.text ≡ true → said line ≡ p → (length p.bytes == 0) ≡ false
    → statement_of line.number p ≡ Some statement → parsed_line line ≡ Some (Some statement)
unfolding parsed_line
line_from line p statement text is some reads = search rules

-- a line that is an operation and its operands
pub line_read : (number start : ℕ) (name : List ℕ) (ts : List (List ℕ)) (args : List ArgValue) → is_name name ≡ true → IsLine (name ++ after_name ts)
    → operands_of (record { start = start + length name; bytes = after_name ts }) ≡ Some args
    → parsed_line (record { number = number; start = start; text = name ++ after_name ts })
    ≡ Some (Some (record { line = number; start = start; end = start + length (name ++ after_name ts); label = None; body = body_named name args }))
line_read number start name ts args is line reads =
    let parts = and_parts (begins_name name) (list_all is_name_byte name) is in
    let text : list_all is_text_byte (name ++ after_name ts) ≡ true = list_all_weaker is_said is_text_byte said_text (name ++ after_name ts) line.bytes in
    line_from (record { number = number; start = start; text = name ++ after_name ts }) (record { start = start; bytes = name ++ after_name ts }) _ text
    (said_whole number start name ts is line ∙ ap (λ n. record { start = n; bytes = name ++ after_name ts }) (add_zero start))
    (some_length name (after_name ts) parts.0)
    (statement_read number start name ts args is reads)
