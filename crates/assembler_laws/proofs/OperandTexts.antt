-- Printed operands, read again.
use Rattle.std.proofs.Common.{◌≡◌, ℕ, suc, ◌+◌, ◌-◌, ◌^◌, ◌<◌, ◌∙◌, Bool, true, false, List, [], ◌∷◌, ◌++◌, Option, Some, None, length, take, drop, refl, arith, lt-ltb, le-leb, rules}
use Rattle.std.specs.Prelude.{◌==◌, ◌&&◌, ◌||◌, not, nat_le, nat_eq, codes, if◌then◌else◌}
use Rattle.std.proofs.lemmas.Bool.{and_parts}
use Rattle.std.proofs.lemmas.Bool.Decides.{nat_tests}
use Rattle.std.proofs.Math.Seq.{take-length, drop-length}
use lib.Dec.{eqb-suc-zero}
use Rattle.std.specs.List.{list_all, ends_with, position_or_len}
use Rattle.std.specs.Option.{option_map}
use Rattle.std.specs.Char.{is_ascii_alphanumeric}
use Rattle.std.proofs.lemmas.List.{take_at, drop_at, length-append}
use Rattle.line_text.specs.Text.{dec_text}
use Rattle.asm_parse.specs.Bytes.{is_name_start}
use Rattle.asm_parse.specs.Expression.{ExpressionValue, Number, expression_of, halves_opened, inner_of, literal_value, without_closings}
use Rattle.asm_parse.specs.Operand.{OperandValue, Register, Value, Based, based_of, operand_of, offset_of}
use Rattle.asm_parse.specs.Register.{number_of_register, register_of}
use Rattle.asm_parse.specs.Words.{is_register}
use Rattle.assembler_laws.proofs.Numbers.{differs, list_all_weaker, is_decimal, digit_range, decimal_digits, decimal_some, numeral_decimal}

-- a number, of which no half is taken
abbrev pub number_value : ℕ → ExpressionValue
number_value n = record { halves = []; inner = Number n }

-- what a printed number begins with: a digit, or a minus sign
abbrev pub begins_number : ℕ → Bool
begins_number c = (c == 45) || (nat_le 48 c && nat_le c 57)

-- Bytes.

no_name : (c : ℕ) → begins_number c ≡ true → is_name_start c ≡ false
no_name c is = grind (arith, nat_tests)

-- Expressions.

opened_none : (c : ℕ) (cs : List ℕ) → begins_number c ≡ true → halves_opened (c ∷ cs) ≡ []
opened_none c cs is = search rules

pub sub_zero : (n : ℕ) → n - 0 ≡ n
sub_zero n = omega arith

closings_none : (bs : List ℕ) → without_closings 0 bs ≡ Some bs
closings_none bs = search (rules, sub_zero, le-leb, drop-length, take-length)

inner_number : (c : ℕ) (cs : List ℕ) → begins_number c ≡ true → inner_of (c ∷ cs) ≡ option_map (λ n. Number n) (literal_value (c ∷ cs))
unfolding inner_of
inner_number c cs is = rw (no_name c is) refl

pub expression_number : (c : ℕ) (cs : List ℕ) (n : ℕ) → begins_number c ≡ true → literal_value (c ∷ cs) ≡ Some n → expression_of (c ∷ cs) ≡ Some (number_value n)
unfolding expression_of
expression_number c cs n is reads = rw (opened_none c cs is, closings_none (c ∷ cs), inner_number c cs is, reads) refl

pub expression_none : (c : ℕ) (cs : List ℕ) → begins_number c ≡ true → literal_value (c ∷ cs) ≡ None → expression_of (c ∷ cs) ≡ None
unfolding expression_of
expression_none c cs is none = rw (opened_none c cs is, closings_none (c ∷ cs), inner_number c cs is, none) refl

pub register_none : (c : ℕ) (cs : List ℕ) → begins_number c ≡ true → is_register (c ∷ cs) ≡ false
register_none c cs is = rw (differs begins_number c 36 is refl) refl

-- a number is an operand
pub operand_number : (c : ℕ) (cs : List ℕ) (n : ℕ) → begins_number c ≡ true → literal_value (c ∷ cs) ≡ Some n → operand_of (c ∷ cs) ≡ Some (Value (number_value n))
unfolding operand_of
operand_number c cs n is reads = rw (register_none c cs is, expression_number c cs n is reads) refl

-- Registers.

digit_alphanumeric : (c : ℕ) → is_decimal c ≡ true → is_ascii_alphanumeric c ≡ true
digit_alphanumeric c is = let r = digit_range c is in grind (arith, nat_tests)

pub decimal_bytes : (n : ℕ) → n < 2 ^ 64 → list_all is_ascii_alphanumeric (dec_text n) ≡ true
decimal_bytes n small = list_all_weaker is_decimal is_ascii_alphanumeric digit_alphanumeric (dec_text n) (decimal_digits n small)

register_form : (n : ℕ) → n < 32 → is_register (36 ∷ dec_text n) ≡ true
register_form n small = let wide : n < 2 ^ 64 = omega arith in rw (lt-ltb 0 (length (dec_text n)) (decimal_some n wide), decimal_bytes n wide) refl

register_number : (n : ℕ) → n < 32 → register_of (36 ∷ dec_text n) ≡ Some n
unfolding number_of_register
register_number n small = search (rules, numeral_decimal)

pub operand_register : (n : ℕ) → n < 32 → operand_of (36 ∷ dec_text n) ≡ Some (Register (Some n))
unfolding operand_of
operand_register n small = rw (register_form n small, register_number n small) refl

-- Numbers and registers in brackets.

-- bytes before the first `$`
dollar_at : (xs ys : List ℕ) → list_all (λ b. not (b == 36)) xs ≡ true → position_or_len (λ b. b == 36) (xs ++ 36 ∷ ys) ≡ length xs
dollar_at [] ys none = refl
dollar_at (x ∷ xs) ys none =
    let parts = and_parts (not (x == 36)) (list_all (λ b. not (b == 36)) xs) none in
    let next : 1 + length xs ≡ suc (length xs) = omega arith in
    rw (parts.0, dollar_at xs ys parts.1, next) refl

ends_at : (xs : List ℕ) (b : ℕ) → (b == b) ≡ true → ends_with nat_eq (xs ++ b ∷ []) (b ∷ []) ≡ true
ends_at xs b same = search (rules, length-append, drop_at)

without_last : (xs : List ℕ) (b : ℕ) → take (length (xs ++ b ∷ []) - 1) (xs ++ b ∷ []) ≡ xs
without_last xs b = search (rules, length-append, take_at)

some_offset : (c : ℕ) (cs : List ℕ) → offset_of (c ∷ cs) ≡ expression_of (c ∷ cs)
some_offset c cs = rw (eqb-suc-zero (length cs)) refl

-- what is read of two parts, the second of which begins at the first `$`
based_read : List ℕ → List ℕ → Option OperandValue
based_read front back =
    if ends_with nat_eq front (codes "(") && ends_with nat_eq back (codes ")") && is_register (take (length back - 1) back)
    then option_map (λ e. Based e (register_of (take (length back - 1) back))) (offset_of (take (length front - 1) front)) else None

based_parts : (front back bs : List ℕ) → take (position_or_len (λ b. b == 36) bs) bs ≡ front → drop (position_or_len (λ b. b == 36) bs) bs ≡ back → based_of bs ≡ based_read front back
unfolding based_of based_read
based_parts front back bs first second = rw (first, second) refl

based_cut : (front rest : List ℕ) → list_all (λ b. not (b == 36)) front ≡ true → based_of (front ++ 36 ∷ rest) ≡ based_read front (36 ∷ rest)
based_cut front rest none = search (rules, dollar_at, based_parts, take_at, drop_at)

based_ends : (offset register : List ℕ) → is_register register ≡ true → based_read (offset ++ 40 ∷ []) (register ++ 41 ∷ []) ≡ option_map (λ e. Based e (register_of register)) (offset_of offset)
unfolding based_read
based_ends offset register is = rw (ends_at offset 40 refl, ends_at register 41 refl, without_last register 41, without_last offset 40, is) refl

-- what is read of a number with a register behind it in brackets
pub based_number : (c : ℕ) (cs : List ℕ) (n r : ℕ) → begins_number c ≡ true → list_all (λ b. not (b == 36)) ((c ∷ cs) ++ 40 ∷ []) ≡ true → literal_value (c ∷ cs) ≡ Some n → r < 32
    → based_of (((c ∷ cs) ++ 40 ∷ []) ++ 36 ∷ (dec_text r ++ 41 ∷ [])) ≡ Some (Based (number_value n) (Some r))
based_number c cs n r is none reads small =
    based_cut ((c ∷ cs) ++ 40 ∷ []) (dec_text r ++ 41 ∷ []) none
    ∙ based_ends (c ∷ cs) (36 ∷ dec_text r) (register_form r small)
    ∙ rw (register_number r small, some_offset c cs, expression_number c cs n is reads) refl
