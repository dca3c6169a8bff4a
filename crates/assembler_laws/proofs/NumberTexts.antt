-- Printed numbers as operands.
use Rattle.std.proofs.Common.{◌≡◌, ℕ, ◌-◌, ◌^◌, ◌<◌, ◌≤◌, Bool, true, List, [], ◌∷◌, ◌++◌, Some, None, length, get_or, refl, ◌∙◌, arith, rules}
use Rattle.std.specs.Prelude.{◌==◌, ◌&&◌, not, nat_lt, nat_le, codes, if◌then◌else◌}
use Rattle.std.proofs.lemmas.Bool.{and_parts}
use Rattle.std.proofs.lemmas.Bool.Decides.{nat_tests}
use Rattle.std.proofs.Math.Bool.{and-false}
use Rattle.std.specs.List.{list_all}
use Rattle.std.specs.Char.{is_ascii_alphanumeric}
use Rattle.std.proofs.lemmas.List.Folds.{list_all-append}
use Rattle.line_text.specs.Number.{numeral_of}
use Rattle.line_text.specs.Text.{dec_text, hex_text}
use Rattle.asm_parse.specs.Expression.{negated, literal_value}
use Rattle.asm_parse.specs.Operand.{OperandValue, Register, Value, operand_of}
use Rattle.mips_list.specs.WordText.{hexadecimal, signed_text}
use Rattle.assembler_laws.proofs.Numbers.{list_all_weaker, is_decimal, digit_range, decimal_digits, decimal_some, number_decimal, number_negative, number_hexadecimal, numeral_word, numeral_half, hex_bytes, number_digits}
use Rattle.assembler_laws.proofs.OperandTexts.{begins_number, number_value, operand_number, operand_register, decimal_bytes}

-- a byte of an operand that is no quoted text: no blank, no comma, and neither `"` nor `#`
abbrev pub is_plain : ℕ → Bool
is_plain b = nat_le 33 b && nat_le b 126 && not (b == 34) && not (b == 35) && not (b == 44)

-- bytes that are read as an operand
pub record IsOperand (bs : List ℕ) (operand : OperandValue) : Type 0 where
  pub plain : list_all is_plain bs ≡ true
  pub some : 0 < length bs
  pub is : operand_of bs ≡ Some operand

-- bytes that are read as a number
pub record IsNumber (bs : List ℕ) (n : ℕ) : Type 0 where
  pub begins : begins_number (get_or bs 0 0) ≡ true
  pub plain : list_all is_plain bs ≡ true
  pub reads : literal_value bs ≡ Some n

alphanumeric_plain : (b : ℕ) → is_ascii_alphanumeric b ≡ true → is_plain b ≡ true
alphanumeric_plain b is = grind (arith, nat_tests)

pub plain_alphanumeric : (bs : List ℕ) → list_all is_ascii_alphanumeric bs ≡ true → list_all is_plain bs ≡ true
plain_alphanumeric bs all = list_all_weaker is_ascii_alphanumeric is_plain alphanumeric_plain bs all

digit_begins : (c : ℕ) → is_decimal c ≡ true → begins_number c ≡ true
digit_begins c is = let r = digit_range c is in grind (arith, nat_tests)

digits_begin : (bs : List ℕ) → list_all is_decimal bs ≡ true → 0 < length bs → begins_number (get_or bs 0 0) ≡ true
digits_begin [] all some = absurd (omega arith)
digits_begin (c ∷ cs) all some = digit_begins c (and_parts (is_decimal c) (list_all is_decimal cs) all).0

pub decimal_text : (n : ℕ) → n < 2 ^ 32 → IsNumber (dec_text n) n
decimal_text n small = search (rules, digits_begin, decimal_digits, decimal_some, plain_alphanumeric, decimal_bytes, number_decimal)

pub negative_text : (n : ℕ) → n ≤ 2 ^ 31 → IsNumber (codes "-" ++ dec_text n) (negated n)
negative_text n within = record { begins = refl; plain = plain_alphanumeric (dec_text n) (decimal_bytes n (omega arith)); reads = number_negative n within }

hexadecimal_read : (k n : ℕ) → numeral_of 16 (2 ^ 32 - 1) (hex_text k n) ≡ Some n → IsNumber (hexadecimal k n) n
hexadecimal_read k n reads = record { begins = refl; plain = plain_alphanumeric (hex_text k n) (hex_bytes k n); reads = number_hexadecimal (hex_text k n) n reads }

pub word_text_read : (n : ℕ) → n < 2 ^ 32 → IsNumber (hexadecimal 8 n) n
word_text_read n small = hexadecimal_read 8 n (numeral_word n small)

pub half_text_read : (n : ℕ) → n < 2 ^ 16 → IsNumber (hexadecimal 4 n) n
half_text_read n small = hexadecimal_read 4 n (numeral_half n small)

-- the value of a half with its sign, modulo 2 ^ 32
abbrev pub signed_value : ℕ → ℕ
signed_value half = if nat_lt half (2 ^ 15) then half else negated (2 ^ 16 - half)

-- what holds of a half's text and value with either sign holds of them
pub by_sign : (P : List ℕ → ℕ → Type 0) (half : ℕ) → P (dec_text half) half → P (codes "-" ++ dec_text (2 ^ 16 - half)) (negated (2 ^ 16 - half)) → P (signed_text half) (signed_value half)
by_sign P half plus minus = search rules

pub signed_text_read : (half : ℕ) → half < 2 ^ 16 → IsNumber (signed_text half) (signed_value half)
signed_text_read half small = by_sign IsNumber half (decimal_text half (omega arith)) (negative_text (2 ^ 16 - half) (omega arith))

-- a number is an operand
pub number_operand : (bs : List ℕ) (n : ℕ) → IsNumber bs n → IsOperand bs (Value (number_value n))
number_operand [] n number = absurd cc
number_operand (c ∷ cs) n number = record { plain = number.plain; some = omega arith; is = operand_number c cs n number.begins number.reads }

-- a register is an operand
pub register_operand : (n : ℕ) → n < 32 → IsOperand (codes "$" ++ dec_text n) (Register (Some n))
register_operand n small = record { plain = plain_alphanumeric (dec_text n) (decimal_bytes n (omega arith)); some = omega arith; is = operand_register n small }

-- A half and a register in brackets.

digits_no_dollar : (b : ℕ) → is_ascii_alphanumeric b ≡ true → not (b == 36) ≡ true
digits_no_dollar b is = grind (arith, nat_tests)

pub no_dollars : (bs : List ℕ) → list_all is_ascii_alphanumeric bs ≡ true → list_all (λ b. not (b == 36)) (bs ++ 40 ∷ []) ≡ true
no_dollars bs all = rw (list_all-append (λ b. not (b == 36)) bs (40 ∷ []), list_all_weaker is_ascii_alphanumeric (λ b. not (b == 36)) digits_no_dollar bs all) refl

-- digits with a bracket behind them are no numeral
numeral_none : (most : ℕ) (ds rest : List ℕ) → numeral_of 10 most (ds ++ 40 ∷ rest) ≡ None
numeral_none most ds rest = rw (list_all-append is_decimal ds (40 ∷ rest), and-false (list_all is_decimal ds), and-false (nat_lt 0 (length (ds ++ 40 ∷ rest)))) refl

pub decimal_then : (n : ℕ) (rest : List ℕ) → n < 2 ^ 64 → literal_value (dec_text n ++ 40 ∷ rest) ≡ None
decimal_then n rest wide = number_digits n (40 ∷ rest) wide refl ∙ numeral_none (2 ^ 32 - 1) (dec_text n) rest

pub negative_then : (n : ℕ) (rest : List ℕ) → literal_value (45 ∷ (dec_text n ++ 40 ∷ rest)) ≡ None
unfolding literal_value
negative_then n rest = rw (numeral_none (2 ^ 31) (dec_text n) rest) refl
