-- Printed numbers, read again.
use Rattle.std.proofs.Common.{◌≡◌, ℕ, zero, suc, ◌-◌, ◌/◌, ◌%◌, ◌^◌, ◌<◌, ◌≤◌, Bool, true, false, List, [], ◌∷◌, ◌++◌, Some, length, get_or, refl, sym, ◌∙◌, arith, append-nil, lt-ltb, le-leb, ltb-true, rules}
use Rattle.std.specs.Prelude.{◌==◌, nat_eq, codes}
use Rattle.std.proofs.lemmas.Bool.{and_parts, ne_eqb}
use Rattle.std.proofs.lemmas.Bool.Decides.{nat_tests}
use Rattle.std.proofs.Math.Bool.{and-false}
use Rattle.std.specs.List.{list_all, starts_with}
use Rattle.std.specs.Char.{digit_char, digit_value, is_digit, is_ascii_alphanumeric}
use Rattle.std.specs.Int.{IsInRange}
use Rattle.std.specs.Str.Parse.{AllDigits, digits_value}
use Rattle.std.proofs.lemmas.Fmt.{decimal_is_IsNumeral}
use Rattle.std.proofs.lemmas.Str.{digit_value-digit_char}
use Rattle.std.proofs.lemmas.Str.Parse.{digit_from_value}
use Rattle.std.proofs.lemmas.Int.Digits.{digits_value_push}
use Rattle.std.proofs.lemmas.List.Folds.{list_all-append}
use Rattle.std.proofs.lemmas.List.{length-append}
use Rattle.line_text.specs.Number.{numeral_of}
use Rattle.line_text.specs.Text.{dec_text, hex_text}
use Rattle.line_text.proofs.HexLemmas.{hex_more}
use Rattle.asm_parse.specs.Expression.{negated, literal_value}

-- a byte that passes a test is none that fails it
pub differs : (test : ℕ → Bool) (b c : ℕ) → test b ≡ true → test c ≡ false → (b == c) ≡ false
differs test b c passes fails = ne_eqb b c (λ same. cc)

pub differs_turned : (test : ℕ → Bool) (b c : ℕ) → test b ≡ true → test c ≡ false → (c == b) ≡ false
differs_turned test b c passes fails = ne_eqb c b (λ same. cc)

-- what holds of each byte of which another thing holds
pub list_all_weaker : (p q : ℕ → Bool) → ((b : ℕ) → p b ≡ true → q b ≡ true) → (xs : List ℕ) → list_all p xs ≡ true → list_all q xs ≡ true
list_all_weaker p q weaker [] all = refl
list_all_weaker p q weaker (x ∷ xs) all =
    let parts = and_parts (p x) (list_all p xs) all in
    rw (weaker x parts.0, list_all_weaker p q weaker xs parts.1) refl

-- Digits.

abbrev pub is_decimal : ℕ → Bool
is_decimal c = is_digit c 10

all_digits_test : (base : ℕ) (ds : List ℕ) → AllDigits base ds → list_all (λ c. is_digit c base) ds ≡ true
all_digits_test base [] all = refl
all_digits_test base (d ∷ ds) all = rw (lt-ltb (digit_value d) base all.0, all_digits_test base ds all.1) refl

pub digit_range : (c : ℕ) → is_decimal c ≡ true → (48 ≤ c) × (c ≤ 57)
digit_range c is = let r : IsInRange 48 57 c = digit_from_value c (ltb-true (digit_value c) 10 is) in (omega (arith, r), omega (arith, r))

pub decimal_digits : (n : ℕ) → n < 2 ^ 64 → list_all is_decimal (dec_text n) ≡ true
unfolding dec_text
decimal_digits n small = all_digits_test 10 _ (decimal_is_IsNumeral n small).0.1

pub decimal_some : (n : ℕ) → n < 2 ^ 64 → 0 < length (dec_text n)
unfolding dec_text
decimal_some n small = (decimal_is_IsNumeral n small).0.0

decimal_value : (n : ℕ) → n < 2 ^ 64 → digits_value 10 (dec_text n) ≡ n
unfolding dec_text
decimal_value n small = (decimal_is_IsNumeral n small).1

pub numeral_decimal : (most n : ℕ) → n < 2 ^ 64 → n ≤ most → numeral_of 10 most (dec_text n) ≡ Some n
numeral_decimal most n small within = search (rules, lt-ltb, decimal_some, decimal_digits, decimal_value, le-leb)

-- Hexadecimal digits.

hex_none : (n : ℕ) → hex_text zero n ≡ []
unfolding hex_text
hex_none n = refl

-- a number that so many hexadecimal digits write
abbrev Writes : ℕ → ℕ → Type 0
Writes zero n = n ≡ 0
Writes (suc k) n = Writes k (n / 16)

hex_value : (k n : ℕ) → Writes k n → digits_value 16 (hex_text k n) ≡ n
hex_value zero n is = rw hex_none (sym is)
hex_value (suc k) n is =
    let low : n % 16 < 36 = omega arith in
    rw (hex_more k n, digits_value_push 16 (hex_text k (n / 16)) (digit_char (n % 16)), hex_value k (n / 16) is, digit_value-digit_char (n % 16) low) (omega arith)

hex_digits : (k n : ℕ) → list_all (λ c. is_digit c 16) (hex_text k n) ≡ true
hex_digits zero n = rw hex_none refl
hex_digits (suc k) n =
    let low : n % 16 < 36 = omega arith in
    let digit : n % 16 < 16 = omega arith in
    rw (hex_more k n, list_all-append (λ c. is_digit c 16) (hex_text k (n / 16)) (digit_char (n % 16) ∷ []), hex_digits k (n / 16), digit_value-digit_char (n % 16) low, lt-ltb (n % 16) 16 digit) refl

hex_alphanumeric : (d : ℕ) → d < 16 → is_ascii_alphanumeric (digit_char d) ≡ true
hex_alphanumeric d below = grind (arith, nat_tests)

pub hex_bytes : (k n : ℕ) → list_all is_ascii_alphanumeric (hex_text k n) ≡ true
hex_bytes zero n = rw hex_none refl
hex_bytes (suc k) n =
    let digit : n % 16 < 16 = omega arith in
    rw (hex_more k n, list_all-append is_ascii_alphanumeric (hex_text k (n / 16)) (digit_char (n % 16) ∷ []), hex_bytes k (n / 16), hex_alphanumeric (n % 16) digit) refl

hex_some : (k n : ℕ) → 0 < length (hex_text (suc k) n)
hex_some k n = rw hex_more (omega (arith, length-append (hex_text k (n / 16)) (digit_char (n % 16) ∷ [])))

numeral_hex : (k n : ℕ) → Writes (suc k) n → n < 2 ^ 32 → numeral_of 16 (2 ^ 32 - 1) (hex_text (suc k) n) ≡ Some n
numeral_hex k n is small =
    let within : n ≤ 2 ^ 32 - 1 = omega arith in
    rw (lt-ltb 0 (length (hex_text (suc k) n)) (hex_some k n), hex_digits (suc k) n, hex_value (suc k) n is, le-leb n (2 ^ 32 - 1) within) refl

pub numeral_word : (n : ℕ) → n < 2 ^ 32 → numeral_of 16 (2 ^ 32 - 1) (hex_text 8 n) ≡ Some n
numeral_word n small = let writes : Writes 8 n = omega arith in numeral_hex 7 n writes small

pub numeral_half : (n : ℕ) → n < 2 ^ 16 → numeral_of 16 (2 ^ 32 - 1) (hex_text 4 n) ≡ Some n
numeral_half n small = let writes : Writes 4 n = omega arith in numeral_hex 3 n writes (omega arith)

-- Numbers of the assembler.

-- decimal digits have no `x` behind their first byte, if what follows them does not begin with one
not_hexadecimal : (ds rest : List ℕ) → list_all is_decimal ds ≡ true → 0 < length ds → (120 == get_or rest 0 0) ≡ false → starts_with nat_eq (ds ++ rest) (codes "0x") ≡ false
not_hexadecimal [] rest all some other = absurd (omega arith)
not_hexadecimal (c ∷ []) [] all some other = and-false (48 == c)
not_hexadecimal (c ∷ []) (d ∷ rest) all some other = rw (other, and-false (48 == c)) refl
not_hexadecimal (c ∷ d ∷ ds) rest all some other = search rules

-- nor do they begin with a sign
not_signed : (ds rest : List ℕ) → list_all is_decimal ds ≡ true → 0 < length ds → starts_with nat_eq (ds ++ rest) (codes "-") ≡ false
not_signed [] rest all some = absurd (omega arith)
not_signed (c ∷ cs) rest all some = rw (differs_turned is_decimal c 45 (and_parts (is_decimal c) (list_all is_decimal cs) all).0 refl) refl

-- so they are read as a decimal numeral
pub number_digits : (n : ℕ) (rest : List ℕ) → n < 2 ^ 64 → (120 == get_or rest 0 0) ≡ false → literal_value (dec_text n ++ rest) ≡ numeral_of 10 (2 ^ 32 - 1) (dec_text n ++ rest)
unfolding literal_value
number_digits n rest small other = search (rules, decimal_digits, decimal_some, not_hexadecimal, not_signed)

pub number_decimal : (n : ℕ) → n < 2 ^ 32 → literal_value (dec_text n) ≡ Some n
number_decimal n small =
    let wide : n < 2 ^ 64 = omega arith in
    (rw append-nil at (number_digits n [] wide refl)) ∙ numeral_decimal (2 ^ 32 - 1) n wide (omega arith)

pub number_negative : (n : ℕ) → n ≤ 2 ^ 31 → literal_value (45 ∷ dec_text n) ≡ Some (negated n)
unfolding literal_value
number_negative n within = let wide : n < 2 ^ 64 = omega arith in rw (numeral_decimal (2 ^ 31) n wide within) refl

pub number_hexadecimal : (hs : List ℕ) (n : ℕ) → numeral_of 16 (2 ^ 32 - 1) hs ≡ Some n → literal_value (codes "0x" ++ hs) ≡ Some n
unfolding literal_value
number_hexadecimal hs n is = is
