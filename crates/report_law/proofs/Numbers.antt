-- Numbers that are written are read back.
use Rattle.std.proofs.Common.{arith, refl, ◌∙◌, ap, ◌≡◌, ◌<◌, ◌≤◌, ◌^◌, ℕ, List, [], ◌∷◌, true, false, ◌&&◌, Option, None, Some, Result, Ok, length}
use Rattle.std.specs.Prelude.{nat_le, nat_lt}
use Rattle.std.specs.Char.{is_digit, digit_value}
use Rattle.std.specs.Fmt.{decimal}
use Rattle.std.specs.List.{AllByRecursion, list_all}
use Rattle.std.specs.Option.{ok_or}
use Rattle.std.specs.Str.Parse.{AllDigits, digits_value}
use Rattle.std.proofs.lemmas.Bool.{and_from, and_parts, cond-true, le-leb, leb-true, lt-ltb, ne_eqb}
use Rattle.std.proofs.lemmas.Fmt.{decimal_is_IsNumeral}
use Rattle.line_text.specs.Number.{numeral_of}
use Rattle.line_text.specs.Text.{dec_text}
use Rattle.line_text.specs.Outcome.{◌>>=◌}
use Rattle.ledger_text.specs.declared.fault.LedgerWhy.{LedgerWhy}
use Rattle.ledger_text.specs.declared.fault.LedgerWhy.TheVariants.{Range}
use Rattle.ledger_text.specs.RowText.{if_numerals}
use Rattle.ledger_text.specs.Words.{is_dash, is_decimal, is_numeral, number_in}
use Rattle.report_law.proofs.Bytes.{AtLeast, dec_decimal, dec_high}

-- two steps, of which the first gives this
pub then_read : {A B E : Type 0} (r : Result A E) (x : A) (f : A → Result B E) (y : Result B E) → r ≡ Ok x → f x ≡ y → (r >>= f) ≡ y
then_read r x f y is next = ap (λ s. s >>= f) is ∙ next

digits_all : (ds : List ℕ) → AllDigits 10 ds → list_all (λ c. is_digit c 10) ds ≡ true
digits_all [] are = refl
digits_all (d ∷ ds) (small, are) = and_from (is_digit d 10) (list_all (λ c. is_digit c 10) ds) (lt-ltb (digit_value d) 10 small) (digits_all ds are)

pub numeral_read : (most n : ℕ) → n ≤ most → n < 2 ^ 64 → numeral_of 10 most (dec_text n) ≡ Some n
unfolding dec_text
numeral_read most n within small =
    let ds = decimal n in
    let is = decimal_is_IsNumeral n small in
    let test : ((nat_lt 0 (length ds) && list_all (λ c. is_digit c 10) ds) && nat_le (digits_value 10 ds) most) ≡ true =
    and_from (nat_lt 0 (length ds) && list_all (λ c. is_digit c 10) ds) (nat_le (digits_value 10 ds) most)
    (and_from (nat_lt 0 (length ds)) (list_all (λ c. is_digit c 10) ds) (lt-ltb 0 (length ds) is.0.0) (digits_all ds is.0.1))
    (le-leb (digits_value 10 ds) most (omega (arith, is.1, within))) in
    cond-true _ (Some (digits_value 10 ds)) None test ∙ ap (λ (v : ℕ). Some v) is.1

pub number_read : (most n : ℕ) → n ≤ most → n < 2 ^ 64 → number_in most (dec_text n) ≡ Ok n
number_read most n within small = ap (λ (o : Option ℕ). ok_or o Range) (numeral_read most n within small)

some_digit : (n : ℕ) → n < 2 ^ 64 → 0 < length (dec_text n)
unfolding dec_text
some_digit n small = (decimal_is_IsNumeral n small).0.0

pub numeral_is : (n : ℕ) → n < 2 ^ 64 → is_numeral (dec_text n) ≡ true
numeral_is n small = and_from (nat_lt 0 (length (dec_text n))) (list_all is_decimal (dec_text n)) (lt-ltb 0 (length (dec_text n)) (some_digit n small)) (dec_decimal n)

high_no_dash : (word : List ℕ) → AtLeast 48 word → is_dash word ≡ false
high_no_dash [] are = refl
high_no_dash (b ∷ bs) are =
    let parts = and_parts (nat_le 48 b) (list_all (nat_le 48) bs) are in
    let high = leb-true 48 b parts.0 in
    rw (ne_eqb b 45 (λ (same : b ≡ 45). omega (arith, same, high))) refl

pub no_dash : (n : ℕ) → is_dash (dec_text n) ≡ false
no_dash n = high_no_dash (dec_text n) (dec_high n)

-- words that are all numerals
pub all_numerals : (words : List (List ℕ)) → AllByRecursion (λ word. is_numeral word ≡ true) words → list_all is_numeral words ≡ true
all_numerals [] are = refl
all_numerals (word ∷ words) (here, rest) = and_from (is_numeral word) (list_all is_numeral words) here (all_numerals words rest)

pub if_all : {X : Type 0} (words : List (List ℕ)) (said : Result X LedgerWhy) (y : Result X LedgerWhy) → AllByRecursion (λ word. is_numeral word ≡ true) words → said ≡ y → if_numerals words said ≡ y
if_all words said y are is = cond-true (list_all is_numeral words) said _ (all_numerals words are) ∙ is
