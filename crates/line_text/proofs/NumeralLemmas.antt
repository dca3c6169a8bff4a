-- Numerals, one digit more at a time.
use Rattle.std.proofs.Common.{◌≡◌, ℕ, ◌*◌, ◌^◌, ◌<◌, ◌≤◌, List, ◌++◌, None, map, take, drop, refl, ap, sym, ◌∙◌, arith}
use Rattle.std.proofs.lemmas.Bool.{lt-leb}
use Rattle.std.proofs.Math.Bool.{and-false}
use Rattle.std.proofs.Math.Nat.{mul-le-mul_left}
use Rattle.std.proofs.lemmas.Int.Digits.{digits_value_is, number_after_append, number_after_ge}
use Rattle.std.proofs.lemmas.List.{take-append-drop, map-append}
use Rattle.std.specs.Char.{digit_value}
use Rattle.std.specs.Int.Digits.{number_from_digits, number_from_digits_after}
use Rattle.std.specs.Str.Parse.{digits_value}
use Rattle.line_text.specs.Number.{numeral_of}

-- a number below 2 ^ 32, times a base
pub product_fits : (value base : ℕ) → value < 2 ^ 32 → base ≤ 16 → value * base ≤ 2 ^ 36
product_fits value base small most = let wide = mul-le-mul_left value most in omega (arith, wide)

-- the front of digits spells no more than all
front_le : (base i : ℕ) (ds : List ℕ) → 0 < base → digits_value base (take i ds) ≤ digits_value base ds
front_le base i ds some =
    let first = map digit_value (take i ds) in
    let last = map digit_value (drop i ds) in
    let whole : digits_value base ds ≡ number_from_digits_after base (number_from_digits base first) last =
    ap (digits_value base) (sym (take-append-drop i ds)) ∙ digits_value_is base (take i ds ++ drop i ds)
    ∙ ap (number_from_digits base) (map-append digit_value (take i ds) (drop i ds)) ∙ number_after_append base 0 first last in
    rw (whole, digits_value_is base (take i ds)) (number_after_ge base (number_from_digits base first) last some)

-- digits that spell too much at their front spell too much
pub too_large : (base most i : ℕ) (ds : List ℕ) → 0 < base → most < digits_value base (take i ds) → numeral_of base most ds ≡ None
too_large base most i ds some above =
    let less = front_le base i ds some in
    rw (lt-leb (digits_value base ds) most (omega arith), and-false) refl
