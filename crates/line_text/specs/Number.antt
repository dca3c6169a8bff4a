-- Numbers as they are read in texts.
use Rattle.std.specs.Prelude.{ℕ, ◌-◌, ◌^◌, List, Option, Some, None, nat_lt, nat_le, nat_eq, ◌&&◌, if◌then◌else◌, length, drop, codes}
use Rattle.std.specs.List.{list_all, starts_with}
use Rattle.std.specs.Char.{is_digit}
use Rattle.std.specs.Option.{option_and_then}
use Rattle.std.specs.Str.Parse.{digits_value}

-- what one or more digits of a base spell, where it is at most so much
abbrev pub numeral_of : ℕ → ℕ → List ℕ → Option ℕ
numeral_of base most ds =
    if nat_lt 0 (length ds) && list_all (λ c. is_digit c base) ds && nat_le (digits_value base ds) most
    then Some (digits_value base ds) else None

-- what digits of a base spell, where they are one to so many, and it is below 2 ^ 32
abbrev pub digits_number : ℕ → ℕ → List ℕ → Option ℕ
digits_number base count ds = if nat_le (length ds) count then numeral_of base (2 ^ 32 - 1) ds else None

-- the number that a word spells: one to eight hexadecimal digits after `0x`, or one to ten decimal digits
unfoldable pub number_of : List ℕ → Option ℕ
number_of word =
    if starts_with nat_eq word (codes "0x") then digits_number 16 8 (drop 2 word) else digits_number 10 10 word

-- that number, from the least to the most
abbrev pub number_within : ℕ → ℕ → List ℕ → Option ℕ
number_within least most word =
    option_and_then (λ n. if nat_le least n && nat_le n most then Some n else None) (number_of word)
