-- Words of 32 bits as whole numbers, read with a sign and without.
use Rattle.std.specs.Prelude.{ℕ, ◌+◌, ◌-◌, ◌/◌, ◌%◌, ◌^◌, Bool, ◌&&◌, ℤ, pos, negsuc, int_lt, int_le, nat_lt, nat_le, if◌then◌else◌}
use Rattle.std.specs.Int.{w32, cast_signed}

-- the low 32 bits of a number
abbrev pub low_word : ℕ → ℕ
low_word n = n % 2 ^ 32

-- the word read as a number from -2^31 to 2^31 - 1
abbrev pub signed : ℕ → ℤ
signed word = cast_signed w32 word

-- the number lies from -2^31 to 2^31 - 1
abbrev pub fits_signed : ℤ → Bool
fits_signed z = int_le (negsuc (2 ^ 31 - 1)) z && int_lt z (pos (2 ^ 31))

-- bit 31 of the word is set
abbrev pub is_negative : ℕ → Bool
is_negative word = nat_le (2 ^ 31) word

-- the word shifted to the right, with copies of its sign from the left
abbrev pub shifted_with_sign : ℕ → ℕ → ℕ
shifted_with_sign word by =
    if is_negative word then 2 ^ 32 - 1 - (2 ^ 32 - 1 - word) / 2 ^ by else word / 2 ^ by

-- a value of so many bits, with copies of its sign up to bit 31
abbrev pub sign_extended : ℕ → ℕ → ℕ
sign_extended width value =
    if nat_lt value (2 ^ (width - 1)) then value else value + (2 ^ 32 - 2 ^ width)

-- 1 where the test holds, else 0
abbrev pub flag : Bool → ℕ
flag test = if test then 1 else 0
