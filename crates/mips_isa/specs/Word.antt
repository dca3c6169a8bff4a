-- Halves and merges of 32-bit words, over whole numbers. n is an address's place in its word, below 4.
use Rattle.std.specs.Prelude.{ℕ, ◌+◌, ◌-◌, ◌*◌, ◌/◌, ◌%◌, ◌^◌, nat_lt, if◌then◌else◌}

-- a half as a word with its sign
abbrev pub sign16_of : ℕ → ℕ
sign16_of half = if nat_lt half (2 ^ 15) then half else half + (2 ^ 32 - 2 ^ 16)

-- LWL: the n + 1 low bytes of the word in memory, above the low bytes of the register
abbrev pub merged_left : ℕ → ℕ → ℕ → ℕ
merged_left word value n = word * 2 ^ (24 - 8 * n) % 2 ^ 32 + value % 2 ^ (24 - 8 * n)

-- LWR: the 4 - n high bytes of the word in memory, below the n high bytes of the register
abbrev pub merged_right : ℕ → ℕ → ℕ → ℕ
merged_right word value n = value / 2 ^ (32 - 8 * n) * 2 ^ (32 - 8 * n) + word / 2 ^ (8 * n)

-- SWL: the n + 1 high bytes of the register, in place of the low bytes of the word in memory
abbrev pub stored_left : ℕ → ℕ → ℕ → ℕ
stored_left word value n = word / 2 ^ (8 * n + 8) * 2 ^ (8 * n + 8) + value / 2 ^ (24 - 8 * n)

-- SWR: the 4 - n low bytes of the register, in place of the high bytes of the word in memory
abbrev pub stored_right : ℕ → ℕ → ℕ → ℕ
stored_right word value n = value * 2 ^ (8 * n) % 2 ^ 32 + word % 2 ^ (8 * n)
