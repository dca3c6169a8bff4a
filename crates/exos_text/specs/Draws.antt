-- The numbers that are drawn from a seed.
use Rattle.std.specs.Prelude.{ℕ, zero, suc, ◌+◌, ◌*◌, ◌%◌, ◌^◌}

-- The number after a number, by a linear congruential generator.
abbrev pub next : ℕ → ℕ
next x = (x * 1664525 + 1013904223) % 2 ^ 32

-- the number after so many draws from a number on
unfoldable pub drawn : ℕ → ℕ → ℕ
drawn zero x = x
drawn (suc n) x = next (drawn n x)
