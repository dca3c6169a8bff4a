-- The row that Random names.
use Rattle.std.specs.Prelude.{ℕ, zero, suc, ◌-◌, ◌==◌, if◌then◌else◌}

-- the first row that it names
abbrev pub first_random : ℕ
first_random = 8

-- and the first behind the last
abbrev pub random_end : ℕ
random_end = 64

-- the row after an attempted step: the one below, and from the first back to the last
abbrev pub fallen : ℕ → ℕ
fallen row = if row == first_random then random_end - 1 else row - 1

-- the row after so many attempted steps
abbrev pub fallen_times : ℕ → ℕ → ℕ
fallen_times row zero = row
fallen_times row (suc times) = fallen (fallen_times row times)
