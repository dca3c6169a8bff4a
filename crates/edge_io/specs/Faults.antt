-- How reads and faults are counted.
use Rattle.std.specs.Prelude.{ℕ, zero, suc, ◌+◌, ◌-◌, ◌^◌, ◌≤◌, min}

-- a 64-bit count, one higher: it stays at its last value
abbrev pub one_more : ℕ → ℕ
one_more count = min (count + 1) (2 ^ 64 - 1)

-- a count, so many higher, one after another
abbrev pub raised : ℕ → ℕ → ℕ
raised count zero = count
raised count (suc more) = one_more (raised count more)

-- a count of faults rose: it is larger than before, or stands at its last value
abbrev pub Rose : ℕ → ℕ → Type 0
Rose before now = one_more before ≤ now
