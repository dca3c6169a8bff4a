-- The limit of a comparison.
use Rattle.std.specs.Prelude.{ℕ}

-- the slices up to whose end two runs are compared
abbrev pub most_compared_slices : ℕ
most_compared_slices = 1000000
