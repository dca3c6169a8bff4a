-- The limit of a trace.
use Rattle.std.specs.Prelude.{ℕ}

-- the ticks that one trace has
abbrev pub most_traced_ticks : ℕ
most_traced_ticks = 262144
