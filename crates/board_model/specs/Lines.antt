-- Whose the interrupt lines are.
use Rattle.std.specs.Prelude.{ℕ, List, Option, None, replicate, slice_index_or}
use Rattle.external_event.specs.Limits.{lines}

-- whose a line is, if anybody's; past the last there is none
abbrev pub line_at : List (Option ℕ) → ℕ → Option ℕ
line_at owners line = slice_index_or owners line None

-- the lines while each of them is nobody's
abbrev pub free_lines : List (Option ℕ)
free_lines = replicate lines None
