use Rattle.std.proofs.Common.{◌≡◌, drop}
use Rattle.std.specs.Map.{lookup}
use Rattle.std.specs.Str.{bytes_eq}
use Rattle.line_text.specs.Table.{rows_seen}
use Rattle.line_text.proofs.table.find.Given as goal

-- no row so far has the name
abbrev pub invariant-loop-row : goal.invariant-loop-row
invariant-loop-row g l = lookup (bytes_eq l.name) (rows_seen (drop l.row-index l.rows)) ≡ lookup (bytes_eq l.name) (rows_seen l.rows)
