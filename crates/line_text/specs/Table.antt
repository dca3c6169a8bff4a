-- Tables of names, as plain data.
use Rattle.std.specs.Prelude.{ℕ, List, map}
use Rattle.line_text.specs.declared.table.TableRow.{TableRow}

abbrev pub row_seen : {T : Type 0} → TableRow T → List ℕ × T
row_seen row = (row.name.now, row.meaning)

abbrev pub rows_seen : {T : Type 0} → List (TableRow T) → List (List ℕ × T)
rows_seen rows = map row_seen rows
