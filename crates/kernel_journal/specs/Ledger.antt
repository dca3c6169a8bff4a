-- The ledger.
use Rattle.std.specs.Prelude.{ℕ, ◌+◌, ◌-◌, nat_le, if◌then◌else◌, List, [], ◌∷◌, ◌++◌, length}
use Rattle.kernel_journal.specs.declared.row.Row.{Row}

-- the rows in their order, and how many more can be pushed without taking memory
pub record Ledger : Type 0 where
  pub rows : List Row
  pub spare : ℕ

-- a ledger without rows
abbrev pub empty_ledger : Ledger
empty_ledger = record { rows = []; spare = 0 }

-- the ledger with one row more, which one spare row was spent on
abbrev pub with_row : Ledger → Row → Ledger
with_row ledger row = record { rows = ledger.rows ++ row ∷ []; spare = ledger.spare - 1 }

-- How many more can be pushed once there is room for so many rows: where they aren't spare already, memory is taken
-- for them, and for as many again as there are.
abbrev pub spare_after : Ledger → ℕ → ℕ
spare_after ledger rows = if nat_le rows ledger.spare then ledger.spare else length ledger.rows + rows
