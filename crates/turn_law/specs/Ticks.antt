-- What the rows of a ledger say of each tick: the state in which it begins, and who makes its step.
use Rattle.std.specs.Prelude.{ℕ, List, [], ◌∷◌, Bool, true, ◌==◌, ◌&&◌, nat_lt, if◌then◌else◌, Option, None, Some}
use Rattle.std.specs.Option.{option_or}
use Rattle.kernel_journal.specs.declared.row.Row.{Row}
use Rattle.kernel_journal.specs.declared.row.Row.TheVariants as row
use Rattle.kernel_journal.specs.RowTable.{time_of}
use Rattle.ledger_audit.specs.LedgerState.{LedgerState, after_row, first_state}
use Rattle.ledger_audit.specs.RowRules.{is_own_row}

-- whether a row is earlier than a tick: those of the boot are, and those of the ticks before it
abbrev pub is_earlier : ℕ → LedgerState → Row → Bool
is_earlier t s r = if is_own_row r && s.at_boot then true else nat_lt (time_of r) t

-- the state after the rows that are earlier than a tick
abbrev pub state_until : ℕ → LedgerState → List Row → LedgerState
state_until t s [] = s
state_until t s (r ∷ rows) = if is_earlier t s r then state_until t (after_row r s) rows else s

-- the state in which a tick begins
abbrev pub state_before : ℕ → List Row → LedgerState
state_before t rows = state_until t first_state rows

-- whose turn begins in a tick, by the row of it
abbrev pub starts_by : ℕ → Row → Option ℕ
starts_by t (row.Run u slot e) = if u == t then Some e else None
starts_by t _ = None

abbrev pub starter : ℕ → List Row → Option ℕ
starter t [] = None
starter t (r ∷ rows) = option_or (starts_by t r) (starter t rows)

-- who makes the step of a tick: who runs as it begins, or else whose turn begins in it
abbrev pub runner_in : ℕ → List Row → Option ℕ
runner_in t rows = option_or (state_before t rows).runner (starter t rows)
