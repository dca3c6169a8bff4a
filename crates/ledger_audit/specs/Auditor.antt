-- What the auditor keeps of the rows that it has read.
use Rattle.std.specs.Prelude.{◌≡◌, ℕ, ◌≤◌, ◌-◌, List, [], None, Bool, true, false, ◌&&◌, ◌||◌, nat_lt, if◌then◌else◌, drop, length, slice_index, slice_index_or}
use Rattle.kernel_journal.specs.declared.row.Row.{Row}
use Rattle.kernel_journal.specs.declared.row.Row.TheVariants as row
use Rattle.ledger_audit.specs.LedgerState.{LedgerState, due_after}
use Rattle.ledger_audit.specs.RowRules.{is_behind, is_change, is_fit_by_kind, is_in_time, same_number, stand_first}
use Rattle.ledger_audit.specs.declared.state.State.{State}

-- The state of the rules. The rows that are due aren't kept: that they stand behind the row that asks for them is seen
-- with that row, and how many of them are left is all that is kept.
abbrev pub state_of : State → LedgerState
state_of a = record {
  slots = λ k. slice_index_or a.slots k None;
  last_slot = a.last_slot;
  cursor = a.cursor;
  runs = λ e. slice_index a.runs e;
  pays = λ e. slice_index a.pays e;
  overs = λ e. slice_index a.overs e;
  dead = λ e. slice_index_or a.dead e false;
  runner = a.runner;
  phase = a.phase;
  slice_start = a.slice_start;
  grace_start = a.grace_start;
  turn = a.turn;
  time = a.time;
  at_boot = a.at_boot;
  due = [];
}

-- a state without the rows that are due
abbrev pub undue : LedgerState → LedgerState
undue s = record s { due = [] }

-- how many rows are due behind one more
abbrev pub due_left : Row → ℕ → LedgerState → ℕ
due_left (row.Own t slot owner holder) left s = left - 1
due_left r left s = length (due_after r s)

-- no count is above this
pub record IsCounted (most : ℕ) (a : State) : Type 0 where
  pub runs : (e : ℕ) → slice_index a.runs e ≤ most
  pub pays : (e : ℕ) → slice_index a.pays e ≤ most
  pub overs : (e : ℕ) → slice_index a.overs e ≤ most

-- Whether a row fits, by how many rows are due: each of them does, since it was seen with the row that asks for it.
abbrev pub own_fits : ℕ → LedgerState → Row → Bool
own_fits left s (row.Own t slot owner holder) =
    if s.at_boot then is_behind s.last_slot slot && same_number owner holder
    else nat_lt 0 left || is_change s s.runner t slot (row.Own t slot owner holder)
own_fits left s r = false

abbrev pub fits_by_kind : ℕ → ℕ → LedgerState → Row → List Row → Bool
fits_by_kind left quantum s (row.Own t slot owner holder) later = own_fits left s (row.Own t slot owner holder)
fits_by_kind left quantum s r later = is_fit_by_kind quantum s r later

abbrev pub fits : ℕ → ℕ → ℕ → LedgerState → Row → List Row → Bool
fits left quantum end s r later = is_in_time quantum end s r && fits_by_kind left quantum s r later

-- a row of a slot is a change that the runner makes
abbrev pub is_runners_change : LedgerState → Row → Bool
is_runners_change s (row.Own t slot owner holder) = is_change s s.runner t slot (row.Own t slot owner holder)
is_runners_change s r = false

-- rows stand first, and these are what stands behind them
pub record IsBehind (rows later left : List Row) : Type 0 where
  pub stand : stand_first rows later ≡ true
  pub rest : left ≡ drop (length rows) later
