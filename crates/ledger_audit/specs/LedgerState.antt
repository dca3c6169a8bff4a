-- What the rows of a ledger say of the state before the next one: each thing as the last row that speaks of it has it.
use Rattle.std.specs.Prelude.{ℕ, ◌+◌, ◌-◌, List, [], ◌∷◌, Bool, true, false, ◌==◌, if◌then◌else◌, drop, Option, None, Some, unwrap_or}
use Rattle.std.specs.Option.{option_map}
use Rattle.aegis_limits.specs.Limits.{most_slots}
use Rattle.kernel_journal.specs.declared.row.Row.{Row}
use Rattle.kernel_journal.specs.declared.row.Row.TheVariants as row
use Rattle.kernel_journal.specs.RowTable.{time_of}
use Rattle.world_model.specs.declared.hold.Hold.{Hold}
use Rattle.world_model.specs.declared.slot.Phase.{Phase}
use Rattle.world_model.specs.declared.slot.Phase.TheVariants as phase
use Rattle.world_model.specs.Death.{released_rows}
use Rattle.world_model.specs.SlotCalls.{held_by, slot_row}

-- Each slot has its owner and holder by its last own row, and there is the slot of the last own row of all. The
-- cursor is the slot of the last run or pay row. Each environment has its run, pay and over rows, and whether it has
-- a dead row. Who runs, and in which phase; when the slice began, which is the last run row, and when the last
-- quantum of grace did, which is the last end or over row; the tick of the next turn, where nobody runs; and the time
-- of the last row. At boot there are own rows alone. The rows that are due are those that the last other row asks
-- for, less those that stand behind it already.
pub record LedgerState : Type 0 where
  pub slots : ℕ → Option Hold
  pub last_slot : Option ℕ
  pub cursor : ℕ
  pub runs : ℕ → ℕ
  pub pays : ℕ → ℕ
  pub overs : ℕ → ℕ
  pub dead : ℕ → Bool
  pub runner : Option ℕ
  pub phase : Phase
  pub slice_start : ℕ
  pub grace_start : ℕ
  pub turn : ℕ
  pub time : ℕ
  pub at_boot : Bool
  pub due : List Row

-- before the first row
abbrev pub first_state : LedgerState
first_state = record {
  slots = λ k. None;
  last_slot = None;
  cursor = most_slots - 1;
  runs = λ e. 0;
  pays = λ e. 0;
  overs = λ e. 0;
  dead = λ e. false;
  runner = None;
  phase = phase.Own;
  slice_start = 0;
  grace_start = 0;
  turn = 0;
  time = 0;
  at_boot = true;
  due = [];
}

-- a slot with an owner and a holder, or an empty one
abbrev pub hold_of : Option ℕ → Option ℕ → Option Hold
hold_of (Some owner) (Some holder) = Some (record { owner = owner; holder = holder })
hold_of (Some owner) None = None
hold_of None holder = None

-- What a row says of each thing, if it speaks of it.
abbrev pub slot_by : ℕ → Row → Option (Option Hold)
slot_by k (row.Own t slot owner holder) = if k == slot then Some (hold_of owner holder) else None
slot_by k _ = None

abbrev pub last_slot_by : Row → Option (Option ℕ)
last_slot_by (row.Own t slot owner holder) = Some (Some slot)
last_slot_by _ = None

abbrev pub cursor_by : Row → Option ℕ
cursor_by (row.Run t slot e) = Some slot
cursor_by (row.Pay t slot e) = Some slot
cursor_by _ = None

abbrev pub dead_by : ℕ → Row → Option Bool
dead_by e (row.Dead t slot who) = if e == who then Some true else None
dead_by e _ = None

abbrev pub runner_by : Row → Option (Option ℕ)
runner_by (row.Run t slot e) = Some (Some e)
runner_by (row.Give t slot from to) = Some (Some to)
runner_by (row.Async t slot from to) = Some (Some to)
runner_by (row.Sync t slot from to) = Some (Some to)
runner_by (row.Stop t slot e) = Some None
runner_by (row.Dead t slot e) = Some None
runner_by _ = None

abbrev pub phase_by : Row → Option Phase
phase_by (row.Run t slot e) = Some phase.Own
phase_by (row.End t slot e) = Some phase.Grace
phase_by _ = None

abbrev pub slice_start_by : Row → Option ℕ
slice_start_by (row.Run t slot e) = Some t
slice_start_by _ = None

abbrev pub grace_start_by : Row → Option ℕ
grace_start_by (row.End t slot e) = Some t
grace_start_by (row.Over t slot e excess) = Some t
grace_start_by _ = None

abbrev pub turn_by : Row → Option ℕ
turn_by (row.Stop t slot e) = Some (t + 1)
turn_by (row.Dead t slot e) = Some (t + 1)
turn_by _ = None

abbrev pub at_boot_by : Row → Option Bool
at_boot_by (row.Own t slot owner holder) = None
at_boot_by _ = Some false

-- whether a row counts among an environment's turns, its forfeits, or its quanta of excess
abbrev pub is_run_by : ℕ → Row → Bool
is_run_by e (row.Run t slot who) = who == e
is_run_by e _ = false

abbrev pub is_pay_by : ℕ → Row → Bool
is_pay_by e (row.Pay t slot who) = who == e
is_pay_by e _ = false

abbrev pub is_over_by : ℕ → Row → Bool
is_over_by e (row.Over t slot who excess) = who == e
is_over_by e _ = false

-- one more where it counts
abbrev pub more_if : Bool → ℕ → ℕ
more_if counts n = if counts then n + 1 else n

-- the rows of the slots that a death changes, by rising slot
unfoldable pub released_by : ℕ → ℕ → (ℕ → Option Hold) → List Row
released_by t e slots = released_rows t e slots most_slots

-- the rows that a row asks for behind it: those of the slots that a death changes, and that of a slot that is handed on
abbrev pub due_after : Row → LedgerState → List Row
due_after (row.Own t slot owner holder) s = drop 1 s.due
due_after (row.Dead t slot e) s = released_by t e s.slots
due_after (row.Sync t slot from to) s = slot_row t slot (option_map (held_by to) (s.slots slot)) ∷ []
due_after _ s = []

-- the state with one row more
abbrev pub after_row : Row → LedgerState → LedgerState
after_row r s = record {
  slots = λ k. unwrap_or (slot_by k r) (s.slots k);
  last_slot = unwrap_or (last_slot_by r) s.last_slot;
  cursor = unwrap_or (cursor_by r) s.cursor;
  runs = λ e. more_if (is_run_by e r) (s.runs e);
  pays = λ e. more_if (is_pay_by e r) (s.pays e);
  overs = λ e. more_if (is_over_by e r) (s.overs e);
  dead = λ e. unwrap_or (dead_by e r) (s.dead e);
  runner = unwrap_or (runner_by r) s.runner;
  phase = unwrap_or (phase_by r) s.phase;
  slice_start = unwrap_or (slice_start_by r) s.slice_start;
  grace_start = unwrap_or (grace_start_by r) s.grace_start;
  turn = unwrap_or (turn_by r) s.turn;
  time = time_of r;
  at_boot = unwrap_or (at_boot_by r) s.at_boot;
  due = due_after r s;
}

-- the state after rows
abbrev pub state_from : LedgerState → List Row → LedgerState
state_from s [] = s
state_from s (r ∷ rows) = state_from (after_row r s) rows

abbrev pub state_after : List Row → LedgerState
state_after rows = state_from first_state rows

-- what an environment ran past its slices and hasn't forfeited: its over rows less its pay rows, and nothing once it is
-- dead
abbrev pub excess_in : LedgerState → ℕ → ℕ
excess_in s e = if s.dead e then 0 else s.overs e - s.pays e

-- the last tick of a runner's quantum, by when its slice began, and when its last quantum of grace did
abbrev pub limit_by : ℕ → ℕ → ℕ → Phase → ℕ
limit_by quantum slice_start grace_start phase.Own = slice_start + quantum - 1
limit_by quantum slice_start grace_start phase.Grace = grace_start + quantum

abbrev pub limit_in : ℕ → LedgerState → ℕ
limit_in quantum s = limit_by quantum s.slice_start s.grace_start s.phase
