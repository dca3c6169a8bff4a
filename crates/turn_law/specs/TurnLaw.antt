-- Whoever holds a slot has its turn, by the rules of the ledger alone.
use Rattle.std.specs.Prelude.{◌≡◌, ℕ, ◌+◌, ◌*◌, ◌≤◌, ◌<◌, List, [], Bool, true, Option, None, Some}
use Rattle.aegis_limits.specs.Limits.{excess_limit, most_slots}
use Rattle.kernel_journal.specs.declared.row.Row.{Row}
use Rattle.world_model.specs.SlotCalls.{holds}
use Rattle.ledger_text.specs.LedgerText.{LedgerValue}
use Rattle.ledger_text.specs.PlanText.{PlanValue}
use Rattle.ledger_audit.specs.declared.answer.AuditAnswer.TheVariants.{Clean}
use Rattle.ledger_audit.specs.Answer.{audit_of, rows_of}
use Rattle.ledger_audit.specs.LedgerState.{excess_in, first_state, state_after}
use Rattle.ledger_audit.specs.RowRules.{are_fit, is_end}
use Rattle.turn_law.specs.Ticks.{runner_in, state_before}

-- rows that all fit, and an end that fits after them
pub record AreByRules (quantum end : ℕ) (idle : Bool) (rows : List Row) : Type 0 where
  pub fit : are_fit quantum end first_state rows [] ≡ true
  pub ended : is_end quantum idle end (state_after rows) ≡ true

-- As a tick begins, an environment holds a slot, and no slot from a number on has a holder.
pub record HoldsSlot (rows : List Row) (count slot e t : ℕ) : Type 0 where
  pub held : holds e ((state_before t rows).slots slot) ≡ true
  pub beyond : (k : ℕ) → count ≤ k → (state_before t rows).slots k ≡ None

-- how long a turn lasts at most: a slice, and quanta of grace until the excess is above the limit
abbrev pub longest_turn : ℕ → ℕ
longest_turn quantum = (excess_limit + 2) * quantum

-- Who holds one of so many slots in a tick, and owes so many quanta, makes a step before this tick: each other slot may have
-- its longest turn first, and for each quantum that is owed all slots may have one more.
abbrev pub turn_bound : ℕ → ℕ → ℕ → ℕ → ℕ
turn_bound quantum count owed t = t + longest_turn quantum * (count * (owed + 1))

-- a step of an environment in the ticks from one on, before another
pub record StepsBetween (rows : List Row) (e from before : ℕ) : Type 0 where
  pub tick : ℕ
  pub since : from ≤ tick
  pub until : tick < before
  pub runs : runner_in tick rows ≡ Some e

-- Who holds a slot from a tick on makes a step before the bound, if the ledger is that long.
abbrev pub TurnsCome : Type 0
TurnsCome =
    (quantum end count slot e t : ℕ) (idle : Bool) (rows : List Row) → 1 ≤ quantum → count ≤ most_slots → slot < count →
    AreByRules quantum end idle rows →
    let before = turn_bound quantum count (excess_in (state_before t rows) e) t in
    before ≤ end → ((u : ℕ) → t ≤ u → u < before → HoldsSlot rows count slot e u) → StepsBetween rows e t before

-- the same of a ledger that the auditor finds clean
abbrev pub CleanTurnsCome : Type 0
CleanTurnsCome =
    (quantum count slot e t : ℕ) (plan : Option PlanValue) (ledger : LedgerValue) → 1 ≤ quantum → count ≤ most_slots →
    slot < count → audit_of quantum plan ledger ≡ Clean →
    let rows = rows_of ledger.rows in
    let before = turn_bound quantum count (excess_in (state_before t rows) e) t in
    before ≤ ledger.time → ((u : ℕ) → t ≤ u → u < before → HoldsSlot rows count slot e u) →
    StepsBetween rows e t before
