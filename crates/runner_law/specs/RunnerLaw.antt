-- Who ran, by the rows of a run, and that turns come in it.
use Rattle.std.specs.Prelude.{◌≡◌, ℕ, ◌≤◌, ◌<◌, Bool, true, false}
use Rattle.std.specs.List.{list_any}
use Rattle.boot_image.specs.Accepted.{IsAccepted}
use Rattle.world_model.specs.Book.{running}
use Rattle.world_model.specs.Item.{Item, Step}
use Rattle.world_model.specs.SlotCalls.{holds}
use Rattle.run_model.specs.Run.{System, at_step, items_in, world_after}
use Rattle.ledger_audit.specs.LedgerState.{state_after}
use Rattle.ledger_audit.specs.RowRules.{is_number}
use Rattle.turn_law.specs.Ticks.{runner_in, state_before}
use Rattle.turn_law.specs.TurnLaw.{turn_bound}

-- The rows of a run have the state in which each tick began.
abbrev pub StatesAreTold : Type 0
StatesAreTold = (system : System) (t later : ℕ) → IsAccepted system.image → t ≤ later →
    state_before t (world_after system later).rows ≡ state_after (world_after system t).rows

-- and they name who runs as the step of a tick is made
abbrev pub RunnersAreTold : Type 0
RunnersAreTold = (system : System) (t later : ℕ) → IsAccepted system.image → t < later →
    runner_in t (world_after system later).rows ≡ running (at_step system t).book.runner

abbrev pub is_step : Item → Bool
is_step Step = true
is_step item = false

-- whether an environment makes a step in a tick
abbrev pub steps_in : System → ℕ → ℕ → Bool
steps_in system e t = list_any is_step (items_in system t e)

-- It makes a step in exactly the ticks for which the rows name it.
abbrev pub StepsAreTold : Type 0
StepsAreTold = (system : System) (t later e : ℕ) → IsAccepted system.image → t < later →
    steps_in system e t ≡ is_number e (runner_in t (world_after system later).rows)

-- so in two runs with the same rows it makes them in the same ticks
abbrev pub SameRowsSameSteps : Type 0
SameRowsSameSteps = (left right : System) (t later e : ℕ) → IsAccepted left.image → IsAccepted right.image → t < later →
    (world_after left later).rows ≡ (world_after right later).rows → steps_in left e t ≡ steps_in right e t

-- a step of an environment in the ticks from one on, before another
pub record StepsWithin (system : System) (e from before : ℕ) : Type 0 where
  pub tick : ℕ
  pub since : from ≤ tick
  pub until : tick < before
  pub steps : steps_in system e tick ≡ true

-- Who holds a slot from a tick on makes a step before the bound of its turn, by the slots of the image and what it owes.
abbrev pub TurnsComeInRuns : Type 0
TurnsComeInRuns = (system : System) (slot e t : ℕ) → IsAccepted system.image →
    let b = (world_after system t).book in
    let before = turn_bound system.image.quantum b.slot_count (b.excess e) t in
    ((u : ℕ) → t ≤ u → u < before → holds e ((world_after system u).book.slots slot) ≡ true) →
    StepsWithin system e t before
