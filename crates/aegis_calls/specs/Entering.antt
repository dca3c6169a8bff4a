-- A runner that stands where it enters the kernel. For proofs: nobody has to believe it.
use Rattle.std.specs.Prelude.{◌≡◌, ◌<◌, ℕ, false, IsSome, Option, Some, None}
use Rattle.revocation_book.specs.RevocationBook.{is_any_due}
use Rattle.r3k_machine.specs.declared.entry.Entry.{Entry}
use Rattle.r3k_machine.specs.Entry.{came_by}
use Rattle.world_model.specs.Book.{running}
use Rattle.world_model.specs.Tick.{served, turn}
use Rattle.world_model.specs.World.{World}
use Rattle.run_model.specs.Run.{after_phase}
use Rattle.board_model.specs.Doing.{step_seen}
use Rattle.board_model.specs.Refilling.{refill_of}
use Rattle.board_model.specs.Shown.{Shown}
use Rattle.board_model.specs.Stretch.{plain_ticks}

-- The fetch of the environment's next step finds its row, and by that step it enters the kernel so.
pub record StandsAt (b : Shown) (e : ℕ) (entry : Entry) : Type 0 where
  pub found : refill_of b e ≡ None
  pub step : step_seen b e ≡ came_by entry

-- What is told of its next step: by what it enters the kernel so, or that it doesn't.
abbrev pub Tells : Shown → ℕ → Option Entry → Type 0
Tells b e (Some entry) = StandsAt b e entry
Tells b e None = (entry : Entry) → StandsAt b e entry → ⊥

-- Where fewer ticks went by than plain ones may, of at most so many, this is told of the runner's next step.
abbrev pub TellsOfNext : Shown → Shown → ℕ → ℕ → Option Entry → Type 0
TellsOfNext before now most ticks told =
    (e : ℕ) → running before.slots.runner ≡ Some e
    → ticks < plain_ticks before.slots before.revocations before.time most → Tells now e told

-- Somebody runs, no deadline has come, and by its next step the runner enters the kernel so.
pub record IsEntering (b : Shown) (entry : Entry) : Type 0 where
  pub runs : IsSome b.slots.runner
  pub early : is_any_due b.revocations b.time ≡ false
  pub stands : (e : ℕ) → running b.slots.runner ≡ Some e → StandsAt b e entry

-- the world at the step of its next tick, where nothing happens from outside
abbrev pub up_to_step : World → World
up_to_step w = after_phase turn (served w)
