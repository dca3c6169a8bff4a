-- A tick in two halves: what comes before the runner's step, and the rest.
use Rattle.std.specs.Prelude.{◌≡◌, ◌≤◌, ◌<◌, ℕ, ◌+◌, false, true, IsSome}
use Rattle.aegis_limits.specs.Limits.{most_ticks}
use Rattle.world_model.specs.Book.{is_idle_book}
use Rattle.world_model.specs.Event.{Schedule}
use Rattle.world_model.specs.Tick.{served, step, tick_step, timer, turn}
use Rattle.world_model.specs.World.{World}
use Rattle.run_model.specs.Run.{System, after_phase, at_step, next_world, once_happened, world_after, world_after_ticks}
use Rattle.board_model.specs.Shown.{Shown}
use Rattle.board_model.specs.Showing.{world_of}

-- the deadlines that have come are served, and the turn is taken
abbrev pub first_half : World → World
first_half w = after_phase turn (served w)

-- the runner makes its step, and the timer counts
abbrev pub second_half : World → World
second_half w = after_phase timer (after_phase step w)

-- The world in the middle of its next tick: what happens has happened, and the step is to come.
abbrev pub mid : Schedule → World → World
mid schedule w = first_half (once_happened schedule w)

-- The second half of a tick may be made: all environments are there, somebody runs, time isn't at its end, and no more
-- claims were made than ticks.
pub record MayFinish (b : Shown) : Type 0 where
  pub whole : b.roster.spare ≡ 0
  pub runs : IsSome (world_of b).book.runner
  pub time : b.time < most_ticks
  pub numbers : b.claims.next ≤ b.time

-- The two halves are the tick.
abbrev pub HalvesAreTick : Type 0
HalvesAreTick = (w : World) → tick_step w ≡ second_half (first_half w)

-- A world that isn't idle goes by the second half from its middle to its next world.
abbrev pub MiddlesGoOn : Type 0
MiddlesGoOn = (schedule : Schedule) (w : World) → is_idle_book w.book ≡ false
    → next_world schedule w ≡ second_half (mid schedule w)

-- In a run, the middle of a tick is the moment at its step.
abbrev pub MiddlesAreAtSteps : Type 0
MiddlesAreAtSteps = (system : System) (t : ℕ) → mid system.schedule (world_after system t) ≡ at_step system t

-- An idle world stays as it is, whatever its schedule says.
abbrev pub IdleWorldsStay : Type 0
IdleWorldsStay =
    (schedule : Schedule) (w : World) (t more : ℕ) → is_idle_book (world_after_ticks schedule w t).book ≡ true
    → world_after_ticks schedule w (t + more) ≡ world_after_ticks schedule w t
