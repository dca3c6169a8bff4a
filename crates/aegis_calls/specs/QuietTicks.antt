-- Ticks in which nothing happens from outside.
use Rattle.std.specs.Prelude.{◌≡◌, ℕ, ◌+◌}
use Rattle.world_model.specs.Event.{Schedule}
use Rattle.run_model.specs.Run.{world_after_ticks}
use Rattle.board_model.specs.Shown.{Shown}
use Rattle.board_model.specs.Showing.{world_of}
use Rattle.board_model.specs.Stretch.{AreSteady, IsQuiet}

-- where nothing happens from outside in so many ticks between two boards, they are the model's
abbrev pub AreQuietTicks : Shown → Shown → ℕ → Type 0
AreQuietTicks before now ticks =
    (schedule : Schedule) → IsQuiet schedule before.time (before.time + ticks)
    → world_of now ≡ world_after_ticks schedule (world_of before) ticks

-- and one environment runs all the time, which sends nothing
abbrev pub AreSteadyTicks : Shown → ℕ → Type 0
AreSteadyTicks before ticks =
    (schedule : Schedule) → IsQuiet schedule before.time (before.time + ticks) → AreSteady before schedule ticks
