-- What two runs show of an environment that is given the same in both.
use Rattle.std.specs.Prelude.{◌≡◌, ℕ, false}
use Rattle.world_model.specs.World.{World}
use Rattle.run_model.specs.Run.{System, feed, world_after}
use Rattle.run_model.specs.Slices.{runs_after, slices}
use Rattle.run_report.specs.Report.{env_text}
use Rattle.quiet_law.specs.Quiet.{IsQuietInBoth}

-- a world in which nobody owes anything
abbrev pub owing_none : World → World
owing_none w = record w { book = record w.book { excess = λ e. 0 } }

-- Where an environment is given the same, and runs in both or in neither, all that is shown of it is the same but for
-- its excess, which no item tells;
abbrev pub TwoRunsLeaveSame : Type 0
TwoRunsLeaveSame = (left right : System) (e t u : ℕ) → feed left e t ≡ feed right e u
    → runs_after left e t ≡ runs_after right e u
    → env_text (owing_none (world_after left t)) e ≡ env_text (owing_none (world_after right u)) e

-- and where it owes the same too, all is the same.
abbrev pub TwoRunsShowSame : Type 0
TwoRunsShowSame = (left right : System) (e t u : ℕ) → feed left e t ≡ feed right e u
    → runs_after left e t ≡ runs_after right e u
    → (world_after left t).book.excess e ≡ (world_after right u).book.excess e
    → env_text (world_after left t) e ≡ env_text (world_after right u) e

-- So it is of a quiet environment between its slices, at any ticks of two systems at which as many have ended.
abbrev pub QuietIsLeftAlike : Type 0
QuietIsLeftAlike = (left right : System) (e t u : ℕ) → IsQuietInBoth left right e t u
    → runs_after left e t ≡ false → runs_after right e u ≡ false → slices left e t ≡ slices right e u
    → env_text (owing_none (world_after left t)) e ≡ env_text (owing_none (world_after right u)) e
