-- By what call an environment has an interrupt line.
use Rattle.std.specs.Prelude.{◌≡◌, ◌<◌, ℕ, Some}
use Rattle.world_model.specs.declared.call.Deed.TheVariants.{TakesLine}
use Rattle.run_model.specs.Acting.{Does}
use Rattle.run_model.specs.Live.{Since}
use Rattle.run_model.specs.Run.{System, at_step, world_after}

-- After t ticks an environment has a line that it took by a granted call of its own, and has had ever since.
pub record IsTakenLine (system : System) (t e line : ℕ) : Type 0 where
  pub since : ℕ
  pub earlier : since < t
  pub took : Does (at_step system since) e (TakesLine line)
  pub owned : Since since t (λ s. (world_after system s).book.lines line ≡ Some e)

-- So it is of each line that has an owner.
abbrev pub LinesAreTaken : Type 0
LinesAreTaken = (system : System) (t e line : ℕ) → (world_after system t).book.lines line ≡ Some e
    → IsTakenLine system t e line
