-- Ticks of other environments.
use Rattle.std.specs.Prelude.{◌≡◌, ◌≢◌, ℕ, Some}
use Rattle.world_model.specs.Book.{running}
use Rattle.world_model.specs.World.{World}

-- somebody runs, and not this environment
abbrev pub AnotherRuns : ℕ → World → Type 0
AnotherRuns e w = (r : ℕ) × (running w.book.runner ≡ Some r) × (r ≢ e)
