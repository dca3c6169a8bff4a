-- Phases that are told.
use Rattle.std.specs.Prelude.{◌≡◌, ℕ, List, [], ◌∷◌}
use Rattle.external_event.specs.declared.event.Occurrence.{Occurrence}
use Rattle.world_model.specs.Deadlines.{takings}
use Rattle.world_model.specs.Tick.{phases_after}
use Rattle.world_model.specs.World.{World, Reply, in_turn, run_phases}
use Rattle.feed_log.specs.Views.{ItemSeen}
use Rattle.feed_telling.specs.Tell.{AreTold}
use Rattle.aegis_tick.specs.Course.{world_with}

-- Phases lead from a world to another, and what they give an environment was told at the end of a log.
pub record PhasesTold (e : ℕ) (phases : List (World → Reply)) (w v : World) (old new : List ItemSeen) : Type 0 where
  pub world : v ≡ run_phases w phases
  pub told : AreTold old new ((in_turn phases w).items e)

-- one phase does
abbrev pub PhaseTold : ℕ → (World → Reply) → World → World → List ItemSeen → List ItemSeen → Type 0
PhaseTold e phase w v old new = PhasesTold e (phase ∷ []) w v old new

-- the phases of a tick in which this happens
abbrev pub phases_with : List Occurrence → World → List (World → Reply)
phases_with happens w = phases_after happens (takings (world_with happens w))
