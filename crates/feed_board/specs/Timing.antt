-- In which phase of its time a runner is.
use Rattle.std.specs.Prelude.{Bool, false, Option, Some, None}
use Rattle.world_model.specs.declared.slot.Runner.{Runner}
use Rattle.world_model.specs.SlotCalls.{in_grace}

-- whether somebody runs in time of grace
abbrev pub runs_in_grace : Option Runner → Bool
runs_in_grace None = false
runs_in_grace (Some r) = in_grace r.phase
