-- A trace and a feed have the same steps.
use Rattle.std.specs.Prelude.{◌≡◌, ◌<◌, ℕ, length}
use Rattle.boot_image.specs.Accepted.{IsAccepted}
use Rattle.run_model.specs.Run.{System, world_after}
use Rattle.aegis_tick.specs.Halves.{mid}
use Rattle.trace_view.specs.Trace.{makes_step}
use Rattle.runner_law.specs.RunnerLaw.{steps_in}

-- A tick of a run has a line in the trace of an environment of the image exactly where it makes a step in it.
abbrev pub TraceIsFeed : Type 0
TraceIsFeed = (system : System) (e t : ℕ) → IsAccepted system.image → e < length system.image.programs →
    makes_step e (mid system.schedule (world_after system t)) ≡ steps_in system e t
