-- What is shown of an environment in two runs.
use Rattle.std.specs.Prelude.{◌≡◌, ℕ}
use Rattle.run_model.specs.Run.{System, world_after}
use Rattle.run_model.specs.Slices.{IsEndOf}
use Rattle.run_report.specs.Report.{env_text}
use Rattle.quiet_law.specs.Quiet.{IsQuietInBoth}

-- At the end of its slice n a quiet environment is shown alike in two systems.
abbrev pub QuietIsShownAlike : Type 0
QuietIsShownAlike = (left right : System) (e n t u : ℕ) → IsQuietInBoth left right e t u
    → IsEndOf left e n t → IsEndOf right e n u → env_text (world_after left t) e ≡ env_text (world_after right u) e
