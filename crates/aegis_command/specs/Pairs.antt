-- The pairs of an image and a schedule that are read as machines.
use Rattle.std.specs.Prelude.{◌≡◌, ℕ, ◌+◌, ◌*◌, ◌/◌, ◌<◌, List, [], Option, Vec, get_or, length, true}
use Rattle.std.specs.Global.{Global}
use Rattle.boot_image.specs.ImageValue.{image_of}
use Rattle.boot_schedule.specs.Schedule.{events_of}
use Rattle.external_event.specs.EventValue.{EventValue}
use Rattle.external_event.specs.Order.{are_in_order}
use Rattle.board_model.specs.Shown.{Shown}
use Rattle.board_model.specs.Showing.{world_of}
use Rattle.board_model.specs.Ticks.{IsFresh}
use Rattle.run_model.specs.Boot.{boot_world}
use Rattle.commands.specs.Command.{content}
use Rattle.commands.specs.Due.{Due, unless_refused}
use Rattle.commands.specs.Work.{Settles}
use Rattle.aegis_command.specs.SystemDue.{FileNames, system_refusals}
use Rattle.aegis_command.specs.SystemFiles.{AreSound}
use Rattle.aegis_command.specs.WireMachines.{refusals, reports_text}
use Rattle.aegis_command.specs.declared.wire_machines.Pair.{Pair}
use Rattle.aegis_command.specs.declared.wire_machines.Pair.TheVariants as pair
use Rattle.aegis_command.specs.declared.wire_machines.Pairs.{Pairs}
use Rattle.aegis_command.specs.declared.wire_machines.Pairs.TheVariants as pairs

-- a board that an image boots, and the events of a schedule
pub record IsMachine (program plan : List ℕ) (b : Shown) (list : List EventValue) : Type 0 where
  pub world : world_of b ≡ boot_world (image_of program)
  pub fresh : IsFresh b
  pub events : list ≡ events_of plan
  pub ordered : are_in_order 0 list ≡ true

-- two files are a machine, or the first that has a fault is refused, whatever else is due
abbrev pub IsPair : FileNames → (image schedule : List ℕ) → Pair → Type 0
IsPair names image schedule (pair.Refused answer) =
    (others : List (Option Due)) (due : Due)
    → Settles (unless_refused (system_refusals names image schedule others) due) answer
IsPair names image schedule (pair.Sound board events) =
    AreSound image schedule × IsMachine image schedule board events.items

-- so it is with the pair of this number
abbrev pub IsPairAt : (names contents : List (List ℕ)) → ℕ → Pair → Type 0
IsPairAt names contents i =
    IsPair (record { image = get_or names (2 * i) []; schedule = get_or names (2 * i + 1) [] })
    (content contents (2 * i)) (content contents (2 * i + 1))

-- each pair of files is a machine
pub record AreMachines (contents : List (List ℕ)) (boards : List Shown)
    (schedules : List (Vec EventValue Global)) : Type 0 where
  pub each : (i : ℕ) (b : Shown) (v : Vec EventValue Global) → i < length boards
      → IsMachine (content contents (2 * i)) (content contents (2 * i + 1))
      (get_or boards i b) (get_or schedules i v).items
  pub count : length schedules ≡ length boards

-- so all pairs are, or the first file that has a fault is refused
abbrev pub ArePairs : List (List ℕ) → List (List ℕ) → Pairs → Type 0
ArePairs names contents (pairs.Refused answer) =
    (due : Due) → Settles (unless_refused (refusals names contents) due) answer
ArePairs names contents (pairs.Sound machines) =
    ((due : Due) → unless_refused (refusals names contents) due ≡ due)
    × AreMachines contents machines.boards.items machines.schedules.items
    × (length machines.boards.items ≡ length contents / 2)

-- the reports of these boards after so many ticks
abbrev pub AreReports : List Shown → ℕ → List ℕ → Type 0
AreReports boards ticks text =
    (b : Shown) → text ≡ reports_text (λ i. world_of (get_or boards i b)) (length boards) ticks
