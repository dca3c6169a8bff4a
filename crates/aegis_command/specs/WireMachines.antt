-- `wire DELAY TICKS (IMAGE SCHEDULE)..`: the reports of machines on a wire.
use Rattle.std.specs.Prelude.{ℕ, ◌+◌, ◌*◌, ◌/◌, ◌%◌, List, [], ◌∷◌, ◌++◌, Option, Some, None, option_map, Bool, ◌==◌, ◌&&◌, nat_le, if◌then◌else◌, codes, length}
use Rattle.std.specs.Option.{option_and_then}
use Rattle.line_text.specs.Text.{dec_text}
use Rattle.line_text.specs.WrittenLine.{line}
use Rattle.boot_image.specs.ImageValue.{image_of}
use Rattle.boot_schedule.specs.Schedule.{events_of}
use Rattle.world_model.specs.Event.{schedule_of}
use Rattle.world_model.specs.World.{World}
use Rattle.run_model.specs.Boot.{boot_world}
use Rattle.run_model.specs.Run.{end_of_run}
use Rattle.run_report.specs.Report.{report_text}
use Rattle.wire_model.specs.Limits.{most_machines}
use Rattle.wire_model.specs.Wire.{Machine, Wire, joined, world_on_wire}
use Rattle.commands.specs.Command.{CommandValue, content, no_further}
use Rattle.commands.specs.Due.{Due, Whole, unless_refused}
use Rattle.aegis_command.specs.Ranges.{delay_of, wire_ticks_of}
use Rattle.aegis_command.specs.SystemDue.{system_refusals}

-- whether names are pairs, from one to as many as there may be machines
abbrev pub are_pairs : List (List ℕ) → Bool
are_pairs names = length names % 2 == 0 && nat_le 2 (length names) && nat_le (length names) (2 * most_machines)

-- the machine of each pair of an image and a schedule
abbrev pub machine_in : List (List ℕ) → ℕ → Machine
machine_in contents i = record {
  start = boot_world (image_of (content contents (2 * i)));
  schedule = schedule_of (events_of (content contents (2 * i + 1)));
}

abbrev pub wire_of : List (List ℕ) → ℕ → Wire
wire_of contents delay = record { machines = machine_in contents; count = length contents / 2; delay = delay }

-- a machine's number, and the report of its world after so many ticks
abbrev pub machine_report : ℕ → World → ℕ → List ℕ
machine_report i w ticks = line (codes "machine" ∷ dec_text i ∷ []) ++ report_text w (end_of_run w ticks)

-- how many machines there are, and each in turn
abbrev pub reports_text : (ℕ → World) → ℕ → ℕ → List ℕ
reports_text worlds count ticks =
    line (codes "aegis" ∷ codes "wire" ∷ dec_text count ∷ []) ++ joined (λ i. machine_report i (worlds i) ticks) count
    ++ line (codes "done" ∷ [])

unfoldable pub wire_text : Wire → ℕ → List ℕ
wire_text net ticks = reports_text (λ i. world_on_wire net i ticks) net.count ticks

-- the files that are refused, in their order
abbrev pub refusals : List (List ℕ) → List (List ℕ) → List (Option Due)
refusals (image ∷ schedule ∷ names) (program ∷ events ∷ contents) =
    system_refusals (record { image = image; schedule = schedule }) program events (refusals names contents)
refusals names contents = []

-- the first file with a fault is refused, and if none has one, the reports are due
abbrev pub wire_due : List (List ℕ) → ℕ → ℕ → List (List ℕ) → Due
wire_due names delay ticks contents =
    unless_refused (refusals names contents) (Whole (wire_text (wire_of contents delay) ticks))

abbrev pub wire_machines : List (List ℕ) → ℕ → ℕ → CommandValue
wire_machines names delay ticks = record {
  names = names;
  further = no_further;
  due = λ contents. Some (wire_due names delay ticks contents);
}

-- the words behind `wire`
abbrev pub wire_words : List (List ℕ) → Option CommandValue
wire_words (delay ∷ ticks ∷ names) =
    if are_pairs names
    then option_and_then (λ d. option_map (wire_machines names d) (wire_ticks_of ticks)) (delay_of delay) else None
wire_words words = None
