-- `run IMAGE SCHEDULE TICKS`: the report of an image's world after so many ticks, in which the schedule's events
-- happen.
use Rattle.std.specs.Prelude.{ℕ, List, [], ◌∷◌, Option, None, option_map}
use Rattle.boot_image.specs.ImageValue.{ImageValue}
use Rattle.external_event.specs.EventValue.{EventValue}
use Rattle.world_model.specs.Event.{schedule_of}
use Rattle.run_model.specs.Run.{world_after, end_of_run}
use Rattle.run_report.specs.Report.{report_text}
use Rattle.commands.specs.Command.{CommandValue}
use Rattle.commands.specs.Due.{Due}
use Rattle.aegis_command.specs.Ranges.{ticks_of}
use Rattle.aegis_command.specs.SystemDue.{FileNames, Writing, system_command, system_due, system_words}
use Rattle.aegis_command.specs.declared.run_image.Report.{Report}

-- the report of an image's world after so many ticks, in which these events happen
unfoldable pub report_after : ImageValue → List EventValue → ℕ → List ℕ
report_after image events ticks =
    let w = world_after (record { image = image; schedule = schedule_of events }) ticks
    in report_text w (end_of_run w ticks)

-- what is written for so many ticks
abbrev pub run_writing : ℕ → Writing
run_writing ticks image events = report_after image events ticks

abbrev pub report_writing : Report → Writing
report_writing report = run_writing report.ticks.number

-- the words behind the names of the files
abbrev pub report_asked : List (List ℕ) → Option Writing
report_asked (ticks ∷ []) = option_map run_writing (ticks_of ticks)
report_asked words = None

-- the first file with a fault is refused, and if none has one, the report is due
abbrev pub run_due : FileNames → ℕ → (image schedule : List ℕ) → Due
run_due names ticks = system_due names (run_writing ticks)

abbrev pub run_image : FileNames → ℕ → CommandValue
run_image names ticks = system_command names (run_writing ticks)

-- the words behind `run`
abbrev pub run_words : List (List ℕ) → Option CommandValue
run_words = system_words report_asked
