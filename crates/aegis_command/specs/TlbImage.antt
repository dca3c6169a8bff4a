-- `tlb IMAGE SCHEDULE TICKS`: the report of a run, and the TLB that the run leaves.
use Rattle.std.specs.Prelude.{ℕ, List, [], ◌∷◌, ◌++◌, Option, None, option_map}
use Rattle.boot_image.specs.ImageValue.{ImageValue}
use Rattle.external_event.specs.EventValue.{EventValue}
use Rattle.kernel_journal.specs.declared.row.RunEnd.{RunEnd}
use Rattle.world_model.specs.Event.{schedule_of}
use Rattle.world_model.specs.World.{World}
use Rattle.run_model.specs.Run.{System, world_after, end_of_run}
use Rattle.run_report.specs.Report.{report_text}
use Rattle.tlb_model.specs.Cache.{Cache}
use Rattle.tlb_course.specs.Course.{cache_after}
use Rattle.tlb_report.specs.Text.{tlb_text}
use Rattle.commands.specs.Command.{CommandValue}
use Rattle.aegis_command.specs.Ranges.{ticks_of}
use Rattle.aegis_command.specs.RunImage.{report_after}
use Rattle.aegis_command.specs.SystemDue.{Writing, system_words}
use Rattle.aegis_command.specs.declared.tlb_image.ReportAndTlb.{ReportAndTlb}

-- the report of a world and its TLB, whose run ended in this way
abbrev pub board_text : World → Cache → RunEnd → List ℕ
board_text w c end = report_text w end ++ tlb_text w c end

-- the TLB of an image's run after so many ticks, in which these events happen
unfoldable pub tlb_after : ImageValue → List EventValue → ℕ → List ℕ
tlb_after image events ticks =
    let system : System = record { image = image; schedule = schedule_of events } in
    let w = world_after system ticks
    in tlb_text w (cache_after system ticks) (end_of_run w ticks)

-- the report of the run, as `run` writes it, and behind it the TLB
abbrev pub report_and_tlb : ℕ → Writing
report_and_tlb ticks image events = report_after image events ticks ++ tlb_after image events ticks

abbrev pub report_and_tlb_writing : ReportAndTlb → Writing
report_and_tlb_writing asked = report_and_tlb asked.ticks.number

-- the words behind the names of the files
abbrev pub report_and_tlb_asked : List (List ℕ) → Option Writing
report_and_tlb_asked (ticks ∷ []) = option_map report_and_tlb (ticks_of ticks)
report_and_tlb_asked words = None

-- the words behind `tlb`
abbrev pub tlb_words : List (List ℕ) → Option CommandValue
tlb_words = system_words report_and_tlb_asked
