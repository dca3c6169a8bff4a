-- What a line of a schedule says that stands with its end, as the reader takes it.
use Rattle.std.specs.Prelude.{ℕ, List, Option, Some, None, Result, Ok, Err, if◌then◌else◌}
use Rattle.line_text.specs.Lines.{without_end}
use Rattle.line_text.specs.Outcome.{ok_seen}
use Rattle.line_text.specs.Statements.{is_empty_line}
use Rattle.external_event.specs.EventValue.{EventValue}
use Rattle.boot_schedule.specs.declared.fault.ScheduleWhy.{ScheduleWhy}
use Rattle.boot_schedule.specs.Saying.{said}
use Rattle.boot_schedule.specs.Schedule.{place_fault}

-- the event that it says, if it isn't empty
abbrev pub piece_said : List ℕ → Result (Option EventValue) ScheduleWhy
piece_said piece =
    if is_empty_line (without_end piece) then Ok None else ok_seen Some (said (without_end piece))

-- its fault, which so many others stand before, the last of them of this time
abbrev pub piece_fault : ℕ → ℕ → Result (Option EventValue) ScheduleWhy → Option ScheduleWhy
piece_fault before others (Err why) = Some why
piece_fault before others (Ok None) = None
piece_fault before others (Ok (Some event)) = place_fault before others event
