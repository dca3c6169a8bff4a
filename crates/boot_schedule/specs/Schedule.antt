-- The first fault of a schedule, and its events if it has none.
use Rattle.std.specs.Prelude.{ℕ, suc, List, [], ◌∷◌, Option, Some, None, Result, Ok, Err, nat_lt, nat_le, if◌then◌else◌}
use Rattle.std.specs.List.{filter_map}
use Rattle.std.specs.Option.{option_map, option_map_or, option_or}
use Rattle.std.specs.Result.{result_ok}
use Rattle.line_text.specs.declared.failure.LineFault.{LineFault}
use Rattle.line_text.specs.Failing.{fault_at}
use Rattle.line_text.specs.Lines.{LineValue, lines_of}
use Rattle.line_text.specs.Statements.{statements_of}
use Rattle.external_event.specs.EventValue.{EventValue}
use Rattle.boot_schedule.specs.declared.fault.ScheduleWhy.{ScheduleWhy}
use Rattle.boot_schedule.specs.declared.fault.ScheduleWhy.TheVariants.{Order, Many}
use Rattle.boot_schedule.specs.Saying.{said}

-- the events of the longest schedule
abbrev pub most_events : ℕ
most_events = 65536

-- the fault of an event's place, which so many others stand before, the last of them of this time
abbrev pub place_fault : ℕ → ℕ → EventValue → Option ScheduleWhy
place_fault before others event =
    if nat_lt event.time before then Some Order else
    if nat_le most_events others then Some Many else
    None

-- the fault of a line
abbrev pub fault_of : ℕ → ℕ → Result EventValue ScheduleWhy → Option ScheduleWhy
fault_of before others (Err why) = Some why
fault_of before others (Ok event) = place_fault before others event

abbrev pub line_fault : ℕ → ℕ → List ℕ → Option ScheduleWhy
line_fault before others text = fault_of before others (said text)

-- the event of a line, if it says one
abbrev pub event_said : List ℕ → Option EventValue
event_said text = result_ok (said text)

-- the first fault of the lines which so many others stand before, the last of them of this time
abbrev pub lines_fault : ℕ → ℕ → List LineValue → Option (LineFault ScheduleWhy)
lines_fault before others [] = None
lines_fault before others (line ∷ lines) =
    option_or (option_map (fault_at line.number) (line_fault before others line.text))
    (lines_fault (option_map_or (λ (event : EventValue). event.time) (event_said line.text) 0) (suc others) lines)

-- the events that lines say
abbrev pub events_said : List LineValue → List EventValue
events_said lines = filter_map (λ (line : LineValue). event_said line.text) lines

-- the first fault of a schedule
unfoldable pub schedule_fault : List ℕ → Option (LineFault ScheduleWhy)
schedule_fault text = lines_fault 0 0 (statements_of (lines_of text))

-- The events of a schedule, in their order. It is meant where schedule_fault finds nothing.
unfoldable pub events_of : List ℕ → List EventValue
events_of text = events_said (statements_of (lines_of text))
