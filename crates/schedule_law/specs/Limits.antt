-- What a schedule says is within limits.
use Rattle.std.specs.Prelude.{◌≡◌, ℕ, true, List}
use Rattle.std.specs.List.{list_all}
use Rattle.external_event.specs.EventValue.{is_event}
use Rattle.world_model.specs.Event.{schedule_of}
use Rattle.boot_schedule.specs.Schedule.{events_of}
use Rattle.report_law.specs.ReportLaw.{AreEventsWithin}
use Rattle.sharing_law.specs.Whole.{AreEventsWithinLimits}

-- Each event that a text says is within its limits: its tick, a packet's length, a line's number, and the numbers of a
-- revocation.
abbrev pub EventsAreWithin : Type 0
EventsAreWithin = (text : List ℕ) → list_all is_event (events_of text) ≡ true

-- So it is in each tick of the schedule that the text is.
abbrev pub SchedulesAreWithin : Type 0
SchedulesAreWithin = (text : List ℕ) → AreEventsWithin (schedule_of (events_of text))

-- The same as the laws of pages and packets presuppose it: each single event of a tick.
abbrev pub SaidIsWithinLimits : Type 0
SaidIsWithinLimits = (text : List ℕ) → AreEventsWithinLimits (schedule_of (events_of text))
