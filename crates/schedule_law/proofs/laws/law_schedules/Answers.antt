-- The law is the lemmas.
use Rattle.schedule_law.proofs.Saying.{events_are_within, said_is_within_limits, schedules_are_within}
use Rattle.schedule_law.proofs.laws.law_schedules.Goals as goal

pub returns : goal.returns
returns c = record { events = events_are_within; ticks = schedules_are_within; each = said_is_within_limits }
