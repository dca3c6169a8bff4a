-- The first events of the agenda that are of the tick's time are all that happen in it.
use Rattle.aegis_tick.proofs.OnCourse.{due_count, due_later, due_now}
use Rattle.aegis_tick.proofs.course.Course.due.Goals as goal

pub returns-clause-now : goal.returns-clause-now
returns-clause-now c =
    due_now c.law_agenda.ensures c.args.self.now.events.now c.args.self.now.agenda c.due.result.now c.due.new.self _ _ c.time.ensures c.due.ensures.now c.due.ensures.left c.requires.coming

pub returns-clause-coming : goal.returns-clause-coming
returns-clause-coming c =
    due_later c.law_agenda.ensures c.args.self.now.events.now c.args.self.now.agenda c.due.result.now c.due.new.self _ _ c.time.ensures c.due.ensures.now c.due.ensures.left c.requires.coming

pub returns-clause-fewer : goal.returns-clause-fewer
returns-clause-fewer c =
    due_count c.law_agenda.ensures c.args.self.now.events.now c.args.self.now.agenda c.due.result.now c.due.new.self _ _ c.time.ensures c.due.ensures.now c.due.ensures.left c.requires.coming
