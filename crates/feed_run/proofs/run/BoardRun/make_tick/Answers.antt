-- The tick is the next one of the run, and what it gives is told.
use Rattle.std.proofs.Common.{◌+◌, List, ◌∙◌, ap, sym, subst, arith}
use Rattle.aegis_tick.specs.OnCourse.{system_of}
use Rattle.aegis_tick.specs.Agenda.{occurrences}
use Rattle.feed_log.specs.Views.{ItemSeen}
use Rattle.feed_run.specs.Whole.{IsWholeRun}
use Rattle.feed_run.proofs.Ticked.{HasTicked, behind, ends_on, one_at_most, slices_few, went_on, whole_on}
use Rattle.feed_run.proofs.run.BoardRun.make_tick.Goals as goal

pub overflow_add-self : goal.overflow_add-self
overflow_add-self c =
    let r = c.args.self.now in
    let count = c.requires.whole.slices in
    let few = slices_few (system_of r.course) r.watched r.course.board.time in
    let time = c.requires.time in
    let one = one_at_most c.slice_ended-has_ended.result in
    let more = c.one_if.ensures in
    omega (arith, count, few, time, one, more)

made : (c : goal.After-self-1) → HasTicked c.args.self.now c.due-now.new.self c.tell_tick.new.board (occurrences c.due-now.result.now) c.tell_tick.new.log
made c = record {
  now = c.requires.whole;
  busy = c.requires.busy;
  early = c.requires.time;
  these = c.due-now.ensures.now;
  coming = c.due-now.ensures.coming;
  same = c.due-now.ensures.same;
  told = c.in_ok-tell_tick.ensures.told;
  ticked = c.in_ok-tell_tick.ensures.ticked;
}

pub returns-clause-went : goal.returns-clause-went
returns-clause-went c =
    let r = c.args.self.now in
    let left = c.due-now.new.self in
    let next = c.tell_tick.new.board in
    let happens = occurrences c.due-now.result.now in
    let tick = c.tell_tick.new.log in
    let ends = c.slice_ended-has_ended.ensures
    ∙ ends_on r left next happens tick (made c) c.is_running-ran.result c.in_ok-begins.begins c.is_running.result c.is_running-ran.ensures c.in_ok-begins.ensures.begins c.is_running.ensures in
    went_on r left next happens tick (made c) c.receive.new.self (r.ended + c.one_if.result) c.slice_ended-has_ended.result
    c.in_ok-begins.ensures.log ends (ap (λ n. r.ended + n) c.one_if.ensures)

pub returns-clause-whole : goal.returns-clause-whole
returns-clause-whole c =
    let r = c.args.self.now in
    let left = c.due-now.new.self in
    let next = c.tell_tick.new.board in
    let new = c.receive.new.self in
    let count = r.ended + c.one_if.result in
    subst (λ (log : List ItemSeen). IsWholeRun (record (behind r left next new count) { tick = log })) (sym c.clear.ensures)
    (whole_on r left next (occurrences c.due-now.result.now) c.tell_tick.new.log (made c) new count c.slice_ended-has_ended.result
    c.in_ok-begins.ensures.log (returns-clause-went c).ends (ap (λ n. r.ended + n) c.one_if.ensures))
