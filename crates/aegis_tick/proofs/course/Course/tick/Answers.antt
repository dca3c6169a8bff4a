-- The tick is the next one of the run.
use Rattle.std.proofs.Common.{◌≡◌, ◌+◌, ℕ, sym, subst}
use Rattle.world_model.specs.Event.{schedule_of}
use Rattle.aegis_tick.specs.Agenda.{AreComing, occurrences}
use Rattle.aegis_tick.specs.OnCourse.{system_of}
use Rattle.aegis_tick.proofs.OnCourse.{cached_on, due_later, due_now, ticked_on}
use Rattle.aegis_tick.proofs.course.Course.tick.Goals as goal

-- what happens in it
happens : (c : goal.In_ok-tick_next) → occurrences c.due-now.result.now ≡ schedule_of c.args.self.now.events.now c.args.self.now.board.time
happens c =
    due_now c.law_agenda.ensures c.args.self.now.events.now c.args.self.now.agenda c.due-now.result.now c.due-now.new.self _ _ c.time.ensures c.due-now.ensures.now c.due-now.ensures.left c.requires.on.coming

later : (c : goal.In_ok-tick_next) → AreComing c.args.self.now.events.now (c.args.self.now.board.time + 1) c.due-now.new.self
later c =
    due_later c.law_agenda.ensures c.args.self.now.events.now c.args.self.now.agenda c.due-now.result.now c.due-now.new.self _ _ c.time.ensures c.due-now.ensures.now c.due-now.ensures.left c.requires.on.coming

pub returns-clause-on : goal.returns-clause-on
returns-clause-on c =
    let r = c.args.self.now in
    let ticked = c.in_ok-tick_next.ensures.ticked in
    record {
      board = ticked_on (system_of r) r.board c.tick_next.new.board _ c.requires.on.board c.requires.busy (happens c) c.requires.time ticked c.in_ok-tick_next.ensures.world;
      coming = subst (λ (t : ℕ). AreComing r.events.now t c.due-now.new.self) (sym ticked.time) (later c);
      entering = tt;
    }

pub returns-clause-cached : goal.returns-clause-cached
returns-clause-cached c cached =
    let r = c.args.self.now in
    cached_on (system_of r) r.board c.tick_next.new.board _ c.requires.on.board c.requires.busy (happens c) c.requires.time c.in_ok-tick_next.ensures.ticked
    c.in_ok-tick_next.ensures.tlb cached
