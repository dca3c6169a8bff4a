-- Nothing happens before the next event, so the plain ticks are those of the run.
use Rattle.std.proofs.Common.{◌+◌, ◌-◌, ◌≤◌, ℕ, sym, subst, arith}
use Rattle.world_model.specs.Event.{schedule_of}
use Rattle.board_model.specs.Stretch.{IsQuiet}
use Rattle.aegis_tick.specs.Agenda.{AreComing, next_time_of}
use Rattle.aegis_tick.specs.OnCourse.{system_of}
use Rattle.aegis_tick.proofs.OnCourse.{glided_cache, glided_on}
use Rattle.aegis_tick.proofs.course.Course.glide.Goals as goal

early : (c : goal.After-self-1) → c.stretch-stretch.result.made ≤ next_time_of c.args.self.now.agenda - c.args.self.now.board.time
early c = omega (arith, c.stretch-stretch.ensures.stretch.most, c.ticks_before-quiet.ensures, c.time.ensures)

quiet : (c : goal.After-self-1) → (let r = c.args.self.now in IsQuiet (schedule_of r.events.now) r.board.time (r.board.time + c.stretch-stretch.result.made))
quiet c =
    let r = c.args.self.now in
    c.law_agenda.ensures.quiet r.events.now r.agenda r.board.time c.stretch-stretch.result.made c.requires.on.coming (early c)

pub returns-clause-on : goal.returns-clause-on
returns-clause-on c =
    let r = c.args.self.now in
    let k = c.stretch-stretch.result.made in
    let went = c.stretch-stretch.ensures.stretch in
    record {
      board = glided_on (system_of r) r.board c.stretch-stretch.new.self k c.requires.on.board went.time (omega (arith, went.most, c.ticks_before-quiet.ensures, c.requires.limit))
          c.law_further.ensures.worlds (went.world (schedule_of r.events.now) (quiet c)) went.whole went.numbers;
      coming = subst (λ (t : ℕ). AreComing r.events.now t r.agenda) (sym went.time)
          (c.law_agenda.ensures.still r.events.now r.agenda r.board.time k c.requires.on.coming (early c));
      entering = c.stretch-stretch.ensures.entry;
    }

pub returns-clause-cached : goal.returns-clause-cached
returns-clause-cached c cached =
    let r = c.args.self.now in
    let went = c.stretch-stretch.ensures.stretch in
    glided_cache (system_of r) r.board c.stretch-stretch.new.self c.stretch-stretch.result.made c.requires.on.board went.time (omega (arith, went.most, c.ticks_before-quiet.ensures, c.requires.limit))
    c.law_further.ensures.caches (went.tlb (schedule_of r.events.now) (quiet c)) cached

pub returns-clause-quiet : goal.returns-clause-quiet
returns-clause-quiet c = quiet c

pub returns-clause-steady : goal.returns-clause-steady
returns-clause-steady c = c.stretch-stretch.ensures.stretch.steady (schedule_of c.args.self.now.events.now) (quiet c)
