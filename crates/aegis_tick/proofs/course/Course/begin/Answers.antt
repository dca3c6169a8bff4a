-- The first half leads to the middle of the next tick.
use Rattle.std.proofs.Common.{◌+◌, ℕ, List, refl, sym, ◌∙◌, ap, subst}
use Rattle.external_event.specs.declared.event.Occurrence.{Occurrence}
use Rattle.world_model.specs.Book.{is_idle_book}
use Rattle.world_model.specs.World.{World}
use Rattle.board_model.specs.Showing.{world_of}
use Rattle.run_model.specs.Run.{world_after}
use Rattle.aegis_tick.specs.Agenda.{AreComing}
use Rattle.aegis_tick.specs.Course.{world_with}
use Rattle.aegis_tick.specs.Halves.{first_half, mid}
use Rattle.aegis_tick.specs.OnCourse.{system_of}
use Rattle.aegis_tick.proofs.OnCourse.{due_later, due_now}
use Rattle.aegis_tick.proofs.course.Course.begin.Goals as goal

pub returns-clause-midway : goal.returns-clause-midway
returns-clause-midway c =
    let r = c.args.self.now in
    let system = system_of r in
    let v = world_of r.board in
    let now = c.requires.on.board in
    let time = c.in_ok-begin_with.ensures.same.time in
    let happens =
    due_now c.law_agenda.ensures r.events.now r.agenda c.due-now.result.now c.due-now.new.self _ _ c.time.ensures c.due-now.ensures.now c.due-now.ensures.left c.requires.on.coming in
    let later =
    due_later c.law_agenda.ensures r.events.now r.agenda c.due-now.result.now c.due-now.new.self _ _ c.time.ensures c.due-now.ensures.now c.due-now.ensures.left c.requires.on.coming in
    record {
      world = c.in_ok-begin_with.ensures.world
          ∙ ap (λ (xs : List Occurrence). first_half (world_with xs v)) happens
          ∙ ap (mid system.schedule) now.world
          ∙ ap (λ (t : ℕ). mid system.schedule (world_after system t)) (sym time);
      busy = ap (λ (t : ℕ). is_idle_book (world_after system t).book) time ∙ ap (λ (w : World). is_idle_book w.book) (sym now.world) ∙ c.requires.busy;
      may = c.in_ok-begin_with.ensures.may;
      coming = subst (λ (t : ℕ). AreComing r.events.now (t + 1) c.due-now.new.self) (sym time) later;
      untold = refl;
      room = c.in_ok-begin_with.ensures.room;
      start = now.start;
    }
