-- The second half leads from the middle of a tick to its end.
use Rattle.std.proofs.Common.{◌≡◌, ◌+◌, ℕ, Option, sym, ◌∙◌, ap, subst, add-one, refl, arith}
use Rattle.std.specs.Prelude.{IfSome}
use Rattle.r3k_machine.specs.declared.entry.Entry.{Entry}
use Rattle.aegis_calls.specs.Entering.{IsEntering}
use Rattle.run_model.specs.Run.{next_world, world_after}
use Rattle.aegis_tick.specs.Agenda.{AreComing}
use Rattle.aegis_tick.specs.Halves.{second_half}
use Rattle.aegis_tick.specs.OnCourse.{system_of}
use Rattle.aegis_tick.proofs.course.Course.finish.Goals as goal

pub returns-clause-on : goal.returns-clause-on
returns-clause-on c =
    let r = c.args.self.now in
    let system = system_of r in
    let t = r.board.time in
    let done = c.finish_tick.ensures.ticked in
    let one : next_world system.schedule (world_after system t) ≡ world_after system (t + 1) = rw add-one refl in
    record {
      board = record {
        world = c.finish_tick.ensures.world
            ∙ ap second_half c.requires.world
            ∙ sym (c.law_halves.ensures.next system.schedule (world_after system t) c.requires.busy)
            ∙ one
            ∙ ap (world_after system) (sym done.time);
        within = omega (arith, done.time, c.requires.may.time);
        whole = done.whole;
        numbers = done.numbers;
        start = c.requires.start;
      };
      coming = subst (λ (n : ℕ). AreComing r.events.now n r.agenda) (sym done.time) c.requires.coming;
      entering = subst (λ (entry : Option Entry). IfSome entry (IsEntering c.finish_tick.new.board)) (sym c.requires.untold) tt;
    }
