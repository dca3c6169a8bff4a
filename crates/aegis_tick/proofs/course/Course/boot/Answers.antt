-- A run that begins is on its course.
use Rattle.std.proofs.Common.{◌≡◌, ℕ, refl, sym, ◌∙◌, ap, subst, true, arith}
use Rattle.external_event.specs.Order.{are_in_order}
use Rattle.world_model.specs.Event.{schedule_of}
use Rattle.run_model.specs.Run.{System, world_after}
use Rattle.tlb_course.specs.Course.{cache_after}
use Rattle.aegis_tick.specs.Agenda.{AreComing}
use Rattle.aegis_tick.proofs.Booted.{boot_time}
use Rattle.aegis_tick.proofs.course.Course.boot.Goals as goal

pub returns-clause-on : goal.returns-clause-on
returns-clause-on c =
    let system : System = record { image = c.args.image.now; schedule = schedule_of c.args.events.now } in
    let fresh = c.in_ok-board.ensures.fresh in
    record {
      board = record {
        world = c.in_ok-board.ensures.world ∙ ap (world_after system) (sym fresh.time);
        within = omega (arith, fresh.time);
        whole = fresh.whole;
        numbers = omega (arith, fresh.time, fresh.numbers);
        start = boot_time c.args.image.now;
      };
      coming = subst (AreComing c.args.events.now c.in_ok-board.board.time) (sym c.of.ensures) (record { order = subst (λ (t : ℕ). are_in_order t c.args.events.now ≡ true) (sym fresh.time) c.requires; same = λ t from. refl });
      entering = tt;
    }

pub returns-clause-cached : goal.returns-clause-cached
returns-clause-cached c =
    let system : System = record { image = c.args.image.now; schedule = schedule_of c.args.events.now } in
    c.in_ok-board.ensures.tlb ∙ ap (cache_after system) (sym c.in_ok-board.ensures.fresh.time)
