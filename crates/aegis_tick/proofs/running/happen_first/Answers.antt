-- What happens leaves the board busy, and a tick follows.
use Rattle.std.proofs.Common.{sym, ◌∙◌, ap, arith, List, length}
use Rattle.std.proofs.Math.Seq.{take-length}
use Rattle.external_event.specs.declared.event.Occurrence.{Occurrence}
use Rattle.board_model.specs.Shown.{Shown}
use Rattle.board_model.specs.Showing.{world_of}
use Rattle.world_model.specs.Book.{is_idle_book}
use Rattle.world_model.specs.World.{World}
use Rattle.aegis_tick.specs.Agenda.{occurrences}
use Rattle.aegis_tick.specs.Course.{world_with}
use Rattle.aegis_tick.proofs.Happening.{still_busy}
use Rattle.aegis_tick.proofs.Refusals.{on_err}
use Rattle.aegis_tick.proofs.running.happen_first.Goals as goal

pub returns-clause-may : goal.returns-clause-may
returns-clause-may c =
    let w = world_of c.args.board.now in
    let room = c.in_ok-make_room.ensures.same in
    let happened = c.in_ok-happen_all.ensures.same in
    let time = ap (λ (b : Shown). b.time) room ∙ happened.time in
    let numbers = ap (λ (b : Shown). b.claims.next) room ∙ happened.numbers in
    record {
      whole = ap (λ (b : Shown). b.roster.spare) room ∙ happened.whole ∙ c.requires.may.whole;
      busy = ap (λ (v : World). is_idle_book v.book) (c.in_ok-make_room.ensures.world ∙ c.in_ok-happen_all.ensures.world)
          ∙ still_busy (occurrences c.args.events.now) w ∙ c.requires.may.busy;
      time = omega (arith, time, c.requires.may.time);
      numbers = omega (arith, time, numbers, c.requires.may.numbers);
    }

pub returns-in_err-make_room-clause-part : goal.returns-in_err-make_room-clause-part
returns-in_err-make_room-clause-part c =
    let w = world_of c.args.board.now in
    let happens = occurrences c.args.events.now in
    on_err c.from_residual-in_err-make_room.result (length happens, c.in_err-make_room.ensures.world ∙ c.in_ok-happen_all.ensures.world ∙ ap (λ (xs : List Occurrence). world_with xs w) (sym (take-length happens)))
