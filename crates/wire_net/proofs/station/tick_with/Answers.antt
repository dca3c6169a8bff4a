-- What happens leaves the board busy, and a tick follows.
use Rattle.std.proofs.Common.{sym, ◌∙◌, ap, arith, ◌++◌}
use Rattle.board_model.specs.Shown.{Shown}
use Rattle.board_model.specs.Showing.{world_of}
use Rattle.world_model.specs.Book.{is_idle_book}
use Rattle.world_model.specs.Tick.{tick_step}
use Rattle.world_model.specs.World.{World}
use Rattle.aegis_tick.specs.Agenda.{occurrences}
use Rattle.aegis_tick.specs.Course.{world_with}
use Rattle.wire_net.specs.Delivery.{arriving}
use Rattle.wire_net.proofs.Happening.{in_two, on_err, part_of_first, part_of_second, part_whole, still_busy}
use Rattle.wire_net.proofs.station.tick_with.Goals as goal

pub returns-in_err-happen_all-clause-part : goal.returns-in_err-happen_all-clause-part
returns-in_err-happen_all-clause-part c =
    on_err c.from_residual.result
    (part_of_first (occurrences c.args.events.now) (arriving c.args.machine c.args.due.now) (world_of c.args.board.now) (world_of c.happen_all.new.board) c.in_err-happen_all.ensures.part)

pub returns-in_err-arrive_all-clause-part : goal.returns-in_err-arrive_all-clause-part
returns-in_err-arrive_all-clause-part c =
    on_err c.from_residual-in_err-arrive_all.result
    (part_of_second (occurrences c.args.events.now) (arriving c.args.machine c.args.due.now) (world_of c.args.board.now) (world_of c.happen_all.new.board) (world_of c.arrive_all.new.board)
    c.in_ok-happen_all.ensures.world c.in_err-arrive_all.ensures.part)

pub returns-in_err-make_room-clause-part : goal.returns-in_err-make_room-clause-part
returns-in_err-make_room-clause-part c =
    let first = occurrences c.args.events.now in
    let second = arriving c.args.machine c.args.due.now in
    on_err c.from_residual-in_err-make_room.result
    (part_whole (first ++ second) (world_of c.args.board.now) (world_of c.make_room.new.board)
    (c.in_err-make_room.ensures.world ∙ c.in_ok-arrive_all.ensures.world ∙ ap (world_with second) c.in_ok-happen_all.ensures.world ∙ sym (in_two first second (world_of c.args.board.now))))

pub tick-requires-clause-may : goal.tick-requires-clause-may
tick-requires-clause-may c =
    let first = occurrences c.args.events.now in
    let second = arriving c.args.machine c.args.due.now in
    let room = c.in_ok-make_room.ensures.same in
    let happened = c.in_ok-happen_all.ensures.same in
    let arrived = c.in_ok-arrive_all.ensures.same in
    let time = ap (λ (b : Shown). b.time) room ∙ arrived.time ∙ happened.time in
    let numbers = ap (λ (b : Shown). b.claims.next) room ∙ arrived.numbers ∙ happened.numbers in
    record {
      whole = ap (λ (b : Shown). b.roster.spare) room ∙ arrived.whole ∙ happened.whole ∙ c.requires.may.whole;
      busy = ap (λ (v : World). is_idle_book v.book) (c.in_ok-make_room.ensures.world ∙ c.in_ok-arrive_all.ensures.world)
          ∙ still_busy second (world_of c.happen_all.new.board)
          ∙ ap (λ (v : World). is_idle_book v.book) c.in_ok-happen_all.ensures.world
          ∙ still_busy first (world_of c.args.board.now) ∙ c.requires.may.busy;
      time = omega (arith, time, c.requires.may.time);
      numbers = omega (arith, time, numbers, c.requires.may.numbers);
    }

pub returns-clause-world : goal.returns-clause-world
returns-clause-world c =
    let first = occurrences c.args.events.now in
    let second = arriving c.args.machine c.args.due.now in
    c.tick.ensures.world
    ∙ ap tick_step (c.in_ok-make_room.ensures.world ∙ c.in_ok-arrive_all.ensures.world ∙ ap (world_with second) c.in_ok-happen_all.ensures.world ∙ sym (in_two first second (world_of c.args.board.now)))
