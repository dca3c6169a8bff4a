-- Each turn of the loop is one event more.
use Rattle.std.proofs.Common.{List, sym, ◌∙◌, ap, rules}
use Rattle.std.specs.List.{take-map}
use Rattle.external_event.specs.declared.event.Occurrence.{Occurrence}
use Rattle.external_event.specs.EventValue.{EventValue}
use Rattle.board_model.specs.Showing.{world_of}
use Rattle.aegis_tick.specs.Course.{world_with}
use Rattle.aegis_tick.proofs.Happening.{one_more}
use Rattle.aegis_tick.proofs.Refusals.{on_err}
use Rattle.aegis_tick.proofs.running.happen_all.Goals as goal

pub returns-in_err-make_room-clause-part : goal.returns-in_err-make_room-clause-part
returns-in_err-make_room-clause-part c =
    let i = c.loop-one.one-index in
    on_err c.from_residual.result (
      i,
      c.in_err-make_room.ensures.world
          ∙ c.loop-one.invariant.world
          ∙ ap (λ (xs : List Occurrence). world_with xs (world_of c.args.board.now)) (sym (take-map (λ (x : EventValue). x.what) i c.args.events.now)),
    )

pub loop-one-preserved : goal.loop-one-preserved
loop-one-preserved c = search (rules, one_more)
