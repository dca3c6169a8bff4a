-- Each turn of the loop is one delivery more.
use Rattle.std.proofs.Common.{rules, ◌∙◌}
use Rattle.board_model.specs.Showing.{world_of}
use Rattle.wire_net.proofs.Happening.{arrives_in_part, delivery_more, on_err}
use Rattle.wire_net.proofs.station.arrive_all.Goals as goal

pub returns-in_err-arrive-clause-part : goal.returns-in_err-arrive-clause-part
returns-in_err-arrive-clause-part c =
    on_err c.from_residual.result
    (arrives_in_part c.args.machine c.args.due.now c.loop-delivery.delivery-index (world_of c.args.board.now) (world_of c.arrive.new.board) (c.in_err-arrive.ensures.refused ∙ c.loop-delivery.invariant.world))

pub loop-delivery-preserved : goal.loop-delivery-preserved
loop-delivery-preserved c = search (rules, delivery_more)
