-- One line more is cleared.
use Rattle.std.proofs.Common.{arith, ◌∙◌, None}
use Rattle.slot_vector.proofs.Release.{mapped_further}
use Rattle.world_model.specs.LineCalls.{line_without}
use Rattle.board_model.proofs.lines.clear.Goals as goal

pub loop-owner-preserved : goal.loop-owner-preserved
loop-owner-preserved c = rw c.without.ensures (mapped_further (line_without c.args.env) c.loop-owner.owners c.loop-owner.owner-index None (omega arith) ∙ c.loop-owner.invariant)
