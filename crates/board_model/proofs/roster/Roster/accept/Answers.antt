-- It accepts others.
use Rattle.board_model.specs.Doing.{with_mask}
use Rattle.board_model.proofs.Environments.{left_as}
use Rattle.board_model.proofs.roster.Roster.accept.Goals as goal

pub returns : goal.returns
returns c = rw c.set_accept.ensures (left_as (with_mask c.args.mask) c.args.self.now c.args.env _ c.record_mut.ensures.environment)
