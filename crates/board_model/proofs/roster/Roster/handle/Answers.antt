-- It has another handler.
use Rattle.board_model.specs.Doing.{with_handler_at}
use Rattle.board_model.proofs.Environments.{left_as}
use Rattle.board_model.proofs.roster.Roster.handle.Goals as goal

pub returns : goal.returns
returns c = rw c.set_handler.ensures (left_as (with_handler_at c.args.context c.args.address) c.args.self.now c.args.env _ c.record_mut.ensures.environment)
