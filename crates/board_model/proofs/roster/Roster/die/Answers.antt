-- It is dead.
use Rattle.board_model.specs.Doing.{dead_frame}
use Rattle.board_model.proofs.Environments.{left_as}
use Rattle.board_model.proofs.roster.Roster.die.Goals as goal

pub returns : goal.returns
returns c = rw c.clear.ensures (left_as (dead_frame c.args.cause) c.args.self.now c.args.env _ c.record_mut-environment.ensures.environment)
