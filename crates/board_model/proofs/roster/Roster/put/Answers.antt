-- It wrote more.
use Rattle.board_model.specs.Doing.{with_bytes_put}
use Rattle.board_model.proofs.Environments.{left_as}
use Rattle.board_model.proofs.roster.Roster.put.Goals as goal

pub returns : goal.returns
returns c = rw c.put.ensures (left_as (with_bytes_put c.args.bytes.now) c.args.self.now c.args.env _ c.record_mut.ensures.environment)
