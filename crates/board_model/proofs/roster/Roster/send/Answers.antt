-- It sent more.
use Rattle.board_model.specs.Doing.{with_packet_sent}
use Rattle.board_model.proofs.Environments.{left_as}
use Rattle.board_model.proofs.roster.Roster.send.Goals as goal

pub returns : goal.returns
returns c = rw c.send.ensures (left_as (with_packet_sent c.args.bytes.now) c.args.self.now c.args.env _ c.record_mut.ensures.environment)
