-- It sent a reply.
use Rattle.std.proofs.Common.{[], ◌∷◌}
use Rattle.board_model.specs.Doing.{with_replies_sent}
use Rattle.board_model.proofs.Environments.{left_as}
use Rattle.board_model.proofs.roster.Roster.reply.Goals as goal

pub returns : goal.returns
returns c = rw c.reply.ensures (left_as (with_replies_sent (c.args.bytes.now ∷ [])) c.args.self.now c.args.env _ c.record_mut.ensures.environment)
