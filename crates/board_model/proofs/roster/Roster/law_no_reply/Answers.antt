-- The environment holds at most 256 packets.
use Rattle.std.proofs.Common.{ℕ, List, length, arith, ap}
use Rattle.board_model.proofs.Sending.{replying_none}
use Rattle.board_model.proofs.roster.Roster.law_no_reply.Goals as goal

pub returns : goal.returns
returns c = replying_none c.args.self.now.list c.args.env (omega (arith, ap (λ (packets : List (List ℕ)). length packets) c.sent.ensures, c.law_few.ensures))
