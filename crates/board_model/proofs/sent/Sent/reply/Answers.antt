-- A packet for which there is room is sent, and each other is dropped.
use Rattle.std.proofs.Common.{vec_len, arith}
use Rattle.board_model.proofs.Sending.{replied_full, replied_one}
use Rattle.board_model.proofs.sent.Sent.reply.Goals as goal

pub returns-then-len-lt-MOST_SENT : goal.returns-then-len-lt-MOST_SENT
returns-then-len-lt-MOST_SENT c = grind (arith, vec_len, replied_one)

pub returns-else-len-lt-MOST_SENT : goal.returns-else-len-lt-MOST_SENT
returns-else-len-lt-MOST_SENT c = grind (arith, vec_len, replied_full)
