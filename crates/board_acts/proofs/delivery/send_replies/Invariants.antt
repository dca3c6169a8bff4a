-- The replies so far are sent.
use Rattle.std.proofs.Common.{◌≡◌, take}
use Rattle.board_model.specs.Shown.{with_record, with_list}
use Rattle.board_model.specs.Doing.{with_replies_sent}
use Rattle.board_acts.proofs.delivery.send_replies.Given as goal

abbrev pub invariant-loop-n : goal.invariant-loop-n
invariant-loop-n l = l.roster ≡ with_list l.fn.roster (with_record (with_replies_sent (take l.n l.replies)) l.fn.roster.list l.env)
