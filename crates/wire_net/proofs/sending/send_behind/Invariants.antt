-- What was sent so far and what is left is all that is to be sent.
use Rattle.std.proofs.Common.{◌≡◌, ◌++◌}
use Rattle.wire_net.specs.Sending.{packets_sent, sent_after}
use Rattle.wire_net.proofs.sending.send_behind.Given as goal

abbrev pub invariant-loop-place : goal.invariant-loop-place
invariant-loop-place l =
    l.out.items ++ packets_sent l.route (sent_after l.board l.env l.place)
    ≡ l.fn.out.items ++ packets_sent l.route (sent_after l.board l.env l.known)
