-- Each turn of the loop is one packet more.
use Rattle.std.proofs.Common.{◌∙◌, ap, ◌++◌, ◌∷◌, [], List, ℕ, arith}
use Rattle.board_model.specs.Showing.{world_of}
use Rattle.wire_net.specs.Sending.{packets_sent, sent_after}
use Rattle.wire_net.proofs.Sends.{one_sent}
use Rattle.wire_net.proofs.sending.send_behind.Goals as goal

pub loop-place-preserved : goal.loop-place-preserved
loop-place-preserved c =
    let route = c.args.route in
    let packets = ((world_of c.args.board.now).solos c.args.env).sent in
    one_sent route packets c.loop-place.place c.loop-place.out.items c.send.new.out.items
    (c.args.out.now.items ++ packets_sent route (sent_after c.args.board.now c.args.env c.args.known))
    (omega (arith, c.loop-place-test.true, c.sent_count-place-end.ensures)) c.loop-place.invariant
    (c.in_ok-send.ensures ∙ ap (λ (packet : List ℕ). c.loop-place.out.items ++ packets_sent route (packet ∷ [])) c.packet_at.ensures)
