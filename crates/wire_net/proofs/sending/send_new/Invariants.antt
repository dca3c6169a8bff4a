-- What environments of lower numbers sent is sent and counted.
use Rattle.std.proofs.Common.{◌≡◌, ◌≤◌, ◌<◌, ◌++◌, ℕ, get_or, length}
use Rattle.board_model.specs.Showing.{world_of}
use Rattle.wire_model.specs.Wire.{joined}
use Rattle.wire_net.specs.Sending.{packets_sent, sent_after}
use Rattle.wire_net.proofs.sending.send_new.Given as goal

abbrev pub invariant-loop-env : goal.invariant-loop-env
invariant-loop-env l = record {
  sent : l.out.items ≡ l.fn.out.items ++ packets_sent l.route (joined (λ (e : ℕ). sent_after l.board e (get_or l.fn.known e 0)) l.env);
  counted : (e : ℕ) → e < l.env → get_or l.known e 0 ≡ length ((world_of l.board).solos e).sent;
  left : (e : ℕ) → l.env ≤ e → get_or l.known e 0 ≡ get_or l.fn.known e 0;
  envs : length l.known ≡ length l.fn.known;
}
