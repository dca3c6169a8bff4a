-- The environments of lower numbers are counted.
use Rattle.std.proofs.Common.{◌≡◌, ◌<◌, ℕ, get_or, length}
use Rattle.board_model.specs.Showing.{world_of}
use Rattle.wire_net.proofs.net.sent_counts.Given as goal

abbrev pub invariant-loop-env : goal.invariant-loop-env
invariant-loop-env l = record {
  count : length l.sent.items ≡ l.env;
  each : (e : ℕ) → e < l.env → get_or l.sent.items e 0 ≡ length ((world_of l.board).solos e).sent;
}
