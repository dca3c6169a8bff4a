use Rattle.std.proofs.Common.{arith}
use Rattle.filter_tree.specs.Withdrawals.{is_withdrawn}
use Rattle.filter_tree.proofs.Planting.{has_without}
use Rattle.filter_tree.proofs.Room.{room_without}
use Rattle.filter_tree.proofs.claims.Claims.withdraw.Goals as goal

pub invariant_of-self : goal.invariant_of-self
invariant_of-self c = record {
  kept = rw (c.withdraw.ensures.rows, c.withdraw.ensures.room) (room_without (is_withdrawn c.args.withdrawal) _ _ c.self.invariant.kept);
  claims = rw (c.withdraw.ensures.rows, c.withdraw-2.ensures.leaves) (has_without (is_withdrawn c.args.withdrawal) _ _ c.self.invariant.claims);
  enough = omega (arith, c.withdraw-2.ensures.room, c.self.invariant.enough);
}
