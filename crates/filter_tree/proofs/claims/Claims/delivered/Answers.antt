use Rattle.filter_tree.specs.Claims.{row_after_packet_if}
use Rattle.filter_tree.proofs.Halving.{numbered_rising}
use Rattle.filter_tree.proofs.Numbers.{same_claim}
use Rattle.filter_tree.proofs.Planting.{has_same}
use Rattle.filter_tree.proofs.Room.{room_turned}
use Rattle.filter_tree.proofs.claims.Claims.delivered.Goals as goal

pub invariant_of-self : goal.invariant_of-self
invariant_of-self c = record {
  kept = rw (c.turn.ensures.rows, c.turn.ensures.room) (room_turned c.args.id _ _ c.self.invariant.kept);
  claims = rw c.turn.ensures.rows (has_same (row_after_packet_if c.args.id) (same_claim c.args.id) _ _ c.self.invariant.claims);
  enough = c.self.invariant.enough;
}

pub turn-requires : goal.turn-requires
turn-requires c = numbered_rising 0 c.self.inside.next c.self.inside.rows.items c.self.invariant.kept.numbered
