use Rattle.std.specs.Option.{option_map}
use Rattle.filter_tree.specs.Claims.{row_with_handler_if}
use Rattle.filter_tree.proofs.Halving.{numbered_rising}
use Rattle.filter_tree.proofs.Numbers.{still_claim}
use Rattle.filter_tree.proofs.Planting.{has_same}
use Rattle.filter_tree.proofs.Room.{room_handled}
use Rattle.filter_tree.proofs.claims.Claims.download.Goals as goal

pub invariant_of-self : goal.invariant_of-self
invariant_of-self c = record {
  kept = rw (c.download.ensures.rows, c.download.ensures.room) (room_handled c.args.id (option_map (λ handler. handler.now) c.args.handler) _ _ c.self.invariant.kept);
  claims = rw c.download.ensures.rows (has_same (row_with_handler_if c.args.id (option_map (λ handler. handler.now) c.args.handler)) (still_claim c.args.id (option_map (λ handler. handler.now) c.args.handler)) _ _ c.self.invariant.claims);
  enough = c.self.invariant.enough;
}

pub download-requires : goal.download-requires
download-requires c = numbered_rising 0 c.self.inside.next c.self.inside.rows.items c.self.invariant.kept.numbered
