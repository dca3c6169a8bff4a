use Rattle.filter_tree.proofs.Halving.{numbered_rising}
use Rattle.filter_tree.proofs.claims.Claims.handler.Goals as goal

pub claim_handler-requires : goal.claim_handler-requires
claim_handler-requires c = rw c.deref.ensures.value (numbered_rising 0 c.self.inside.next c.self.inside.rows.items c.self.invariant.kept.numbered)
