use Rattle.filter_tree.proofs.Halving.{numbered_rising}
use Rattle.filter_tree.proofs.claims.Claims.held.Goals as goal

pub claim_held-requires : goal.claim_held-requires
claim_held-requires c = rw c.deref.ensures.value (numbered_rising 0 c.self.inside.next c.self.inside.rows.items c.self.invariant.kept.numbered)
