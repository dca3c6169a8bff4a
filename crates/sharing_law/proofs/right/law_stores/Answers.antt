use Rattle.sharing_law.proofs.Leaving.{stores_are_live}
use Rattle.sharing_law.proofs.right.law_stores.Goals as goal

pub returns : goal.returns
returns c = stores_are_live c.law_granted.ensures c.law_again.ensures c.law_takable.ensures
