use Rattle.sharing_law.proofs.Leaving.{each_left_is_live}
use Rattle.sharing_law.proofs.right.law_left.Goals as goal

pub returns : goal.returns
returns c = each_left_is_live c.law_granted.ensures c.law_again.ensures c.law_takable.ensures c.law_given_licence.ensures
