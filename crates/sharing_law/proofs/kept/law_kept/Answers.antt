use Rattle.sharing_law.proofs.Rooms.{kept_agree}
use Rattle.sharing_law.proofs.kept.law_kept.Goals as goal

pub returns : goal.returns
returns c = kept_agree c.law_granted.ensures c.law_again.ensures c.law_takable.ensures c.law_given_licence.ensures
