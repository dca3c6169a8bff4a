use Rattle.sharing_law.proofs.KeptSizes.{guaranteed_are_whole}
use Rattle.sharing_law.proofs.whole.law_guaranteed_whole.Goals as goal

pub returns : goal.returns
returns c = guaranteed_are_whole c.law_given_licence.ensures
