use Rattle.sharing_law.proofs.Sizes.{copies_are_whole}
use Rattle.sharing_law.proofs.whole.law_whole_copies.Goals as goal

pub returns : goal.returns
returns c = copies_are_whole c.law_granted.ensures c.law_again.ensures c.law_takable.ensures c.law_given_licence.ensures c.law_runs_keep_limits.ensures
