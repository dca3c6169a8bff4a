use Rattle.sharing_law.proofs.Agreeing.{pages_end}
use Rattle.sharing_law.proofs.agreement.law_pages_end.Goals as goal

pub returns : goal.returns
returns c = pages_end c.law_granted.ensures c.law_again.ensures c.law_takable.ensures
