use Rattle.call_verdicts.proofs.Granting.{granted_may}
use Rattle.call_verdicts.proofs.laws.law_granted.Goals as goal

pub returns : goal.returns
returns c = granted_may c.law_lowest_free.ensures
