use Rattle.call_verdicts.proofs.Asking.{again_asks}
use Rattle.call_verdicts.proofs.laws.law_again.Goals as goal

pub returns : goal.returns
returns c = again_asks c.law_richest.ensures
