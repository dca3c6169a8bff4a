use Rattle.run_model.proofs.Balance.{balance_holds}
use Rattle.run_model.proofs.laws.law_balance.Goals as goal

pub returns : goal.returns
returns c = balance_holds c.law_granted.ensures
