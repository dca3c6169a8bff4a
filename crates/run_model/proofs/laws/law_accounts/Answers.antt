use Rattle.run_model.proofs.Balance.{ticks_keep_accounts}
use Rattle.run_model.proofs.laws.law_accounts.Goals as goal

pub returns : goal.returns
returns c = ticks_keep_accounts c.law_granted.ensures
