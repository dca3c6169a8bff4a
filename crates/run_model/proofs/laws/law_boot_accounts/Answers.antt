use Rattle.run_model.proofs.Balance.{boots_accounted}
use Rattle.run_model.proofs.laws.law_boot_accounts.Goals as goal

pub returns : goal.returns
returns c = boots_accounted
