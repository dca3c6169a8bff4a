use Rattle.run_model.proofs.Balance.{ledgers_are_lawful}
use Rattle.run_model.proofs.laws.law_rows_are_lawful.Goals as goal

pub returns : goal.returns
returns c = ledgers_are_lawful c.law_granted.ensures
