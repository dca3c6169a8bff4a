use Rattle.ledger_law.proofs.Cleanness.{runs_clean}
use Rattle.ledger_law.proofs.laws.law_runs_are_clean.Goals as goal

pub returns : goal.returns
returns c = runs_clean c.law_ledger.ensures c.law_ledger_end.ensures c.law_audit.ensures.kept
