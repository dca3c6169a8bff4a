use Rattle.ledger_law.proofs.Ending.{end_fits}
use Rattle.ledger_law.proofs.laws.law_ledger_end.Goals as goal

pub returns : goal.returns
returns c = end_fits c.law_time.ensures c.law_granted.ensures c.law_next_turn.ensures c.law_turn.ensures
