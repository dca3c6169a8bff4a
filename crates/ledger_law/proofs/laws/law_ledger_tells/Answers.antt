use Rattle.ledger_law.proofs.Tells.{ledger_tells}
use Rattle.ledger_law.proofs.laws.law_ledger_tells.Goals as goal

pub returns : goal.returns
returns c = ledger_tells c.law_granted.ensures c.law_next_turn.ensures c.law_turn.ensures
