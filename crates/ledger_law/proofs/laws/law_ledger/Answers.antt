use Rattle.ledger_law.proofs.Booting.{boot_told}
use Rattle.ledger_law.proofs.Ticks.{rows_fit}
use Rattle.ledger_law.proofs.laws.law_ledger.Goals as goal

pub returns : goal.returns
returns c = rows_fit c.law_granted.ensures c.law_next_turn.ensures c.law_turn.ensures boot_told
