use Rattle.runner_law.proofs.Telling.{runners_told}
use Rattle.runner_law.proofs.laws.law_runners_are_told.Goals as goal

pub returns : goal.returns
returns c = runners_told c.law_granted.ensures c.law_next_turn.ensures c.law_turn.ensures c.law_time.ensures c.law_ledger.ensures c.law_ledger_tells.ensures
