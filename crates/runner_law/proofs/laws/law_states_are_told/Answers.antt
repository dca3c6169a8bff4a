use Rattle.runner_law.proofs.Telling.{states_told}
use Rattle.runner_law.proofs.laws.law_states_are_told.Goals as goal

pub returns : goal.returns
returns c = states_told c.law_granted.ensures c.law_next_turn.ensures c.law_turn.ensures c.law_time.ensures c.law_ledger.ensures
