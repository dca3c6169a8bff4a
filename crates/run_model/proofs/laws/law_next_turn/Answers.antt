use Rattle.run_model.proofs.NextTurn.{next_is_found}
use Rattle.run_model.proofs.laws.law_next_turn.Goals as goal

pub returns : goal.returns
returns c = next_is_found
