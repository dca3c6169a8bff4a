use Rattle.run_model.proofs.Phases.{in_turn_is_each}
use Rattle.run_model.proofs.laws.law_in_turn.Goals as goal

pub returns : goal.returns
returns c = in_turn_is_each
