use Rattle.run_model.proofs.Turns.{turns_go_by_rule}
use Rattle.run_model.proofs.laws.law_turn.Goals as goal

pub returns : goal.returns
returns c = turns_go_by_rule
