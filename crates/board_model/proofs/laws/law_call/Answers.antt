use Rattle.board_model.proofs.Serving.{called_world}
use Rattle.board_model.proofs.laws.law_call.Goals as goal

pub returns : goal.returns
returns c = called_world c.law_granted.ensures c.law_again.ensures c.law_numbered.ensures
