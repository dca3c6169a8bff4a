use Rattle.board_model.proofs.Stepping.{stepped_world}
use Rattle.board_model.proofs.laws.law_step.Goals as goal

pub returns : goal.returns
returns c = stepped_world c.law_granted.ensures c.law_again.ensures c.law_numbered.ensures
