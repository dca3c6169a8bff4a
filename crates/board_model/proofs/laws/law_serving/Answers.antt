use Rattle.board_model.proofs.Repossessing.{served_world}
use Rattle.board_model.proofs.laws.law_serving.Goals as goal

pub returns : goal.returns
returns c = served_world c.law_takable.ensures
