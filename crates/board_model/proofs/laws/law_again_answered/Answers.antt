use Rattle.board_model.proofs.Serving.{again_shown}
use Rattle.board_model.proofs.laws.law_again_answered.Goals as goal

pub returns : goal.returns
returns c = again_shown c.law_granted.ensures c.law_again.ensures c.law_numbered.ensures
