use Rattle.board_model.proofs.Happening.{happened_world}
use Rattle.board_model.proofs.laws.law_happen.Goals as goal

pub returns : goal.returns
returns c = happened_world c.law_numbered.ensures
