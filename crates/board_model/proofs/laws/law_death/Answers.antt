use Rattle.board_model.proofs.Serving.{died_world}
use Rattle.board_model.proofs.laws.law_death.Goals as goal

pub returns : goal.returns
returns c = died_world
