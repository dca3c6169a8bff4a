use Rattle.board_model.proofs.Turning.{turned_world}
use Rattle.board_model.proofs.laws.law_turn.Goals as goal

pub returns : goal.returns
returns c = turned_world
