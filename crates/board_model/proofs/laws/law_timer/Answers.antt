use Rattle.board_model.proofs.Turning.{counted_world}
use Rattle.board_model.proofs.laws.law_timer.Goals as goal

pub returns : goal.returns
returns c = counted_world
