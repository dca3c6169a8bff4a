-- The rows of the TLB are of environments that live.
use Rattle.aegis_calls.proofs.Living.{rows_of_living}
use Rattle.aegis_calls.proofs.board.Board.law_no_row_outlives.Goals as goal

pub returns : goal.returns
returns c = rows_of_living c.args.self.now c.law_sound.ensures
