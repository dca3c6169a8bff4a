-- Each may be taken in its turn, and uses one row.
use Rattle.std.proofs.Common.{rules}
use Rattle.board_model.proofs.Repossessing.{its_place, page_there, taken_books}
use Rattle.aegis_calls.proofs.board.Board.take_all.Goals as goal

pub loop-place-preserved : goal.loop-place-preserved
loop-place-preserved c = search (rules, taken_books, page_there, its_place)
