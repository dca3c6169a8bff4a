use Rattle.bare_board.specs.Run.{bare_text_of}
use Rattle.bare_board.proofs.bare.run_text.Goals as goal

pub returns : goal.returns
unfolding bare_text_of
returns c = rw (c.run-halt.ensures.run, c.in_ok-board.ensures.board) at c.text_of_run.ensures
