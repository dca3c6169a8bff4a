-- The pages so far have their part of the file.
use Rattle.bare_board.proofs.Filling.{IsLoadedTo}
use Rattle.bare_board.proofs.loading.load.Given as goal

abbrev pub invariant-loop-n : goal.invariant-loop-n
invariant-loop-n l = IsLoadedTo l.file l.n l.frames
