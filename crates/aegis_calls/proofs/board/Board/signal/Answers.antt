-- The owner's context page is there.
use Rattle.board_model.proofs.Parted.{context_there}
use Rattle.aegis_calls.proofs.board.Board.signal.Goals as goal

pub signal-requires-clause-there : goal.signal-requires-clause-there
signal-requires-clause-there c = rw c.frame.ensures.mappings (context_there _ _ _ c.self.invariant.memory _)
