-- The runner's context page is there.
use Rattle.board_model.proofs.Parted.{context_there}
use Rattle.aegis_calls.proofs.board.Board.tell_end.Goals as goal

pub end-requires-clause-there : goal.end-requires-clause-there
end-requires-clause-there c = rw c.frame-frame.ensures.mappings (context_there _ _ _ c.self.invariant.memory c.args.env)
