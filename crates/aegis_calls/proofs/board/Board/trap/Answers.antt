-- The runner's context page is there, and a board whose exception nobody handles is as it was.
use Rattle.board_model.proofs.Parted.{context_there}
use Rattle.aegis_calls.proofs.board.Board.trap.Goals as goal

pub raise-requires : goal.raise-requires
raise-requires c = rw c.frame-frame.ensures.mappings (context_there _ _ _ c.self.invariant.memory c.args.env)
