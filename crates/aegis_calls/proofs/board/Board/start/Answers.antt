-- Its context page is there.
use Rattle.board_model.proofs.Parted.{context_there}
use Rattle.aegis_calls.proofs.board.Board.start.Goals as goal

pub start-self-inside-requires : goal.start-self-inside-requires
start-self-inside-requires c = rw c.frame.ensures.mappings (context_there _ _ _ c.self.invariant.memory c.args.env)
