-- The deadlines are over.
use Rattle.board_model.proofs.Asked.{served_asked}
use Rattle.board_model.proofs.Staying.{sound_asked}
use Rattle.aegis_calls.proofs.board.Board.settle_deadlines.Goals as goal

pub invariant_of-self : goal.invariant_of-self
invariant_of-self c =
    let b = c.self.inside in
    rw (c.served.ensures, c.ticks.ensures.ticks) (sound_asked _ (served_asked b.revocations b.pages b.time c.self.invariant.revocations) c.self.invariant)
