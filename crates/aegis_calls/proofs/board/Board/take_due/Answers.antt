-- Each page is taken in its turn.
use Rattle.std.proofs.Common.{rules}
use Rattle.board_model.proofs.Asked.{served_asked}
use Rattle.board_model.proofs.Repossessing.{takings_few}
use Rattle.board_model.proofs.Staying.{sound_asked}
use Rattle.aegis_calls.proofs.board.Board.take_due.Goals as goal

pub take_all-requires : goal.take_all-requires
take_all-requires c = search (rules, takings_few)

pub invariant_of-self : goal.invariant_of-self
invariant_of-self c =
    let b = c.self-2.inside in
    rw (c.served.ensures, c.ticks-2.ensures.ticks) (sound_asked _ (served_asked b.revocations b.pages b.time c.self-2.invariant.revocations) c.self-2.invariant)
