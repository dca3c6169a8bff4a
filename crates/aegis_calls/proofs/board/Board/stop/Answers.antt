-- The turn is over.
use Rattle.board_model.proofs.Sound.{end_manned}
use Rattle.board_model.proofs.Staying.{sound_slots}
use Rattle.aegis_calls.proofs.board.Board.stop.Goals as goal

pub invariant_of-self : goal.invariant_of-self
invariant_of-self c = rw c.give_up.ensures (sound_slots _ (end_manned c.self.inside.slots c.self.inside.roster c.self.invariant.book) c.self.invariant)
