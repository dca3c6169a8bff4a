-- Kept registers change nobody's life or pages.
use Rattle.board_model.specs.Doing.{with_registers}
use Rattle.board_model.proofs.Sound.{keeps_registers}
use Rattle.board_model.proofs.Staying.{sound_env, sound_machine}
use Rattle.aegis_calls.proofs.board.Board.keep_stopped.Goals as goal

pub invariant_of-self : goal.invariant_of-self
invariant_of-self c = rw c.keep.ensures (sound_machine (sound_env (with_registers c.self.inside.machine.cpu) (keeps_registers c.self.inside.machine.cpu) c.args.env c.self.invariant))
