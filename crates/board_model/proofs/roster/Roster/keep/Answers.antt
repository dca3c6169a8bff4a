-- Its registers are others.
use Rattle.board_model.specs.Doing.{with_registers}
use Rattle.board_model.proofs.Environments.{left_as}
use Rattle.board_model.proofs.roster.Roster.keep.Goals as goal

pub returns : goal.returns
returns c = rw c.keep.ensures (left_as (with_registers c.args.cpu.now) c.args.self.now c.args.env _ c.record_mut.ensures.environment)
