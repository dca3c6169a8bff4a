-- It accepts nobody.
use Rattle.board_model.specs.Doing.{with_mask}
use Rattle.board_model.proofs.Environments.{left_as}
use Rattle.board_model.proofs.roster.Roster.enter.Goals as goal

pub returns-clause-roster : goal.returns-clause-roster
returns-clause-roster c = rw c.enter.ensures.env (left_as (with_mask 0) c.args.self.now c.args.env _ c.record_mut.ensures.environment)
