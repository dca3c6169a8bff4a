use Rattle.safe_handler.proofs.Limits.{runs_keep_limits}
use Rattle.safe_handler.proofs.laws.law_runs_keep_limits.Goals as goal

pub returns : goal.returns
returns c = runs_keep_limits c.steps_are_sound.ensures
