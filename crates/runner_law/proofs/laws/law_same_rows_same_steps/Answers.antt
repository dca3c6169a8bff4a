use Rattle.runner_law.proofs.Naming.{same_rows}
use Rattle.runner_law.proofs.laws.law_same_rows_same_steps.Goals as goal

pub returns : goal.returns
returns c = same_rows c.law_steps_are_told.ensures
