use Rattle.runner_law.proofs.Naming.{steps_told}
use Rattle.runner_law.proofs.laws.law_steps_are_told.Goals as goal

pub returns : goal.returns
returns c = steps_told c.law_feed.ensures c.law_given_licence.ensures c.law_runners_are_told.ensures
