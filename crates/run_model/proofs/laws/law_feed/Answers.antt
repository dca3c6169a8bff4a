use Rattle.run_model.proofs.Phases.{phases_give}
use Rattle.run_model.proofs.laws.law_feed.Goals as goal

pub returns : goal.returns
returns c = phases_give
