use Rattle.run_model.proofs.Phases.{moments_in_order}
use Rattle.run_model.proofs.laws.law_moments.Goals as goal

pub returns : goal.returns
returns c = moments_in_order
