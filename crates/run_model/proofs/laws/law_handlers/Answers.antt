use Rattle.run_model.proofs.Verified.{handlers_are_verified}
use Rattle.run_model.proofs.laws.law_handlers.Goals as goal

pub returns : goal.returns
returns c = handlers_are_verified
