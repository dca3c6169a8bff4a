use Rattle.safe_handler.proofs.Ending.{handlers_end}
use Rattle.safe_handler.proofs.laws.law_handlers_end.Goals as goal

pub returns : goal.returns
returns c = handlers_end c.law_first_bad.ensures
