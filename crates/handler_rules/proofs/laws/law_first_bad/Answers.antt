use Rattle.handler_rules.proofs.Bad.{first_bad_is_first}
use Rattle.handler_rules.proofs.laws.law_first_bad.Goals as goal

pub returns : goal.returns
returns c = first_bad_is_first
