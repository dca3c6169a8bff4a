-- The law is the lemma.
use Rattle.quiet_law.proofs.Deciding.{quiet_is_decided}
use Rattle.quiet_law.proofs.laws.law_quiet_decided.Goals as goal

pub returns : goal.returns
returns c = quiet_is_decided
