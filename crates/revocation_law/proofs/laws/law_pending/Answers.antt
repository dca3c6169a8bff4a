-- The law is the lemma.
use Rattle.revocation_law.proofs.Ticks.{pending_is_told}
use Rattle.revocation_law.proofs.laws.law_pending.Goals as goal

pub returns : goal.returns
returns c = pending_is_told
