-- The law is the lemmas, with the laws of moments and of time.
use Rattle.revocation_law.proofs.Relief.{again_helps, again_is_awaited}
use Rattle.revocation_law.proofs.laws.law_again_helps.Goals as goal

pub returns : goal.returns
returns c = record { awaited = again_is_awaited c.law_moments.ensures c.law_time.ensures; helps = again_helps c.law_moments.ensures c.law_time.ensures }
