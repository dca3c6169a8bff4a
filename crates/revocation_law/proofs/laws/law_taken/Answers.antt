-- The law is the lemma, with the law of time.
use Rattle.revocation_law.proofs.Ticks.{taken_was_asked}
use Rattle.revocation_law.proofs.laws.law_taken.Goals as goal

pub returns : goal.returns
returns c = taken_was_asked c.law_time.ensures
