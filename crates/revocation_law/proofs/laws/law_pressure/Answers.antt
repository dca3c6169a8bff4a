-- The law is the lemma, with the law of what is taken.
use Rattle.revocation_law.proofs.Slow.{pressure_is_slow}
use Rattle.revocation_law.proofs.laws.law_pressure.Goals as goal

pub returns : goal.returns
returns c = pressure_is_slow c.law_time.ensures c.law_taken.ensures
