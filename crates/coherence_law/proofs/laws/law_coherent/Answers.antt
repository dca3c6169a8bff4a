use Rattle.coherence_law.proofs.Ticking.{coherent}
use Rattle.coherence_law.proofs.laws.law_coherent.Goals as goal

pub returns : goal.returns
returns c = coherent c.law_granted.ensures c.law_again.ensures c.law_takable.ensures c.law_given_licence.ensures c.law_kept.ensures c.law_versions.ensures
