use Rattle.coherence_law.proofs.Counting.{counts_rise}
use Rattle.coherence_law.proofs.laws.law_counts.Goals as goal

pub returns : goal.returns
returns c = counts_rise c.law_fills.ensures
