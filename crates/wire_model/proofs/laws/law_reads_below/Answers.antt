-- The law is the lemma.
use Rattle.wire_model.proofs.Settled.{reads_below}
use Rattle.wire_model.proofs.laws.law_reads_below.Goals as goal

pub returns : goal.returns
returns c = reads_below c.law_time.ensures
