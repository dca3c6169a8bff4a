-- The law is the lemma.
use Rattle.run_model.proofs.Time.{time_is_tick}
use Rattle.run_model.proofs.laws.law_time.Goals as goal

pub returns : goal.returns
returns c = time_is_tick
