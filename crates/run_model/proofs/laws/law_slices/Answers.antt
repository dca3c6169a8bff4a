-- The laws are the lemmas.
use Rattle.run_model.proofs.Ends.{ends_last, slices_end_stopped}
use Rattle.run_model.proofs.laws.law_slices.Goals as goal

pub returns : goal.returns
returns c = record { stopped = slices_end_stopped; last = ends_last }
