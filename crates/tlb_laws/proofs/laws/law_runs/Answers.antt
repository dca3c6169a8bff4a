use Rattle.tlb_laws.proofs.Running.{runs_are_flat}
use Rattle.tlb_laws.proofs.laws.law_runs.Goals as goal

pub returns : goal.returns
returns c = runs_are_flat
