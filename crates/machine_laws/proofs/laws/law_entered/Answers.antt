use Rattle.machine_laws.proofs.Entering.{enters}
use Rattle.machine_laws.proofs.laws.law_entered.Goals as goal

pub returns : goal.returns
returns c = enters
