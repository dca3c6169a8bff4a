use Rattle.machine_laws.proofs.Confining.{confined}
use Rattle.machine_laws.proofs.laws.law_confined.Goals as goal

pub returns : goal.returns
returns c = confined
