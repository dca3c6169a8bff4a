-- The law is the lemma.
use Rattle.wire_law.proofs.Machines.{machines_are_systems}
use Rattle.wire_law.proofs.laws.law_machines.Goals as goal

pub returns : goal.returns
returns c = machines_are_systems c.law_settled.ensures.worlds
