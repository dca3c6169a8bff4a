-- The law is the lemma.
use Rattle.slot_law.proofs.Changing.{slots_have_causes}
use Rattle.slot_law.proofs.laws.law_slot_changes.Goals as goal

pub returns : goal.returns
returns c = slots_have_causes c.law_granted.ensures
