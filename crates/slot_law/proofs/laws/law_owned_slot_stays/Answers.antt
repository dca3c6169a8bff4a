use Rattle.slot_law.proofs.Owning.{owned_slot_stays}
use Rattle.slot_law.proofs.laws.law_owned_slot_stays.Goals as goal

pub returns : goal.returns
returns c = owned_slot_stays c.law_granted.ensures
