-- The law is the lemma.
use Rattle.slot_law.proofs.Leaving.{turns_leave}
use Rattle.slot_law.proofs.laws.law_turn_leaves.Goals as goal

pub returns : goal.returns
returns c = turns_leave
