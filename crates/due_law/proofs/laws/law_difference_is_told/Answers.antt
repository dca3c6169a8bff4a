-- The law is the lemma.
use Rattle.due_law.proofs.Told.{difference_is_told}
use Rattle.due_law.proofs.laws.law_difference_is_told.Goals as goal

pub returns : goal.returns
returns c = difference_is_told c.law_feed_is_due.ensures
