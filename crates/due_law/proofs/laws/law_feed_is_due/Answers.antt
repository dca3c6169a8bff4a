-- The law is the lemma.
use Rattle.due_law.proofs.Ticks.{feed_is_due}
use Rattle.due_law.proofs.laws.law_feed_is_due.Goals as goal

pub returns : goal.returns
returns c = feed_is_due c.law_granted.ensures c.law_alone.ensures
