-- The law is the lemma.
use Rattle.feed_log.proofs.Alike.{alike}
use Rattle.feed_log.proofs.laws.law_views.Goals as goal

pub returns : goal.returns
returns c = alike
