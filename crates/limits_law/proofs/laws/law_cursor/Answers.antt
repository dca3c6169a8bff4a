-- The law is the lemma.
use Rattle.limits_law.proofs.Places.{cursors_are_within}
use Rattle.limits_law.proofs.laws.law_cursor.Goals as goal

pub returns : goal.returns
returns c = cursors_are_within
