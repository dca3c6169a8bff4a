-- The law is the lemma.
use Rattle.twin_law.proofs.Firsts.{names_first}
use Rattle.twin_law.proofs.laws.law_first_difference.Goals as goal

pub returns : goal.returns
returns c = names_first c.law_views.ensures c.law_items_are_fit.ensures.shown
