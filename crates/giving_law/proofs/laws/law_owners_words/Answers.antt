-- The law is the lemma.
use Rattle.giving_law.proofs.Calls.{words_are_owners}
use Rattle.giving_law.proofs.laws.law_owners_words.Goals as goal

pub returns : goal.returns
returns c = words_are_owners c.law_moments.ensures
