-- The law is its lemma.
use Rattle.page_laws.proofs.Stores.{stores_go_through}
use Rattle.page_laws.proofs.laws.law_through.Goals as goal

pub returns : goal.returns
returns c = stores_go_through
