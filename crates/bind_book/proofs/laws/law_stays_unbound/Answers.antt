use Rattle.bind_book.proofs.Bound.{stays_unbound}
use Rattle.bind_book.proofs.laws.law_stays_unbound.Goals as goal

pub returns : goal.returns
returns c = stays_unbound
