use Rattle.bind_book.proofs.Bound.{unbound_rows, rows_unbound}
use Rattle.bind_book.proofs.laws.law_bound.Goals as goal

pub returns : goal.returns
returns c = λ page stripe. (unbound_rows page stripe, rows_unbound page stripe)
