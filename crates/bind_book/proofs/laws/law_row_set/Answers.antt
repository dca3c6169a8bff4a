use Rattle.bind_book.proofs.Rows.{row_set}
use Rattle.bind_book.proofs.laws.law_row_set.Goals as goal

pub returns : goal.returns
returns c = row_set
