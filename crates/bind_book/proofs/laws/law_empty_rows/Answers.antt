use Rattle.bind_book.proofs.Rows.{empty_row}
use Rattle.bind_book.proofs.laws.law_empty_rows.Goals as goal

pub returns : goal.returns
returns c = empty_row
