use Rattle.bind_book.proofs.Swept.{swept_row}
use Rattle.bind_book.proofs.laws.law_swept.Goals as goal

pub returns : goal.returns
returns c = swept_row
