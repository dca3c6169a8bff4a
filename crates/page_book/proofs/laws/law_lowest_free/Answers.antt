use Rattle.page_book.proofs.Free.{is_lowest_free}
use Rattle.page_book.proofs.laws.law_lowest_free.Goals as goal

pub returns : goal.returns
returns c = is_lowest_free
