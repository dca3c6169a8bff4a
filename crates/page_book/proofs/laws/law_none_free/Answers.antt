use Rattle.page_book.proofs.Free.{none_free}
use Rattle.page_book.proofs.laws.law_none_free.Goals as goal

pub returns : goal.returns
returns c = none_free
