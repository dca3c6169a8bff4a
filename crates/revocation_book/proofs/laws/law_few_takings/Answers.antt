use Rattle.revocation_book.proofs.Few.{few_takings}
use Rattle.revocation_book.proofs.laws.law_few_takings.Goals as goal

pub returns : goal.returns
returns c = few_takings
