use Rattle.revocation_book.proofs.Takable.{takable_below}
use Rattle.revocation_book.proofs.laws.law_takable.Goals as goal

pub returns : goal.returns
returns c = takable_below
