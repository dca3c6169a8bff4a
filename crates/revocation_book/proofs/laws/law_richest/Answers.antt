use Rattle.revocation_book.proofs.Richest.{richest_has_most}
use Rattle.revocation_book.proofs.laws.law_richest.Goals as goal

pub returns : goal.returns
returns c = richest_has_most
