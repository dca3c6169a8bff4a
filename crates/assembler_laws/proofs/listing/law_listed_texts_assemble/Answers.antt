use Rattle.assembler_laws.proofs.Listings.{words_assembled}
use Rattle.assembler_laws.proofs.listing.law_listed_texts_assemble.Goals as goal

pub returns : goal.returns
returns c = words_assembled
