use Rattle.assembler_laws.proofs.Listings.{word_assembled}
use Rattle.assembler_laws.proofs.listing.law_listed_words_assemble.Goals as goal

pub returns : goal.returns
returns c = word_assembled
