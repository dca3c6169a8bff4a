use Rattle.assembler_laws.proofs.Statements.{word_statement}
use Rattle.assembler_laws.proofs.listing.law_listed_words_are_statements.Goals as goal

pub returns : goal.returns
returns c = word_statement
