use Rattle.mips_text.proofs.NamedWords.{nameless_rows}
use Rattle.mips_text.proofs.law.law_words_have_rows.Goals as goal

pub returns : goal.returns
returns c = nameless_rows
