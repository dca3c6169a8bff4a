-- Each number fits a word.
use Rattle.feed_telling.proofs.Telling.{all_words}
use Rattle.feed_telling.proofs.transfer.law_words.Goals as goal

pub returns : goal.returns
returns c = all_words c.args.registers.now c.type_inv.registers
