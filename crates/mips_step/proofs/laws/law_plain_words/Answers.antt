use Rattle.std.proofs.Common.{rules}
use Rattle.mips_step.proofs.laws.law_plain_words.Goals as goal

pub returns : goal.returns
returns c answers cpu word plain = search (rules, plain)
