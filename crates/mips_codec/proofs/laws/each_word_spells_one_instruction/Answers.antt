use Rattle.mips_codec.proofs.Spelling.{insn_of-spelled, spells_insn_of}
use Rattle.mips_codec.proofs.laws.each_word_spells_one_instruction.Goals as goal

pub returns-clause-one : goal.returns-clause-one
returns-clause-one c = spells_insn_of c.args.word

pub returns-clause-no_other : goal.returns-clause-no_other
returns-clause-no_other c = insn_of-spelled c.args.word
