use Rattle.std.proofs.Common.{sym, subst}
use Rattle.mips_isa.specs.Encoding.{Spells}
use Rattle.mips_codec.proofs.Spelling.{spells_insn_of}
use Rattle.mips_codec.proofs.coding.decode.Goals as goal

pub returns-clause-spells : goal.returns-clause-spells
returns-clause-spells c = subst (Spells c.args.word) (sym c.instruction.ensures) (spells_insn_of c.args.word)
