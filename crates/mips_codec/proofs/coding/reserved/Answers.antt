use Rattle.std.proofs.Common.{rules}
use Rattle.mips_isa.specs.Encoding.{form_of}
use Rattle.mips_codec.proofs.Spelling.{insn_of-spelled}
use Rattle.mips_codec.proofs.coding.reserved.Goals as goal

pub returns-in-Reserved : goal.returns-in-Reserved
unfolding form_of
returns-in-Reserved c = search rules

-- if it had no row, it would be decoded as itself
pub returns-in_default : goal.returns-in_default
unfolding form_of
returns-in_default c = search (rules, insn_of-spelled)
