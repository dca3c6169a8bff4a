use Rattle.std.proofs.Common.{rules}
use Rattle.line_text.specs.Failing.{Gives}
use Rattle.elf_static.specs.Seen.{object_seen}
use Rattle.mips_asm.specs.Assembled.{assembled}
use Rattle.mips_asm.proofs.WritableLemmas.{due_writable}
use Rattle.mips_asm.proofs.assembler.assemble.Goals as goal

pub returns-clause-writable : goal.returns-clause-writable
unfolding assembled
returns-clause-writable c =
    let due : Gives object_seen c.linked.result (assembled c.args.source.now) = search rules in
    due_writable object_seen c.args.source.now c.linked.result due
