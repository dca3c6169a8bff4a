use Rattle.elf_static.proofs.PartsReread.{reread}
use Rattle.elf_static.proofs.law.law_reads_what_is_written.Goals as goal

pub returns : goal.returns
returns c = reread
