use Rattle.elf_static.proofs.Acceptance.{accepted}
use Rattle.elf_static.proofs.law.law_accepted_elf.Goals as goal

pub returns : goal.returns
returns c = accepted
