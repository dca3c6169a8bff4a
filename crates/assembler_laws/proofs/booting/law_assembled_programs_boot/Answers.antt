use Rattle.std.proofs.Common.{ap, ◌∙◌}
use Rattle.elf_static.specs.ElfValue.{ElfValue}
use Rattle.elf_static.proofs.PartsReread.{reread}
use Rattle.mips_asm.proofs.WritableLemmas.{assembled_writable}
use Rattle.segment_pages.specs.Pages.{has_page, is_writable, page_bytes}
use Rattle.assembler_laws.proofs.Loading.{bytes_are, pages_are, reread_is, stores_are}
use Rattle.assembler_laws.proofs.booting.law_assembled_programs_boot.Goals as goal

pub returns-clause-accepted : goal.returns-clause-accepted
returns-clause-accepted c = λ source object is. (reread object (assembled_writable source object is)).0

pub returns-clause-entry : goal.returns-clause-entry
returns-clause-entry c = λ source object is. ap (λ (elf : ElfValue). elf.entry) (reread_is source object is)

pub returns-clause-pages : goal.returns-clause-pages
returns-clause-pages c = λ source object vpn is. ap (λ (elf : ElfValue). has_page elf vpn) (reread_is source object is) ∙ pages_are object vpn

pub returns-clause-stores : goal.returns-clause-stores
returns-clause-stores c = λ source object vpn is. ap (λ (elf : ElfValue). is_writable elf vpn) (reread_is source object is) ∙ stores_are object vpn

pub returns-clause-bytes : goal.returns-clause-bytes
returns-clause-bytes c = λ source object vpn is. ap (λ (elf : ElfValue). page_bytes elf vpn) (reread_is source object is) ∙ bytes_are object vpn
