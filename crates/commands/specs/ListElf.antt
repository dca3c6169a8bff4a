-- `list ELF`: the listing of an ELF file.
use Rattle.std.specs.Prelude.{ℕ, List, [], ◌∷◌, Option, Some, None}
use Rattle.elf_static.specs.declared.fault.ElfFault.{ElfFault}
use Rattle.elf_static.specs.ElfFaults.{elf_fault}
use Rattle.elf_static.specs.ElfNames.{elf_why_text}
use Rattle.elf_static.specs.ElfValue.{elf_of}
use Rattle.mips_list.specs.Listed.{listed}
use Rattle.commands.specs.Due.{Due, Whole, refused}
use Rattle.commands.specs.Command.{CommandValue, no_further, content}

-- an ELF file with a fault is refused, and another is listed
abbrev pub list_due : List ℕ → List ℕ → Option ElfFault → Due
list_due name elf (Some fault) = refused name (elf_why_text fault.why) fault.place
list_due name elf None = Whole (listed (elf_of elf))

abbrev pub list_elf : List ℕ → CommandValue
list_elf elf = record {
  names = elf ∷ [];
  further = no_further;
  due = λ contents. Some (list_due elf (content contents 0) (elf_fault (content contents 0)));
}
