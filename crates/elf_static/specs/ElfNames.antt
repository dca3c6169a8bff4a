-- What is printed of each cause.
use Rattle.std.specs.Prelude.{ℕ, List, codes}
use Rattle.elf_static.specs.declared.fault.ElfWhy.{ElfWhy}
use Rattle.elf_static.specs.declared.fault.ElfWhy.TheVariants.{Short, NotElf, WrongClass, WrongOrder, WrongKind, WrongMachine, WrongArch, BadHeaders, Dynamic, BadRange, Overlap, BadEntry}

-- the printed name of a cause
abbrev pub elf_why_text : ElfWhy → List ℕ
elf_why_text Short = codes "Short"
elf_why_text NotElf = codes "NotElf"
elf_why_text WrongClass = codes "WrongClass"
elf_why_text WrongOrder = codes "WrongOrder"
elf_why_text WrongKind = codes "WrongKind"
elf_why_text WrongMachine = codes "WrongMachine"
elf_why_text WrongArch = codes "WrongArch"
elf_why_text BadHeaders = codes "BadHeaders"
elf_why_text Dynamic = codes "Dynamic"
elf_why_text BadRange = codes "BadRange"
elf_why_text Overlap = codes "Overlap"
elf_why_text BadEntry = codes "BadEntry"
