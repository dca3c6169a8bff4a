-- The smallest program.
use Rattle.std.specs.Prelude.{[], ◌∷◌, false}
use Rattle.elf_static.specs.ElfValue.{ElfValue}

-- one byte of memory at the first address, of value 0, which may not be stored to
abbrev pub smallest : ElfValue
smallest = record {
  entry = 0x2000;
  segments = record { vaddr = 0x2000; bytes = []; memsz = 1; writable = false } ∷ [];
}
