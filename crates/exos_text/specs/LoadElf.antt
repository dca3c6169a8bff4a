-- The program of the load.
use Rattle.std.specs.Prelude.{ℕ, List}
use Rattle.exos_text.specs.declared.program.TheConstants.{LOAD_ELF}

-- its ELF file
unfoldable pub load_elf : List ℕ
load_elf = LOAD_ELF
