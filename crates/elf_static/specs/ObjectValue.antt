-- A program as an ELF file holds it.
use Rattle.std.specs.Prelude.{ℕ, Bool, List}

-- a part of the program's memory: the address of its first byte, its bytes, and whether stores into it
-- are allowed
pub record PartValue : Type 0 where
  pub vaddr : ℕ
  pub bytes : List ℕ
  pub writable : Bool

-- a program: the address of its first instruction, and its parts
pub record ObjectValue : Type 0 where
  pub entry : ℕ
  pub parts : List PartValue
