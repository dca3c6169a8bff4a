-- Which programs an ELF file holds.
use Rattle.std.specs.Prelude.{◌≡◌, ◌≤◌, ◌<◌, ◌+◌, ◌%◌, ◌^◌, ℕ, length}
use Rattle.std.specs.List.{AllByRecursion, Any}
use Rattle.elf_static.specs.Apart.{NoTwoMeet}
use Rattle.elf_static.specs.ObjectValue.{ObjectValue, PartValue}
use Rattle.elf_static.specs.Layout.{file_length}

-- the address is that of a byte of the part
abbrev pub Covers : PartValue → ℕ → Type 0
Covers part address = (part.vaddr ≤ address) × (address < part.vaddr + length part.bytes)

-- each byte of the part lies behind the first two pages and below the last ones
abbrev pub IsInRange : PartValue → Type 0
IsInRange part = (address : ℕ) → Covers part address → (0x2000 ≤ address) × (address < 0x7FF00000)

-- The program has one to 64 parts, which lie in the range of programs and don't meet; its entry is a
-- multiple of 4 and the address of a byte of one of them; and its file is below 2 ^ 27 bytes. A part
-- without bytes may have any address.
pub record IsWritable (object : ObjectValue) : Type 0 where
  pub fewest : 1 ≤ length object.parts
  pub most : length object.parts ≤ 64
  pub ranges : AllByRecursion IsInRange object.parts
  pub apart : NoTwoMeet Covers object.parts
  pub aligned : object.entry % 4 ≡ 0
  pub entered : Any (λ part. Covers part object.entry) object.parts
  pub room : file_length object.parts < 2 ^ 27
