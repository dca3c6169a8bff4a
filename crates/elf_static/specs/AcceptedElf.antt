-- What holds of each program of an ELF file that has no fault.
use Rattle.std.specs.Prelude.{ℕ, ◌≡◌, ◌≤◌, ◌<◌, ◌+◌, ◌%◌, length}
use Rattle.std.specs.List.{AllByRecursion, Any}
use Rattle.elf_static.specs.Apart.{NoTwoMeet}
use Rattle.elf_static.specs.ElfValue.{SegmentValue, ElfValue}

-- the address is that of a byte of the segment
abbrev pub Covers : SegmentValue → ℕ → Type 0
Covers segment address = (segment.vaddr ≤ address) × (address < segment.vaddr + segment.memsz)

-- a segment within its limits
pub record IsSegment (segment : SegmentValue) : Type 0 where
  pub filled : 0 < segment.memsz
  pub given : length segment.bytes ≤ segment.memsz
  pub above : 0x2000 ≤ segment.vaddr
  pub below : segment.vaddr + segment.memsz ≤ 0x7FF00000

-- a program within its limits
pub record IsAcceptedElf (elf : ElfValue) : Type 0 where
  pub most : length elf.segments ≤ 64
  pub segments : AllByRecursion IsSegment elf.segments
  pub apart : NoTwoMeet Covers elf.segments
  pub aligned : elf.entry % 4 ≡ 0
  pub entered : Any (λ segment. Covers segment elf.entry) elf.segments
