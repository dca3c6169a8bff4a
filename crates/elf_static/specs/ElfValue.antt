-- What an ELF file's bytes mean.
use Rattle.std.specs.Prelude.{ℕ, zero, suc, ◌+◌, ◌/◌, ◌%◌, ◌^◌, ◌==◌, not, Bool, ◌&&◌, List, [], ◌∷◌, Option, None, Some, take, drop, slice_index, if◌then◌else◌}
use Rattle.std.specs.List.{filter_map}
use Rattle.byte_numbers.specs.Numbers.{half_at, word_at}
use Rattle.elf_static.specs.declared.header.Table.{Table}

-- a segment: the address of its first byte, what the file gives of its bytes, of which the others are
-- zeros, how many there are in memory, and whether stores into it are allowed
pub record SegmentValue : Type 0 where
  pub vaddr : ℕ
  pub bytes : List ℕ
  pub memsz : ℕ
  pub writable : Bool

-- a program: the address of its first instruction, and its segments
pub record ElfValue : Type 0 where
  pub entry : ℕ
  pub segments : List SegmentValue

-- The file header of 52 bytes.
abbrev pub class_in : List ℕ → ℕ
class_in file = slice_index file 4

abbrev pub order_in : List ℕ → ℕ
order_in file = slice_index file 5

abbrev pub kind_in : List ℕ → ℕ
kind_in file = half_at file 16

abbrev pub machine_in : List ℕ → ℕ
machine_in file = half_at file 18

abbrev pub entry_in : List ℕ → ℕ
entry_in file = word_at file 24

abbrev pub first_header : List ℕ → ℕ
first_header file = word_at file 28

-- the top four bits of its flags
abbrev pub arch_in : List ℕ → ℕ
arch_in file = word_at file 36 / 2 ^ 28

abbrev pub header_size_in : List ℕ → ℕ
header_size_in file = half_at file 42

abbrev pub header_count_in : List ℕ → ℕ
header_count_in file = half_at file 44

-- where the program headers stand, and how many there are
abbrev pub table_of : List ℕ → Table
table_of file = record { first = first_header file; count = header_count_in file }

-- The program headers, one behind the other, each of 32 bytes.
abbrev pub headers_from : ℕ → ℕ → List ℕ
headers_from zero header = []
headers_from (suc count) header = header ∷ headers_from count (header + 32)

abbrev pub headers : List ℕ → List ℕ
headers file = headers_from (header_count_in file) (first_header file)

abbrev pub type_in : List ℕ → ℕ → ℕ
type_in file header = word_at file header

abbrev pub offset_in : List ℕ → ℕ → ℕ
offset_in file header = word_at file (header + 4)

abbrev pub vaddr_in : List ℕ → ℕ → ℕ
vaddr_in file header = word_at file (header + 8)

abbrev pub filesz_in : List ℕ → ℕ → ℕ
filesz_in file header = word_at file (header + 16)

abbrev pub memsz_in : List ℕ → ℕ → ℕ
memsz_in file header = word_at file (header + 20)

-- the flag of 2
abbrev pub is_writable_in : List ℕ → ℕ → Bool
is_writable_in file header = word_at file (header + 24) / 2 % 2 == 1

-- whether it is the header of a segment that is loaded
abbrev pub is_loaded : List ℕ → ℕ → Bool
is_loaded file header = type_in file header == 1

-- whether that segment has bytes in memory
abbrev pub is_kept : List ℕ → ℕ → Bool
is_kept file header = is_loaded file header && not (memsz_in file header == 0)

-- the segment with this header
unfoldable pub segment_at : List ℕ → ℕ → SegmentValue
segment_at file header = record {
  vaddr = vaddr_in file header;
  bytes = take (filesz_in file header) (drop (offset_in file header) file);
  memsz = memsz_in file header;
  writable = is_writable_in file header;
}

-- the segment with this header, where one is kept
abbrev pub kept_at : List ℕ → ℕ → Option SegmentValue
kept_at file header = if is_kept file header then Some (segment_at file header) else None

-- the segments of these headers
abbrev pub segments_of : List ℕ → List ℕ → List SegmentValue
segments_of file headers = filter_map (kept_at file) headers

-- The program of the file's bytes. It is meant where elf_fault finds nothing.
unfoldable pub elf_of : List ℕ → ElfValue
elf_of file = record { entry = entry_in file; segments = segments_of file (headers file) }
