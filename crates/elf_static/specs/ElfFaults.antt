-- The faults of an ELF file: the first sentence that holds, in this order, with its place.
use Rattle.std.specs.Prelude.{ℕ, ◌+◌, ◌*◌, ◌%◌, ◌==◌, nat_eq, nat_lt, nat_le, min, max, Bool, not, ◌&&◌, ◌||◌, List, [], ◌∷◌, ◌++◌, length, Option, None, Some, option_to_list, if◌then◌else◌}
use Rattle.std.specs.List.{list_any, starts_with}
use Rattle.elf_static.specs.declared.fault.ElfFault.{ElfFault}
use Rattle.elf_static.specs.declared.fault.ElfWhy.{ElfWhy}
use Rattle.elf_static.specs.declared.fault.ElfWhy.TheVariants.{Short, NotElf, WrongClass, WrongOrder, WrongKind, WrongMachine, WrongArch, BadHeaders, Dynamic, BadRange, Overlap, BadEntry}
use Rattle.elf_static.specs.Faulting.{◌or_else◌}
use Rattle.elf_static.specs.ElfValue.{SegmentValue, ElfValue, class_in, order_in, kind_in, machine_in, arch_in, header_size_in, header_count_in, first_header, headers, type_in, offset_in, vaddr_in, filesz_in, memsz_in, is_loaded, segment_at, kept_at, elf_of}

abbrev pub fault : ElfWhy → ℕ → Option ElfFault
fault why place = Some (record { place = place; why = why })

-- whether the file begins with 0x7F and ELF
abbrev pub has_magic : List ℕ → Bool
has_magic file = starts_with nat_eq file (0x7F ∷ 69 ∷ 76 ∷ 70 ∷ [])

-- The file's kind: of 32 bits, the lowest byte first, executable, for MIPS I.
unfoldable pub kind_fault : List ℕ → Option ElfFault
kind_fault file =
    if nat_lt (length file) 52 then fault Short (length file) else
    if not (has_magic file) then fault NotElf 0 else
    if not (class_in file == 1) then fault WrongClass 4 else
    if not (order_in file == 1) then fault WrongOrder 5 else
    if not (kind_in file == 2) then fault WrongKind 16 else
    if not (machine_in file == 8) then fault WrongMachine 18 else
    if not (arch_in file == 0) then fault WrongArch 36 else
    None

-- The place of the program headers: their size, their count, and where they stand.
unfoldable pub place_fault : List ℕ → Option ElfFault
place_fault file =
    if not (header_size_in file == 32) then fault BadHeaders 42 else
    if (header_count_in file == 0) || nat_lt 64 (header_count_in file) then fault BadHeaders 44 else
    if nat_lt (length file) (first_header file + 32 * header_count_in file) then fault BadHeaders 28 else
    None

-- dynamic linking information, or the name of an interpreter
abbrev pub is_dynamic : List ℕ → ℕ → Bool
is_dynamic file header = (type_in file header == 2) || (type_in file header == 3)

-- no more bytes in the file than in memory, and those within the file; and the bytes in memory, where
-- there are any, behind the first two pages and below the stack
abbrev pub is_in_range : List ℕ → ℕ → Bool
is_in_range file header =
    nat_le (filesz_in file header) (memsz_in file header)
    && nat_le (offset_in file header + filesz_in file header) (length file)
    && ((memsz_in file header == 0) ||
    (nat_le 0x2000 (vaddr_in file header) && nat_le (vaddr_in file header + memsz_in file header) 0x7FF00000))

-- whether two segments have bytes at one address: the later start lies before the earlier end
abbrev pub meets : SegmentValue → SegmentValue → Bool
meets one other = nat_lt (max one.vaddr other.vaddr) (min (one.vaddr + one.memsz) (other.vaddr + other.memsz))

-- A program header, behind those of the earlier segments.
unfoldable pub header_fault : List ℕ → List SegmentValue → ℕ → Option ElfFault
header_fault file earlier header =
    if is_dynamic file header then fault Dynamic header else
    if not (is_loaded file header) then None else
    if not (is_in_range file header) then fault BadRange header else
    if list_any (meets (segment_at file header)) earlier then fault Overlap header else
    None

-- The program headers, one after the other.
abbrev pub headers_fault : List ℕ → List SegmentValue → List ℕ → Option ElfFault
headers_fault file earlier [] = None
headers_fault file earlier (header ∷ headers) =
    header_fault file earlier header or_else headers_fault file
    (earlier ++ option_to_list (kept_at file header)) headers

-- whether the address is that of a byte of the segment
abbrev pub is_covered : ℕ → SegmentValue → Bool
is_covered address segment = nat_le segment.vaddr address && nat_lt address (segment.vaddr + segment.memsz)

-- The entry: the address of an instruction in a segment.
unfoldable pub entry_fault : ElfValue → Option ElfFault
entry_fault elf =
    if (elf.entry % 4 == 0) && list_any (is_covered elf.entry) elf.segments then None else fault BadEntry 24

-- The first fault of the file.
unfoldable pub elf_fault : List ℕ → Option ElfFault
elf_fault file =
    kind_fault file
    or_else place_fault file
    or_else headers_fault file [] (headers file)
    or_else entry_fault (elf_of file)
