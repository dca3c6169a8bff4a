-- The file of a program: the file header, a program header for each part, and the parts' bytes.
use Rattle.std.specs.Prelude.{ℕ, ◌+◌, ◌*◌, Bool, List, [], ◌∷◌, ◌++◌, length, replicate, sum_by, if◌then◌else◌}
use Rattle.std.specs.List.{flat_map}
use Rattle.std.specs.Int.{w16, w32, to_le_bytes}
use Rattle.elf_static.specs.ObjectValue.{ObjectValue, PartValue}

-- numbers of two bytes each, the lowest byte first
unfoldable pub halves : List ℕ → List ℕ
halves numbers = flat_map (to_le_bytes w16) numbers

-- numbers of four bytes each, the lowest byte first
unfoldable pub words : List ℕ → List ℕ
words numbers = flat_map (to_le_bytes w32) numbers

-- where the parts' bytes begin, behind a header of 52 bytes and one of 32 for each part
abbrev pub bytes_start : List PartValue → ℕ
bytes_start parts = 52 + 32 * length parts

-- how many bytes the parts have together
abbrev pub bodies_length : List PartValue → ℕ
bodies_length parts = sum_by (λ part. length part.bytes) parts

-- how many bytes the file of these parts has
abbrev pub file_length : List PartValue → ℕ
file_length parts = bytes_start parts + bodies_length parts

-- 0x7F and ELF; 32 bits, the lowest byte first, version 1; and nine zeros
unfoldable pub identification : List ℕ
identification = 0x7F ∷ 69 ∷ 76 ∷ 70 ∷ 1 ∷ 1 ∷ 1 ∷ replicate 9 0

-- the file header
unfoldable pub file_header : ObjectValue → List ℕ
file_header object =
    identification
    -- type and machine
    ++ halves (2 ∷ 8 ∷ [])
    -- version, entry, places of the program headers and of the section headers, flags
    ++ words (1 ∷ object.entry ∷ 52 ∷ 0 ∷ 0 ∷ [])
    -- bytes of this header; bytes and number of the program headers; these of the section headers, and
    -- the one of their names
    ++ halves (52 ∷ 32 ∷ length object.parts ∷ 0 ∷ 0 ∷ 0 ∷ [])

-- 4 for reading, with 2 for writing or 1 for executing
abbrev pub flags : Bool → ℕ
flags writable = if writable then 4 + 2 else 4 + 1

-- the header of a part whose bytes stand at this offset
unfoldable pub program_header : ℕ → PartValue → List ℕ
program_header offset part =
    -- type and offset
    words (1 ∷ offset ∷ [])
    -- virtual and physical address
    ++ words (part.vaddr ∷ part.vaddr ∷ [])
    -- sizes in the file and in memory
    ++ words (length part.bytes ∷ length part.bytes ∷ [])
    -- flags and alignment
    ++ words (flags part.writable ∷ 1 ∷ [])

-- the headers of parts whose bytes follow one another from this offset on
abbrev pub program_headers : ℕ → List PartValue → List ℕ
program_headers offset [] = []
program_headers offset (part ∷ parts) = program_header offset part ++ program_headers (offset + length part.bytes) parts

-- the parts' bytes in order
abbrev pub bodies : List PartValue → List ℕ
bodies parts = flat_map (λ part. part.bytes) parts

-- the file
unfoldable pub elf_text : ObjectValue → List ℕ
elf_text object =
    file_header object
    ++ program_headers (bytes_start object.parts) object.parts
    ++ bodies object.parts
