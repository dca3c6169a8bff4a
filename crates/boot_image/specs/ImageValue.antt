-- What an image's bytes mean.
use Rattle.std.specs.Prelude.{ℕ, zero, suc, ◌+◌, ◌<◌, ◌==◌, nat_eq, true, List, [], ◌∷◌, length, take, drop, map, Option, None, Some, unwrap_or, slice_index, codes, if◌then◌else◌}
use Rattle.std.specs.List.{before_first, starts_with}
use Rattle.aegis_limits.specs.declared.version.Version.{Version}
use Rattle.aegis_limits.specs.declared.version.Version.TheVariants.{One, Two}
use Rattle.byte_numbers.specs.Numbers.{half_at, word_at}
use Rattle.elf_static.specs.ElfValue.{ElfValue, elf_of}
use Rattle.segment_pages.specs.Pages.{vpns}
use Rattle.boot_image.specs.declared.header.Header.{Header}

-- each number of a file is a byte's
abbrev pub IsBytes : List ℕ → Type 0
IsBytes file = (i : ℕ) → slice_index file i < 256

-- a program: its name of eight bytes, pages of stack, a bit for each environment from which it accepts
-- transfers, and its body, which is an entry and segments
pub record ProgramValue : Type 0 where
  pub name : List ℕ
  pub stack : ℕ
  pub accept : ℕ
  pub body : ElfValue

-- an image: its version, counts of pages and of a slice's ticks, the owner of each slot, and a program for each
-- environment
pub record ImageValue : Type 0 where
  pub version : Version
  pub pages : ℕ
  pub quantum : ℕ
  pub slots : List (Option ℕ)
  pub programs : List ProgramValue

-- a flat body: one segment, all of it in the file, which may be stored to and is entered at its first byte
abbrev pub flat_body : ℕ → List ℕ → ElfValue
flat_body base bytes = record {
  entry = base;
  segments = record { vaddr = base; bytes = bytes; memsz = length bytes; writable = true } ∷ [];
}

-- a name without the zeros after it
abbrev pub name_text : List ℕ → List ℕ
name_text name = before_first (λ byte. byte == 0) name

-- the pages that an environment has from its boot on: the context page, the body's and the stack's
abbrev pub guaranteed_mappings : ProgramValue → ℕ
guaranteed_mappings program = 1 + length (vpns program.body) + program.stack

-- The file's header: the magic of four bytes, by which the version is known, and four numbers.
abbrev pub magic_of : Version → List ℕ
magic_of One = codes "AEG1"
magic_of Two = codes "AEG2"

-- the version whose magic the file begins with
unfoldable pub magic_version : List ℕ → Option Version
magic_version file =
    if starts_with nat_eq file (magic_of One) then Some One else
    if starts_with nat_eq file (magic_of Two) then Some Two else
    None

abbrev pub version_in : List ℕ → Version
version_in file = unwrap_or (magic_version file) One

abbrev pub pages_in : List ℕ → ℕ
pages_in file = word_at file 4

abbrev pub quantum_in : List ℕ → ℕ
quantum_in file = word_at file 8

abbrev pub environments_in : List ℕ → ℕ
environments_in file = half_at file 12

abbrev pub slots_in : List ℕ → ℕ
slots_in file = half_at file 14

-- the version and the numbers of the header
abbrev pub header_of : List ℕ → Header
header_of file = record {
  version = version_in file;
  pages = pages_in file;
  quantum = quantum_in file;
  environments = environments_in file;
  slots = slots_in file;
}

-- the bytes of an image's header; the slot bytes stand behind it
abbrev pub header_size : ℕ
header_size = 16

-- After it a byte for each slot: its owner, or 255 where the slot is empty.
abbrev pub slot_bytes : List ℕ → List ℕ
slot_bytes file = take (slots_in file) (drop header_size file)

abbrev pub owner_of : ℕ → Option ℕ
owner_of byte = if byte == 255 then None else Some byte

-- After these the programs, each a header of 28 bytes and the body.
abbrev pub first_header : List ℕ → ℕ
first_header file = header_size + slots_in file

abbrev pub name_in : List ℕ → ℕ → List ℕ
name_in file header = take 8 (drop header file)

abbrev pub base_in : List ℕ → ℕ → ℕ
base_in file header = word_at file (header + 8)

abbrev pub stack_in : List ℕ → ℕ → ℕ
stack_in file header = word_at file (header + 12)

abbrev pub accept_in : List ℕ → ℕ → ℕ
accept_in file header = word_at file (header + 16)

abbrev pub kind_in : List ℕ → ℕ → ℕ
kind_in file header = word_at file (header + 20)

abbrev pub length_in : List ℕ → ℕ → ℕ
length_in file header = word_at file (header + 24)

-- the bytes of the body of the program with this header
abbrev pub bytes_in : List ℕ → ℕ → List ℕ
bytes_in file header = take (length_in file header) (drop (header + 28) file)

-- where the body of the program with this header ends
abbrev pub body_end : List ℕ → ℕ → ℕ
body_end file header = header + 28 + length_in file header

-- the headers of so many programs, of which the first stands at this place
abbrev pub headers_from : ℕ → List ℕ → ℕ → List ℕ
headers_from zero file header = []
headers_from (suc count) file header = header ∷ headers_from count file (body_end file header)

-- where the last of their bodies ends
abbrev pub bodies_end : ℕ → List ℕ → ℕ → ℕ
bodies_end zero file header = header
bodies_end (suc count) file header = bodies_end count file (body_end file header)

-- the headers of the file
abbrev pub headers : List ℕ → List ℕ
headers file = headers_from (environments_in file) file (first_header file)

-- the body with this base and these bytes: of kind 0 they are what it has in memory, of kind 1 an ELF file
abbrev pub body_of : ℕ → ℕ → List ℕ → ElfValue
body_of kind base bytes = if kind == 0 then flat_body base bytes else elf_of bytes

-- the program with this header
unfoldable pub program_at : List ℕ → ℕ → ProgramValue
program_at file header = record {
  name = name_in file header;
  stack = stack_in file header;
  accept = accept_in file header;
  body = body_of (kind_in file header) (base_in file header) (bytes_in file header);
}

-- The image of the file's bytes. It is meant where image_fault finds nothing.
unfoldable pub image_of : List ℕ → ImageValue
image_of file = record {
  version = version_in file;
  pages = pages_in file;
  quantum = quantum_in file;
  slots = map owner_of (slot_bytes file);
  programs = map (program_at file) (headers file);
}
