-- The faults of an image: the first sentence that holds, in this order, with its place.
use Rattle.std.specs.Prelude.{ℕ, ◌+◌, ◌%◌, ◌==◌, nat_lt, nat_le, Bool, not, ◌&&◌, ◌||◌, List, [], ◌∷◌, length, drop, Option, None, Some, is_some, if◌then◌else◌, sum_by}
use Rattle.std.specs.List.{list_all}
use Rattle.aegis_limits.specs.Limits.{page_size, least_pages, least_quantum, most_quantum, most_slots, most_stack_pages, most_mappings}
use Rattle.aegis_limits.specs.VersionLimits.{most_pages_of, most_environments_of}
use Rattle.boot_image.specs.declared.fault.ImageFault.{ImageFault}
use Rattle.boot_image.specs.declared.fault.ImageWhy.{ImageWhy}
use Rattle.boot_image.specs.declared.fault.ImageWhy.TheVariants.{Short, Magic, Pages, Quantum, Envs, Slots, SlotOwner, Name, Kind, Stack, Base, Empty, Elf, Trailing, TooMany, TooBig}
use Rattle.elf_static.specs.Faulting.{◌or_else◌}
use Rattle.elf_static.specs.declared.fault.ElfFault.{ElfFault}
use Rattle.elf_static.specs.ElfFaults.{elf_fault}
use Rattle.boot_image.specs.ImageValue.{ImageValue, name_text, guaranteed_mappings, magic_version, version_in, pages_in, quantum_in, environments_in, slots_in, slot_bytes, first_header, header_size, name_in, base_in, stack_in, kind_in, length_in, bytes_in, body_end, bodies_end, headers, program_at, image_of}

abbrev pub fault : ImageWhy → ℕ → Option ImageFault
fault why place = Some (record { place = place; why = why })

-- the first fault of the things in a list
abbrev pub first_fault : {X : Type 0} → (X → Option ImageFault) → List X → Option ImageFault
first_fault fault_of [] = None
first_fault fault_of (x ∷ xs) = fault_of x or_else first_fault fault_of xs

-- whether a number lies between two limits, or is one of them
abbrev pub is_within : ℕ → ℕ → ℕ → Bool
is_within least most number = nat_le least number && nat_le number most

-- whether the file begins with the magic of a version
abbrev pub has_magic : List ℕ → Bool
has_magic file = is_some (magic_version file)

-- The header: the magic, and four numbers within the limits of its version.
unfoldable pub header_fault : List ℕ → Option ImageFault
header_fault file =
    if nat_lt (length file) header_size then fault Short (length file) else
    if not (has_magic file) then fault Magic 0 else
    if not (is_within least_pages (most_pages_of (version_in file)) (pages_in file)) then fault Pages 4 else
    if not (is_within least_quantum most_quantum (quantum_in file)) then fault Quantum 8 else
    if not (is_within 1 (most_environments_of (version_in file)) (environments_in file)) then fault Envs 12 else
    if not (is_within 1 most_slots (slots_in file)) then fault Slots 14 else
    None

-- A slot's byte: one of so many environments, or 255 for an empty slot, which nobody owns.
abbrev pub slot_fault : ℕ → ℕ → ℕ → Option ImageFault
slot_fault environments place byte =
    if not (byte == 255) && nat_le environments byte then fault SlotOwner place else None

-- the slot bytes, of which the first stands at this place
abbrev pub owners_fault : ℕ → ℕ → List ℕ → Option ImageFault
owners_fault environments place [] = None
owners_fault environments place (byte ∷ bytes) =
    slot_fault environments place byte or_else owners_fault environments (place + 1) bytes

unfoldable pub slots_fault : List ℕ → Option ImageFault
slots_fault file =
    if nat_lt (length file) (header_size + slots_in file) then fault Short (length file) else
    owners_fault (environments_in file) header_size (slot_bytes file)

-- a to z, 0 to 9, and the underscore
abbrev pub is_name_byte : ℕ → Bool
is_name_byte byte = is_within 97 122 byte || is_within 48 57 byte || (byte == 95)

-- one to eight of these, and then zeros
unfoldable pub is_name : List ℕ → Bool
is_name name =
    nat_lt 0 (length (name_text name)) && list_all is_name_byte (name_text name)
    && list_all (λ byte. byte == 0) (drop (length (name_text name)) name)

-- the address of a page behind the first two, from which so many bytes end below the stack
abbrev pub is_flat_base : ℕ → ℕ → Bool
is_flat_base base bytes = (base % page_size == 0) && nat_le 0x2000 base && nat_le (base + bytes) 0x7FF00000

-- A flat body stands at its base. An ELF file says itself where its segments stand, and its base is 0.
abbrev pub is_base : ℕ → ℕ → ℕ → Bool
is_base kind base bytes = if kind == 0 then is_flat_base base bytes else base == 0

-- The program's header, and that its body is there.
unfoldable pub program_header_fault : List ℕ → ℕ → Option ImageFault
program_header_fault file header =
    if nat_lt (length file) (header + 28) then fault Short (length file) else
    if not (is_name (name_in file header)) then fault Name header else
    if nat_lt 1 (kind_in file header) then fault Kind header else
    if nat_lt most_stack_pages (stack_in file header) then fault Stack header else
    if not (is_base (kind_in file header) (base_in file header) (length_in file header)) then fault Base header else
    if (kind_in file header == 0) && (length_in file header == 0) then fault Empty header else
    if nat_lt (length file) (body_end file header) then fault Short (length file) else
    None

-- a fault of an ELF file whose first byte stands at this place of an image
abbrev pub elf_fault_at : ℕ → Option ElfFault → Option ImageFault
elf_fault_at start None = None
elf_fault_at start (Some found) = fault (Elf found.why) (start + found.place)

-- The body, if it is an ELF file.
abbrev pub body_fault : List ℕ → ℕ → Option ImageFault
body_fault file header =
    if kind_in file header == 0 then None else elf_fault_at (header + 28) (elf_fault (bytes_in file header))

-- The program with this header.
abbrev pub program_fault : List ℕ → ℕ → Option ImageFault
program_fault file header = program_header_fault file header or_else body_fault file header

-- The bytes after the last body.
unfoldable pub trailing_fault : List ℕ → Option ImageFault
trailing_fault file =
    let end = bodies_end (environments_in file) file (first_header file) in
    if nat_lt end (length file) then fault Trailing end else None

-- The mappings of the environment with this header.
abbrev pub mappings_fault : List ℕ → ℕ → Option ImageFault
mappings_fault file header =
    if nat_lt most_mappings (guaranteed_mappings (program_at file header)) then fault TooMany header else None

-- All of them together.
abbrev pub pages_fault : ImageValue → Option ImageFault
pages_fault image =
    if nat_lt image.pages (sum_by guaranteed_mappings image.programs) then fault TooBig 4 else None

-- The first fault of the file.
unfoldable pub image_fault : List ℕ → Option ImageFault
image_fault file =
    header_fault file
    or_else slots_fault file
    or_else first_fault (program_fault file) (headers file)
    or_else trailing_fault file
    or_else first_fault (mappings_fault file) (headers file)
    or_else pages_fault (image_of file)
