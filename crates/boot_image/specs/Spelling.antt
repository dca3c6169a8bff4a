-- How an image is spelled: what stands in its file, and what that means.
use Rattle.std.specs.Prelude.{ℕ, ◌≡◌, ◌<◌, ◌%◌, ◌^◌, ◌==◌, List, [], ◌∷◌, ◌++◌, length, map, Option, None, unwrap_or, if◌then◌else◌}
use Rattle.std.specs.Int.{w16, w32, to_le_bytes}
use Rattle.aegis_limits.specs.Limits.{page_size}
use Rattle.aegis_limits.specs.declared.version.Version.{Version}
use Rattle.elf_static.specs.ElfFaults.{elf_fault}
use Rattle.boot_image.specs.declared.entry.Entry.{Entry}
use Rattle.boot_image.specs.declared.entry.Kind.{Kind}
use Rattle.boot_image.specs.declared.entry.Kind.TheVariants.{Flat, Elf}
use Rattle.boot_image.specs.declared.header.Header.{Header}
use Rattle.boot_image.specs.ImageValue.{ProgramValue, ImageValue, magic_of, body_of, version_in, pages_in, quantum_in, slot_bytes, owner_of, headers, name_in, base_in, stack_in, accept_in, kind_in, bytes_in}

abbrev pub kind_number : Kind → ℕ
kind_number (Flat base) = 0
kind_number Elf = 1

abbrev pub base_number : Kind → ℕ
base_number (Flat base) = base
base_number Elf = 0

-- an image without the bytes of the bodies: an entry for each
pub record PlanValue : Type 0 where
  pub version : Version
  pub pages : ℕ
  pub quantum : ℕ
  pub slots : List (Option ℕ)
  pub entries : List Entry

-- the byte of a slot: its owner, or 255
abbrev pub slot_byte : Option ℕ → ℕ
slot_byte owner = unwrap_or owner 255

-- a program: name, base, stack, accept, kind, length, body
abbrev pub program_text : Entry → List ℕ → List ℕ
program_text entry bytes =
    entry.name ++ to_le_bytes w32 (base_number entry.kind) ++ to_le_bytes w32 entry.stack
    ++ to_le_bytes w32 entry.accept
    ++ to_le_bytes w32 (kind_number entry.kind) ++ to_le_bytes w32 (length bytes) ++ bytes

-- each entry with the body of its number
abbrev pub programs_text : List Entry → List (List ℕ) → List ℕ
programs_text [] bodies = []
programs_text (entry ∷ entries) [] = []
programs_text (entry ∷ entries) (bytes ∷ bodies) = program_text entry bytes ++ programs_text entries bodies

-- the version and the numbers of the header
abbrev pub header_in : PlanValue → Header
header_in plan = record {
  version = plan.version;
  pages = plan.pages;
  quantum = plan.quantum;
  environments = length plan.entries;
  slots = length plan.slots;
}

-- a header: magic, pages, quantum, environments, slots
abbrev pub header_text : Header → List ℕ
header_text header =
    magic_of header.version ++ to_le_bytes w32 header.pages ++ to_le_bytes w32 header.quantum
    ++ to_le_bytes w16 header.environments ++ to_le_bytes w16 header.slots

-- an image: the header, the slot bytes, and the programs
abbrev pub image_text : PlanValue → List (List ℕ) → List ℕ
image_text plan bodies = header_text (header_in plan) ++ map slot_byte plan.slots ++ programs_text plan.entries bodies

-- the program that an entry and a body's bytes spell
abbrev pub program_with : Entry → List ℕ → ProgramValue
program_with entry bytes = record {
  name = entry.name;
  stack = entry.stack;
  accept = entry.accept;
  body = body_of (kind_number entry.kind) (base_number entry.kind) bytes;
}

abbrev pub programs_with : List Entry → List (List ℕ) → List ProgramValue
programs_with [] bodies = []
programs_with (entry ∷ entries) [] = []
programs_with (entry ∷ entries) (bytes ∷ bodies) = program_with entry bytes ∷ programs_with entries bodies

-- the image that a plan and bodies spell
abbrev pub image_with : PlanValue → List (List ℕ) → ImageValue
image_with plan bodies = record {
  version = plan.version;
  pages = plan.pages;
  quantum = plan.quantum;
  slots = plan.slots;
  programs = programs_with plan.entries bodies;
}

-- the bytes may stand as a body of this kind: a flat one's base is a page's, and an ELF file has no fault
abbrev pub IsBody : Kind → List ℕ → Type 0
IsBody (Flat base) bytes = base % page_size ≡ 0
IsBody Elf bytes = elf_fault bytes ≡ None

-- there is a body for each entry, which may stand there, and its length is a word
abbrev pub AreBodies : List Entry → List (List ℕ) → Type 0
AreBodies [] [] = Unit {0}
AreBodies [] (bytes ∷ bodies) = ⊥
AreBodies (entry ∷ entries) [] = ⊥
AreBodies (entry ∷ entries) (bytes ∷ bodies) =
    IsBody entry.kind bytes × (length bytes < 2 ^ 32) × AreBodies entries bodies

-- What a file is spelled from. It is meant where image_fault finds nothing.
abbrev pub kind_at : List ℕ → ℕ → Kind
kind_at file header = if kind_in file header == 0 then Flat (base_in file header) else Elf

abbrev pub entry_at : List ℕ → ℕ → Entry
entry_at file header = record {
  name = name_in file header;
  kind = kind_at file header;
  stack = stack_in file header;
  accept = accept_in file header;
}

abbrev pub plan_of : List ℕ → PlanValue
plan_of file = record {
  version = version_in file;
  pages = pages_in file;
  quantum = quantum_in file;
  slots = map owner_of (slot_bytes file);
  entries = map (entry_at file) (headers file);
}

abbrev pub bodies_of : List ℕ → List (List ℕ)
bodies_of file = map (bytes_in file) (headers file)
