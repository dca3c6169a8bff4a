-- An image without a fault is within its limits.
use Rattle.std.proofs.Common.{◌≡◌, ◌≤◌, ◌<◌, ℕ, zero, suc, ◌+◌, ◌%◌, true, List, [], ◌∷◌, Option, None, Some, map, length, inl, inr, refl, ap, sym, ◌∙◌, arith, subst}
use Rattle.std.specs.Prelude.{sum_by, ◌==◌}
use Rattle.std.specs.List.{AllByRecursion}
use Rattle.aegis_limits.specs.Limits.{most_stack_pages, least_pages, least_quantum}
use Rattle.aegis_limits.specs.VersionLimits.{most_pages_of, most_environments_of}
use Rattle.boot_image.proofs.Bytes.{word_small}
use Rattle.elf_static.specs.declared.fault.ElfFault.{ElfFault}
use Rattle.elf_static.specs.ElfFaults.{elf_fault}
use Rattle.elf_static.specs.AcceptedElf.{IsAcceptedElf}
use Rattle.elf_static.specs.ElfValue.{elf_of}
use Rattle.elf_static.proofs.Acceptance.{accepted as elf_accepted}
use Rattle.std.proofs.lemmas.Bool.{cases_eq, cond_both, eqb-true}
use Rattle.std.proofs.lemmas.List.{length-take, length-drop, length-map}
use Rattle.boot_image.specs.ImageValue.{IsBytes, ImageValue, version_in, pages_in, quantum_in, environments_in, slots_in, slot_bytes, owner_of, first_header, name_in, base_in, stack_in, kind_in, length_in, bytes_in, body_end, body_of, flat_body, headers_from, headers, program_at, image_of, guaranteed_mappings, header_size}
use Rattle.boot_image.specs.ImageFaults.{is_name, is_base, is_flat_base, header_fault, slot_fault, owners_fault, slots_fault, program_header_fault, body_fault, elf_fault_at, program_fault, first_fault, mappings_fault, pages_fault, image_fault}
use Rattle.boot_image.specs.Accepted.{IsFitting, IsOwnerBelow, IsAccepted}
use Rattle.boot_image.proofs.Programs.{length-headers_from}

record Header (file : List ℕ) : Type 0 where
  pub pages_least : least_pages ≤ pages_in file
  pub pages_most : pages_in file ≤ most_pages_of (version_in file)
  pub quantum_least : least_quantum ≤ quantum_in file
  pub quantum_most : quantum_in file ≤ 65536
  pub environments_least : 1 ≤ environments_in file
  pub environments_most : environments_in file ≤ most_environments_of (version_in file)
  pub slots_least : 1 ≤ slots_in file
  pub slots_most : slots_in file ≤ 64

header_passes : (file : List ℕ) → header_fault file ≡ None → Header file
unfolding header_fault
header_passes file none = record {
  pages_least = grind arith;
  pages_most = grind arith;
  quantum_least = grind arith;
  quantum_most = grind arith;
  environments_least = grind arith;
  environments_most = grind arith;
  slots_least = grind arith;
  slots_most = grind arith;
}

-- a slot byte without a fault names an environment, or nobody
owner_below : (environments place byte : ℕ) → slot_fault environments place byte ≡ None → IsOwnerBelow environments (owner_of byte)
owner_below environments place byte none =
    elim (cases_eq byte 255) [
      | inl empty ↦ rw empty tt
      | inr full ↦ grind (arith, full)
    ]

owners_below : (environments place : ℕ) (bytes : List ℕ) → owners_fault environments place bytes ≡ None → AllByRecursion (IsOwnerBelow environments) (map owner_of bytes)
owners_below environments place [] none = tt
owners_below environments place (byte ∷ bytes) none =
    (owner_below environments place byte (grind (arith, none)), owners_below environments (place + 1) bytes (grind (arith, none)))

slots_pass : (file : List ℕ) → slots_fault file ≡ None → (header_size + slots_in file ≤ length file) × (owners_fault (environments_in file) header_size (slot_bytes file) ≡ None)
unfolding slots_fault
slots_pass file none = (grind arith, grind arith)

-- the slots are as many as the header says
pub count_of_slots : (file : List ℕ) → slots_fault file ≡ None → length (map owner_of (slot_bytes file)) ≡ slots_in file
count_of_slots file none =
    length-map (slot_bytes file) owner_of ∙ simp (length-take, length-drop) (omega (arith, (slots_pass file none).0))

-- so are the programs
pub count_of_programs : (file : List ℕ) → length (map (program_at file) (headers file)) ≡ environments_in file
count_of_programs file = length-map (headers file) (program_at file) ∙ length-headers_from (environments_in file) file (first_header file)

pub record Program (file : List ℕ) (header : ℕ) : Type 0 where
  pub name : is_name (name_in file header) ≡ true
  pub kind : kind_in file header ≤ 1
  pub stack : stack_in file header ≤ most_stack_pages
  pub base : is_base (kind_in file header) (base_in file header) (length_in file header) ≡ true
  pub filled : kind_in file header ≡ 0 → 0 < length_in file header
  pub whole : body_end file header ≤ length file

pub program_passes : (file : List ℕ) (header : ℕ) → program_header_fault file header ≡ None → Program file header
unfolding program_header_fault
program_passes file header none = record {
  name = grind arith;
  kind = grind arith;
  stack = grind arith;
  base = grind arith;
  filled = λ flat. grind (arith, flat);
  whole = grind arith;
}

-- a program's body has as many bytes as its header says
pub body_size : (file : List ℕ) (header : ℕ) → body_end file header ≤ length file → length (bytes_in file header) ≡ length_in file header
body_size file header whole = simp (length-take, length-drop) (omega (arith, whole))

-- a flat body is within the limits of a program
pub flat_accepted : (base : ℕ) (bytes : List ℕ) → is_flat_base base (length bytes) ≡ true → 0 < length bytes → IsAcceptedElf (flat_body base bytes)
flat_accepted base bytes fits filled =
    let aligned : base % 4096 ≡ 0 = grind (arith, fits) in
    let above : 0x2000 ≤ base = grind (arith, fits) in
    let below : base + length bytes ≤ 0x7FF00000 = grind (arith, fits) in
    record {
      most = omega arith;
      segments = (record { filled = filled; given = omega arith; above = above; below = below }, tt);
      apart = (tt, tt);
      aligned = omega (arith, aligned);
      entered = (0, record { vaddr = base; bytes = bytes; memsz = length bytes; writable = true }, omega arith, refl, (omega arith, omega (arith, filled)));
    }

-- a fault of an ELF file is one of the image
no_elf_fault : (start : ℕ) (found : Option ElfFault) → elf_fault_at start found ≡ None → found ≡ None
no_elf_fault start None none = refl
no_elf_fault start (Some found) none = absurd cc

body_fits : (file : List ℕ) (header : ℕ) → Program file header → body_fault file header ≡ None → IsAcceptedElf (body_of (kind_in file header) (base_in file header) (bytes_in file header))
body_fits file header program none =
    cond_both (kind_in file header == 0) (flat_body (base_in file header) (bytes_in file header)) (elf_of (bytes_in file header)) IsAcceptedElf
    (λ is.
    let size = body_size file header program.whole in
    let fits : is_flat_base (base_in file header) (length (bytes_in file header)) ≡ true = ap (is_flat_base (base_in file header)) size ∙ (rw is at program.base) in
    flat_accepted (base_in file header) (bytes_in file header) fits (omega (arith, size, program.filled (eqb-true (kind_in file header) 0 is))))
    (λ is. elf_accepted (bytes_in file header) (no_elf_fault (header + 28) (elf_fault (bytes_in file header)) (rw is at none)))

program_fits : (file : List ℕ) (header : ℕ) → IsBytes file → Program file header → body_fault file header ≡ None → mappings_fault file header ≡ None → IsFitting (program_at file header)
unfolding program_at
program_fits file header bytes program none few = record {
  name = program.name;
  name_length = simp (length-take, length-drop) (omega (arith, program.whole));
  stack = program.stack;
  accept = word_small file (header + 16) bytes;
  body = body_fits file header program none;
  mappings = grind (arith, few);
}

programs_fit : (count : ℕ) (file : List ℕ) (header : ℕ) → IsBytes file → first_fault (program_fault file) (headers_from count file header) ≡ None
    → first_fault (mappings_fault file) (headers_from count file header) ≡ None → AllByRecursion IsFitting (map (program_at file) (headers_from count file header))
programs_fit zero file header bytes none mappings = tt
programs_fit (suc count) file header bytes none mappings =
    let next = body_end file header in
    let header_none : program_header_fault file header ≡ None = grind (arith, none) in
    let body_none : body_fault file header ≡ None = grind (arith, none) in
    let few : mappings_fault file header ≡ None = grind (arith, mappings) in
    (program_fits file header bytes (program_passes file header header_none) body_none few, programs_fit count file next bytes (grind (arith, none)) (grind (arith, mappings)))

fitting_pages : (image : ImageValue) → pages_fault image ≡ None → sum_by guaranteed_mappings image.programs ≤ image.pages
fitting_pages image none = grind arith

-- a file whose parts have no fault
pub parts_accepted : (file : List ℕ) → IsBytes file → header_fault file ≡ None → slots_fault file ≡ None → first_fault (program_fault file) (headers file) ≡ None
    → first_fault (mappings_fault file) (headers file) ≡ None → sum_by guaranteed_mappings (image_of file).programs ≤ pages_in file → IsAccepted (image_of file)
unfolding image_of
parts_accepted file bytes header_none slots_none programs_none mappings_none room =
    let header = header_passes file header_none in
    let programs_count = count_of_programs file in
    let slots_count = count_of_slots file slots_none in
    record {
      pages_least = header.pages_least;
      pages_most = header.pages_most;
      quantum_least = header.quantum_least;
      quantum_most = header.quantum_most;
      slots_least = omega (arith, header.slots_least);
      slots_most = omega (arith, header.slots_most);
      owners = subst (λ (count : ℕ). AllByRecursion (IsOwnerBelow count) (map owner_of (slot_bytes file))) (sym programs_count)
          (owners_below (environments_in file) header_size (slot_bytes file) (slots_pass file slots_none).1);
      programs_least = omega (arith, header.environments_least);
      programs_most = omega (arith, header.environments_most);
      programs = programs_fit (environments_in file) file (first_header file) bytes programs_none mappings_none;
      room = room;
    }

pages_is : (file : List ℕ) → (image_of file).pages ≡ pages_in file
unfolding image_of
pages_is file = refl

pub accepted : (file : List ℕ) → IsBytes file → image_fault file ≡ None → IsAccepted (image_of file)
unfolding image_fault
accepted file bytes none =
    let header_none : header_fault file ≡ None = grind arith in
    let slots_none : slots_fault file ≡ None = grind arith in
    let programs_none : first_fault (program_fault file) (headers file) ≡ None = grind arith in
    let mappings_none : first_fault (mappings_fault file) (headers file) ≡ None = grind arith in
    let pages_none : pages_fault (image_of file) ≡ None = grind arith in
    let room = fitting_pages (image_of file) pages_none in
    parts_accepted file bytes header_none slots_none programs_none mappings_none (omega (arith, room, pages_is file))
