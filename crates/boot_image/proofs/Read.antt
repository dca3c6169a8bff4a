-- What is spelled from a plan and bodies within the limits has no fault, and is read as what they mean.
use Rattle.std.proofs.Common.{◌≡◌, ◌≤◌, ◌<◌, ◌^◌, ℕ, ◌+◌, true, false, List, [], ◌∷◌, ◌++◌, Option, None, Some, map, length, take, drop, refl, ap, sym, ◌∙◌, append_assoc, arith}
use Rattle.std.specs.Prelude.{nat_lt, suc, ◌==◌, ◌&&◌, is_some, unwrap_or, if◌then◌else◌}
use Rattle.std.specs.List.{AllByRecursion}
use Rattle.std.specs.Int.{w16, w32, to_le_bytes}
use Rattle.std.proofs.lemmas.List.{length-drop, length-append, length-map, take_at}
use Rattle.elf_static.specs.ElfFaults.{elf_fault}
use Rattle.elf_static.specs.AcceptedElf.{IsAcceptedElf}
use Rattle.boot_image.specs.declared.entry.Entry.{Entry}
use Rattle.boot_image.specs.declared.entry.Kind.{Kind}
use Rattle.boot_image.specs.declared.entry.Kind.TheVariants.{Flat, Elf}
use Rattle.boot_image.specs.declared.fault.ImageWhy.TheVariants.{TooMany}
use Rattle.boot_image.specs.ImageValue.{ProgramValue, ImageValue, magic_of, magic_version, version_in, pages_in, quantum_in, environments_in, slots_in, slot_bytes, owner_of, first_header, name_in, base_in, stack_in, accept_in, kind_in, length_in, bytes_in, body_of, body_end, bodies_end, headers_from, headers, program_at, image_of, guaranteed_mappings, header_size}
use Rattle.boot_image.specs.ImageFaults.{fault, is_within, has_magic, is_name, is_base, header_fault, slot_fault, slots_fault, owners_fault, program_header_fault, body_fault, elf_fault_at, program_fault, first_fault, trailing_fault, mappings_fault, pages_fault, image_fault}
use Rattle.boot_image.specs.Accepted.{IsFitting, IsOwnerBelow, IsAccepted}
use Rattle.boot_image.specs.Spelling.{PlanValue, kind_number, base_number, slot_byte, program_text, programs_text, image_text, program_with, programs_with, image_with, IsBody, AreBodies}
use Rattle.boot_image.proofs.Bytes.{behind, half_read, word_read}
use Rattle.aegis_limits.specs.Limits.{least_pages, least_quantum, most_quantum, most_environments}
use Rattle.aegis_limits.specs.VersionLimits.{most_pages_of, most_environments_of}
use Rattle.aegis_limits.specs.declared.version.Version.{Version}
use Rattle.aegis_limits.specs.declared.version.Version.TheVariants.{One, Two}
use Rattle.boot_image.proofs.Within.{few_pages, few_programs}

-- a program as it was spelled
record Reads (file : List ℕ) (header : ℕ) (entry : Entry) (bytes rest : List ℕ) : Type 0 where
  pub name : name_in file header ≡ entry.name
  pub base : base_in file header ≡ base_number entry.kind
  pub stack : stack_in file header ≡ entry.stack
  pub accept : accept_in file header ≡ entry.accept
  pub kind : kind_in file header ≡ kind_number entry.kind
  pub size : length_in file header ≡ length bytes
  pub body : bytes_in file header ≡ bytes
  pub whole : body_end file header ≤ length file
  pub after : drop (body_end file header) file ≡ rest

-- a base is a word, as a kind is
base_small : (kind : Kind) (bytes : List ℕ) → IsAcceptedElf (body_of (kind_number kind) (base_number kind) bytes) → base_number kind < 2 ^ 32
base_small (Flat base) bytes accepted = omega (arith, accepted.segments.0.below)
base_small Elf bytes accepted = omega arith

kind_small : (kind : Kind) → kind_number kind ≤ 1
kind_small (Flat base) = omega arith
kind_small Elf = omega arith

program_read : (file : List ℕ) (header : ℕ) (entry : Entry) (bytes rest : List ℕ) → IsFitting (program_with entry bytes) → length bytes < 2 ^ 32
    → drop header file ≡ program_text entry bytes ++ rest → Reads file header entry bytes rest
program_read file header entry bytes rest fitting few stands =
    let numbers = to_le_bytes w32 (base_number entry.kind) ++ to_le_bytes w32 entry.stack ++ to_le_bytes w32 entry.accept ++ to_le_bytes w32 (kind_number entry.kind) ++ to_le_bytes w32 (length bytes) in
    let text = numbers ++ (bytes ++ rest) in
    let named : drop header file ≡ entry.name ++ text = stands ∙ simp append_assoc in
    let at8 : drop (header + 8) file ≡ text = behind file header entry.name text (header + 8) named (omega (arith, fitting.name_length)) in
    let at28 : drop (header + 28) file ≡ bytes ++ rest = behind file (header + 8) numbers (bytes ++ rest) (header + 28) at8 (omega arith) in
    let size : length_in file header ≡ length bytes = word_read file (header + 8) text 16 (length bytes) (drop 20 text) (header + 24) at8 refl few (omega arith) in
    let left : length (drop (header + 8) file) ≡ 20 + (length bytes + length rest) = ap length at8 ∙ simp length-append (omega arith) in
    record {
      name = ap (take 8) named ∙ take_at entry.name text 8 fitting.name_length;
      base = word_read file (header + 8) text 0 (base_number entry.kind) (drop 4 text) (header + 8) at8 refl (base_small entry.kind bytes fitting.body) (omega arith);
      stack = word_read file (header + 8) text 4 entry.stack (drop 8 text) (header + 12) at8 refl (omega (arith, fitting.stack)) (omega arith);
      accept = word_read file (header + 8) text 8 entry.accept (drop 12 text) (header + 16) at8 refl fitting.accept (omega arith);
      kind = word_read file (header + 8) text 12 (kind_number entry.kind) (drop 16 text) (header + 20) at8 refl (omega (arith, kind_small entry.kind)) (omega arith);
      size = size;
      body = ap (take (length_in file header)) at28 ∙ take_at bytes rest (length_in file header) (sym size);
      whole = omega (arith, left, length-drop (header + 8) file, size);
      after = behind file (header + 28) bytes rest (body_end file header) at28 (omega (arith, size));
    }

-- the header of a body that may stand there is in order
base_fits : (kind : Kind) (bytes : List ℕ) → IsBody kind bytes → IsAcceptedElf (body_of (kind_number kind) (base_number kind) bytes) → is_base (kind_number kind) (base_number kind) (length bytes) ≡ true
base_fits (Flat base) bytes body accepted =
    let above : 0x2000 ≤ base = accepted.segments.0.above in
    let below : base + length bytes ≤ 0x7FF00000 = accepted.segments.0.below in
    grind (arith, body, above, below)
base_fits Elf bytes body accepted = refl

filled_fits : (kind : Kind) (bytes : List ℕ) → IsAcceptedElf (body_of (kind_number kind) (base_number kind) bytes) → ((kind_number kind == 0) && (length bytes == 0)) ≡ false
filled_fits (Flat base) bytes accepted = let filled : 0 < length bytes = accepted.segments.0.filled in grind (arith, filled)
filled_fits Elf bytes accepted = refl

no_body_fault : (kind : Kind) (bytes : List ℕ) (start : ℕ) → IsBody kind bytes → (if kind_number kind == 0 then None else elf_fault_at start (elf_fault bytes)) ≡ None
no_body_fault (Flat base) bytes start body = refl
no_body_fault Elf bytes start body = ap (elf_fault_at start) body

header_passes : (file : List ℕ) (header : ℕ) (entry : Entry) (bytes rest : List ℕ) → IsBody entry.kind bytes → IsFitting (program_with entry bytes) → Reads file header entry bytes rest
    → program_header_fault file header ≡ None
unfolding program_header_fault
header_passes file header entry bytes rest body fitting reads =
    let short : nat_lt (length file) (header + 28) ≡ false = grind (arith, reads.whole) in
    let name : is_name (name_in file header) ≡ true = ap is_name reads.name ∙ fitting.name in
    let kind : nat_lt 1 (kind_in file header) ≡ false = grind (arith, reads.kind, kind_small entry.kind) in
    let stack : nat_lt 16 (stack_in file header) ≡ false = grind (arith, reads.stack, fitting.stack) in
    let base : is_base (kind_in file header) (base_in file header) (length_in file header) ≡ true
    = (λ i. is_base (reads.kind i) (reads.base i) (reads.size i)) ∙ base_fits entry.kind bytes body fitting.body in
    let filled : ((kind_in file header == 0) && (length_in file header == 0)) ≡ false
    = (λ i. (reads.kind i == 0) && (reads.size i == 0)) ∙ filled_fits entry.kind bytes fitting.body in
    let whole : nat_lt (length file) (body_end file header) ≡ false = grind (arith, reads.whole) in
    rw (short, name, kind, stack, base, filled, whole) refl

program_passes : (file : List ℕ) (header : ℕ) (entry : Entry) (bytes rest : List ℕ) → IsBody entry.kind bytes → IsFitting (program_with entry bytes) → Reads file header entry bytes rest → program_fault file header ≡ None
program_passes file header entry bytes rest body fitting reads =
    let body_none : body_fault file header ≡ None
    = (λ i. if reads.kind i == 0 then None else elf_fault_at (header + 28) (elf_fault (reads.body i))) ∙ no_body_fault entry.kind bytes (header + 28) body in
    rw (header_passes file header entry bytes rest body fitting reads, body_none) refl

program_value : (file : List ℕ) (header : ℕ) (entry : Entry) (bytes rest : List ℕ) → Reads file header entry bytes rest → program_at file header ≡ program_with entry bytes
unfolding program_at
program_value file header entry bytes rest reads =
    λ i. record { name = reads.name i; stack = reads.stack i; accept = reads.accept i; body = body_of (reads.kind i) (reads.base i) (reads.body i) }

-- a program that fits needs few enough mappings
few_mappings : (program : ProgramValue) (place : ℕ) → IsFitting program → (if nat_lt 256 (guaranteed_mappings program) then fault TooMany place else None) ≡ None
few_mappings program place fitting = let few : guaranteed_mappings program ≤ 256 = fitting.mappings in grind (arith, few)

-- programs one after another
record AllRead (count : ℕ) (file : List ℕ) (header : ℕ) (programs : List ProgramValue) : Type 0 where
  pub faults : first_fault (program_fault file) (headers_from count file header) ≡ None
  pub room : first_fault (mappings_fault file) (headers_from count file header) ≡ None
  pub values : map (program_at file) (headers_from count file header) ≡ programs
  pub after : drop (bodies_end count file header) file ≡ []

programs_read : (entries : List Entry) (bodies : List (List ℕ)) (file : List ℕ) (header : ℕ) → AreBodies entries bodies → AllByRecursion IsFitting (programs_with entries bodies)
    → drop header file ≡ programs_text entries bodies → AllRead (length entries) file header (programs_with entries bodies)
programs_read [] [] file header are fitting stands = record { faults = refl; room = refl; values = refl; after = stands }
programs_read [] (bytes ∷ bodies) file header are fitting stands = absurd are
programs_read (entry ∷ entries) [] file header are fitting stands = absurd are
programs_read (entry ∷ entries) (bytes ∷ bodies) file header are fitting stands =
    let later = programs_text entries bodies in
    let reads = program_read file header entry bytes later fitting.0 are.1 stands in
    let none = program_passes file header entry bytes later are.0 fitting.0 reads in
    let value = program_value file header entry bytes later reads in
    let few : mappings_fault file header ≡ None
    = ap (λ (p : ProgramValue). if nat_lt 256 (guaranteed_mappings p) then fault TooMany header else None) value ∙ few_mappings (program_with entry bytes) header fitting.0 in
    let others = programs_read entries bodies file (body_end file header) are.2 fitting.1 reads.after in
    record { faults = rw none others.faults; room = rw few others.room; values = λ i. value i ∷ others.values i; after = others.after }

-- as many programs as entries
programs_count : (entries : List Entry) (bodies : List (List ℕ)) → AreBodies entries bodies → length (programs_with entries bodies) ≡ length entries
programs_count [] [] are = refl
programs_count [] (bytes ∷ bodies) are = absurd are
programs_count (entry ∷ entries) [] are = absurd are
programs_count (entry ∷ entries) (bytes ∷ bodies) are = ap suc (programs_count entries bodies are.2)

-- the owners that a slot byte names are no others
owner_again : (count : ℕ) (owner : Option ℕ) → count ≤ most_environments → IsOwnerBelow count owner → owner_of (slot_byte owner) ≡ owner
owner_again count None few below = refl
owner_again count (Some e) few below = let least : e < 255 = omega (arith, below) in grind (arith, least)

owners_again : (count : ℕ) (owners : List (Option ℕ)) → count ≤ most_environments → AllByRecursion (IsOwnerBelow count) owners → map owner_of (map slot_byte owners) ≡ owners
owners_again count [] few below = refl
owners_again count (owner ∷ owners) few below =
    λ i. owner_again count owner few below.0 i ∷ owners_again count owners few below.1 i

owner_passes : (count place : ℕ) (owner : Option ℕ) → IsOwnerBelow count owner → slot_fault count place (slot_byte owner) ≡ None
owner_passes count place None below = refl
owner_passes count place (Some e) below = grind (arith, below)

owners_pass : (count place : ℕ) (owners : List (Option ℕ)) → AllByRecursion (IsOwnerBelow count) owners → owners_fault count place (map slot_byte owners) ≡ None
owners_pass count place [] below = refl
owners_pass count place (owner ∷ owners) below =
    rw (owner_passes count place owner below.0) (owners_pass count (place + 1) owners below.1)

-- a magic has four bytes
pub magic_size : (version : Version) → length (magic_of version) ≡ 4
magic_size One = refl
magic_size Two = refl

-- what begins with the magic of a version is of that version
magic_read : (version : Version) (rest : List ℕ) → magic_version (magic_of version ++ rest) ≡ Some version
unfolding magic_version
magic_read One rest = refl
magic_read Two rest = refl

record Header (file : List ℕ) (plan : PlanValue) (bodies : List (List ℕ)) : Type 0 where
  pub version : magic_version file ≡ Some plan.version
  pub pages : pages_in file ≡ plan.pages
  pub quantum : quantum_in file ≡ plan.quantum
  pub environments : environments_in file ≡ length plan.entries
  pub slots : slots_in file ≡ length plan.slots
  pub whole : header_size + slots_in file ≤ length file
  pub bytes : slot_bytes file ≡ map slot_byte plan.slots
  pub programs : drop (first_header file) file ≡ programs_text plan.entries bodies

header_read : (file : List ℕ) (plan : PlanValue) (bodies : List (List ℕ)) → AreBodies plan.entries bodies → IsAccepted (image_with plan bodies) → file ≡ image_text plan bodies → Header file plan bodies
header_read file plan bodies are accepted is =
    let entries_count = programs_count plan.entries bodies are in
    let numbers = to_le_bytes w32 plan.pages ++ to_le_bytes w32 plan.quantum ++ to_le_bytes w16 (length plan.entries) ++ to_le_bytes w16 (length plan.slots) in
    let owners = map slot_byte plan.slots in
    let programs = programs_text plan.entries bodies in
    let count : length owners ≡ length plan.slots = length-map plan.slots slot_byte in
    let text = numbers ++ (owners ++ programs) in
    let begins : file ≡ magic_of plan.version ++ text = is ∙ simp append_assoc in
    let at4 : drop 4 file ≡ text = behind file 0 (magic_of plan.version) text 4 begins (omega (arith, magic_size plan.version)) in
    let behind_header : drop header_size file ≡ owners ++ programs = behind file 4 numbers (owners ++ programs) header_size at4 (omega arith) in
    let size : length file ≡ header_size + (length owners + length programs) = ap length begins ∙ simp length-append (omega (arith, magic_size plan.version)) in
    let slots : slots_in file ≡ length plan.slots = half_read file 4 text 10 (length plan.slots) (drop 12 text) 14 at4 refl (omega (arith, accepted.slots_most)) refl in
    record {
      version = ap magic_version begins ∙ magic_read plan.version text;
      pages = word_read file 4 text 0 plan.pages (drop 4 text) 4 at4 refl (omega (arith, few_pages (image_with plan bodies) accepted)) refl;
      quantum = word_read file 4 text 4 plan.quantum (drop 8 text) 8 at4 refl (omega (arith, accepted.quantum_most)) refl;
      environments = half_read file 4 text 8 (length plan.entries) (drop 10 text) 12 at4 refl (omega (arith, few_programs (image_with plan bodies) accepted, entries_count)) refl;
      slots = slots;
      whole = omega (arith, size, count, slots);
      bytes = ap (take (slots_in file)) behind_header ∙ take_at owners programs (slots_in file) (count ∙ sym slots);
      programs = behind file header_size owners programs (first_header file) behind_header (omega (arith, count, slots));
    }

version_is : (file : List ℕ) (plan : PlanValue) (bodies : List (List ℕ)) → Header file plan bodies → version_in file ≡ plan.version
version_is file plan bodies header = ap (λ (found : Option Version). unwrap_or found One) header.version

file_header_passes : (file : List ℕ) (plan : PlanValue) (bodies : List (List ℕ)) → length (programs_with plan.entries bodies) ≡ length plan.entries → IsAccepted (image_with plan bodies) → Header file plan bodies → header_fault file ≡ None
unfolding header_fault
file_header_passes file plan bodies same accepted header =
    let whole : nat_lt (length file) header_size ≡ false = grind (arith, header.whole) in
    let magic : has_magic file ≡ true = ap is_some header.version in
    let version : version_in file ≡ plan.version = version_is file plan bodies header in
    let pages : is_within least_pages (most_pages_of plan.version) (pages_in file) ≡ true = grind (arith, header.pages, accepted.pages_least, accepted.pages_most) in
    let quantum : is_within least_quantum most_quantum (quantum_in file) ≡ true = grind (arith, header.quantum, accepted.quantum_least, accepted.quantum_most) in
    let environments : is_within 1 (most_environments_of plan.version) (environments_in file) ≡ true = grind (arith, header.environments, same, accepted.programs_least, accepted.programs_most) in
    let slots : is_within 1 64 (slots_in file) ≡ true = grind (arith, header.slots, accepted.slots_least, accepted.slots_most) in
    rw (whole, magic, version, pages, quantum, environments, slots) refl

slots_pass : (file : List ℕ) (plan : PlanValue) (bodies : List (List ℕ)) → length (programs_with plan.entries bodies) ≡ length plan.entries → IsAccepted (image_with plan bodies) → Header file plan bodies → slots_fault file ≡ None
unfolding slots_fault
slots_pass file plan bodies same accepted header =
    let owners : owners_fault (environments_in file) header_size (slot_bytes file) ≡ None
    = (λ i. owners_fault ((header.environments ∙ sym same) i) header_size (header.bytes i)) ∙ owners_pass (length (programs_with plan.entries bodies)) header_size plan.slots accepted.owners in
    grind (arith, owners, header.whole)

nothing_trails : (file : List ℕ) → drop (bodies_end (environments_in file) file (first_header file)) file ≡ [] → trailing_fault file ≡ None
unfolding trailing_fault
nothing_trails file after =
    let end = bodies_end (environments_in file) file (first_header file) in
    let size : length (drop end file) ≡ 0 = ap length after in
    let past : length file ≤ end = omega (arith, length-drop end file) in
    grind (arith, past)

pages_fit : (image : ImageValue) → IsAccepted image → pages_fault image ≡ None
pages_fit image accepted = grind (arith, accepted.room)

pub read_again : (plan : PlanValue) (bodies : List (List ℕ)) → AreBodies plan.entries bodies → IsAccepted (image_with plan bodies)
    → (image_fault (image_text plan bodies) ≡ None) × (image_of (image_text plan bodies) ≡ image_with plan bodies)
unfolding image_fault image_of
read_again plan bodies are accepted = by_file (image_text plan bodies) refl
  where
    by_file : (file : List ℕ) → file ≡ image_text plan bodies → (image_fault file ≡ None) × (image_of file ≡ image_with plan bodies)
    by_file file is =
        let same = programs_count plan.entries bodies are in
        let header = header_read file plan bodies are accepted is in
        let programs = programs_read plan.entries bodies file (first_header file) are accepted.programs header.programs in
        let faults : first_fault (program_fault file) (headers file) ≡ None = rw header.environments programs.faults in
        let room : first_fault (mappings_fault file) (headers file) ≡ None = rw header.environments programs.room in
        let values : map (program_at file) (headers file) ≡ programs_with plan.entries bodies = rw header.environments programs.values in
        let after : drop (bodies_end (environments_in file) file (first_header file)) file ≡ [] = rw header.environments programs.after in
        let slots : map owner_of (slot_bytes file) ≡ plan.slots
        = ap (map owner_of) header.bytes ∙ owners_again (length (programs_with plan.entries bodies)) plan.slots (few_programs (image_with plan bodies) accepted) accepted.owners in
        let version = version_is file plan bodies header in
        let value : image_of file ≡ image_with plan bodies = λ i. record { version = version i; pages = header.pages i; quantum = header.quantum i; slots = slots i; programs = values i } in
        let pages : pages_fault (image_of file) ≡ None = ap pages_fault value ∙ pages_fit (image_with plan bodies) accepted in
        let header_none = file_header_passes file plan bodies same accepted header in
        (rw (header_none, slots_pass file plan bodies same accepted header, faults, nothing_trails file after, room, pages) refl, value)
