-- A file without a fault is spelled from its plan and its bodies.
use Rattle.std.proofs.Common.{◌≡◌, ◌≤◌, ℕ, zero, suc, ◌+◌, List, [], ◌∷◌, ◌++◌, None, map, length, take, drop, true, inl, inr, refl, ap, sym, ◌∙◌, append_assoc, arith}
use Rattle.std.specs.Prelude.{codes, nat_eq}
use Rattle.std.specs.List.{starts_with}
use Rattle.std.proofs.lemmas.Bool.{cases_Bool, true≢false}
use Rattle.aegis_limits.specs.declared.version.Version.{Version}
use Rattle.aegis_limits.specs.declared.version.Version.TheVariants.{One, Two}
use Rattle.std.specs.Int.{w16, w32, to_le_bytes}
use Rattle.std.proofs.lemmas.List.{length-drop, length-map, take-append-drop, drop-drop, append-nil, nil_from_length}
use lib.Pointwise.{bytes_decides}
use Rattle.byte_numbers.specs.Numbers.{half_at, word_at}
use Rattle.boot_image.proofs.Bytes.{half_bytes, word_bytes}
use Rattle.boot_image.specs.ImageValue.{IsBytes, magic_of, magic_version, version_in, pages_in, quantum_in, slots_in, slot_bytes, owner_of, environments_in, first_header, name_in, base_in, stack_in, accept_in, kind_in, length_in, bytes_in, body_of, body_end, bodies_end, headers_from, headers, program_at, image_of, header_size}
use Rattle.boot_image.specs.ImageFaults.{has_magic, header_fault, slots_fault, program_fault, first_fault, trailing_fault, image_fault}
use Rattle.boot_image.specs.Spelling.{slot_byte, kind_number, base_number, kind_at, entry_at, plan_of, bodies_of, program_text, programs_text, image_text, program_with, programs_with, image_with}
use Rattle.boot_image.proofs.Acceptance.{Program, program_passes, body_size, count_of_slots}
use Rattle.boot_image.proofs.Programs.{length-headers_from}

-- From place i of the file up to place j stands this text.
record Stands (file : List ℕ) (i : ℕ) (text : List ℕ) (j : ℕ) : Type 0 where
  pub is : drop i file ≡ text ++ drop j file

infixl 5 ◌then◌
◌then◌ : {file x y : List ℕ} {i j k : ℕ} → Stands file i x j → Stands file j y k → Stands file i (x ++ y) k
◌then◌ {file = file} {x = x} {y = y} {k = k} first second = record { is = first.is ∙ ap (λ (t : List ℕ). x ++ t) second.is ∙ sym (append_assoc x y (drop k file)) }

-- so many bytes stand there as they are
bytes_stand : (file : List ℕ) (i n j : ℕ) (text : List ℕ) → text ≡ take n (drop i file) → i + n ≡ j → Stands file i text j
bytes_stand file i n j text same ends = record {
  is = sym (take-append-drop n (drop i file)) ∙ (λ k. sym same k ++ (drop-drop n i file ∙ ap (λ (j : ℕ). drop j file) ends) k);
}

word_stands : (file : List ℕ) (i j n : ℕ) → IsBytes file → n ≡ word_at file i → i + 4 ≡ j → j ≤ length file → Stands file i (to_le_bytes w32 n) j
word_stands file i j n fits is ends within = bytes_stand file i 4 j _ (ap (to_le_bytes w32) is ∙ word_bytes file i fits (omega (arith, ends, within))) ends

half_stands : (file : List ℕ) (i j n : ℕ) → IsBytes file → n ≡ half_at file i → i + 2 ≡ j → j ≤ length file → Stands file i (to_le_bytes w16 n) j
half_stands file i j n fits is ends within = bytes_stand file i 2 j _ (ap (to_le_bytes w16) is ∙ half_bytes file i fits (omega (arith, ends, within))) ends

-- the owners are the slot bytes again
owners_again : (bytes : List ℕ) → map slot_byte (map owner_of bytes) ≡ bytes
owners_again [] = refl
owners_again (byte ∷ bytes) =
    let one : slot_byte (owner_of byte) ≡ byte = grind arith in
    λ i. one i ∷ owners_again bytes i

-- an accepted program's kind and base are those that are spelled
record Again (file : List ℕ) (header : ℕ) : Type 0 where
  pub kind : kind_number (kind_at file header) ≡ kind_in file header
  pub base : base_number (kind_at file header) ≡ base_in file header

kind_again : (file : List ℕ) (header : ℕ) → Program file header → Again file header
kind_again file header program = record { kind = grind (arith, program.kind); base = grind (arith, program.base) }

program_again : (file : List ℕ) (header : ℕ) → Program file header → program_with (entry_at file header) (bytes_in file header) ≡ program_at file header
unfolding program_at
program_again file header program =
    let again = kind_again file header program in
    λ i. record {
      name = name_in file header;
      stack = stack_in file header;
      accept = accept_in file header;
      body = body_of (again.kind i) (again.base i) (bytes_in file header);
    }

program_stands : (file : List ℕ) (header : ℕ) → IsBytes file → Program file header → Stands file header (program_text (entry_at file header) (bytes_in file header)) (body_end file header)
program_stands file header fits program =
    let again = kind_again file header program in
    let whole = program.whole in
    let name = bytes_stand file header 8 (header + 8) (name_in file header) refl refl in
    let base = word_stands file (header + 8) (header + 12) _ fits again.base (omega arith) (omega (arith, whole)) in
    let stack = word_stands file (header + 12) (header + 16) (stack_in file header) fits refl (omega arith) (omega (arith, whole)) in
    let accept = word_stands file (header + 16) (header + 20) (accept_in file header) fits refl (omega arith) (omega (arith, whole)) in
    let kind = word_stands file (header + 20) (header + 24) _ fits again.kind (omega arith) (omega (arith, whole)) in
    let size = word_stands file (header + 24) (header + 28) _ fits (body_size file header whole) (omega arith) (omega (arith, whole)) in
    let body = bytes_stand file (header + 28) (length_in file header) (body_end file header) (bytes_in file header) refl refl in
    name then base then stack then accept then kind then size then body

-- the programs of headers stand one after another, and mean what they are
record Spelled (count : ℕ) (file : List ℕ) (header : ℕ) : Type 0 where
  pub stand : Stands file header (programs_text (map (entry_at file) (headers_from count file header)) (map (bytes_in file) (headers_from count file header))) (bodies_end count file header)
  pub mean : programs_with (map (entry_at file) (headers_from count file header)) (map (bytes_in file) (headers_from count file header)) ≡ map (program_at file) (headers_from count file header)

programs_spelled : (count : ℕ) (file : List ℕ) (header : ℕ) → IsBytes file → first_fault (program_fault file) (headers_from count file header) ≡ None → Spelled count file header
programs_spelled zero file header fits none = record { stand = record { is = refl }; mean = refl }
programs_spelled (suc count) file header fits none =
    let later = body_end file header in
    let program = program_passes file header (grind (arith, none)) in
    let is = program_again file header program in
    let others = programs_spelled count file later fits (grind (arith, none)) in
    record {
      stand = program_stands file header fits program then others.stand;
      mean = λ i. is i ∷ others.mean i;
    }

-- what stands up to the end is all
stands_whole : (file text : List ℕ) (end : ℕ) → length file ≤ end → Stands file 0 text end → file ≡ text
stands_whole file text end past stands =
    let nothing : drop end file ≡ [] = nil_from_length (drop end file) (omega (arith, length-drop end file)) in
    stands.is ∙ ap (λ (t : List ℕ). text ++ t) nothing ∙ append-nil text

-- a file that begins with a magic begins with its version's
magic_again : (file : List ℕ) → has_magic file ≡ true → magic_of (version_in file) ≡ take 4 file
unfolding magic_version
magic_again file has =
    elim (cases_Bool (starts_with nat_eq file (magic_of One))) [
      | inl one ↦ rw one (begins One one)
      | inr other ↦ elim (cases_Bool (starts_with nat_eq file (magic_of Two))) [
        | inl two ↦ rw (other, two) (begins Two two)
        | inr none ↦ absurd (true≢false (sym (rw (other, none) at has)))
      ]
    ]
  where
    begins : (version : Version) → starts_with nat_eq file (magic_of version) ≡ true → magic_of version ≡ take 4 file
    begins One is = (bytes_decides (codes "AEG1") (take 4 file)).0 is
    begins Two is = (bytes_decides (codes "AEG2") (take 4 file)).0 is

header_passes : (file : List ℕ) → header_fault file ≡ None → (has_magic file ≡ true) × (header_size ≤ length file)
unfolding header_fault
header_passes file none = (grind arith, grind arith)

nothing_trails : (file : List ℕ) → trailing_fault file ≡ None → length file ≤ bodies_end (environments_in file) file (first_header file)
unfolding trailing_fault
nothing_trails file none = grind arith

pub spelled : (file : List ℕ) → IsBytes file → image_fault file ≡ None → (file ≡ image_text (plan_of file) (bodies_of file)) × (image_of file ≡ image_with (plan_of file) (bodies_of file))
unfolding image_fault image_of
spelled file fits none =
    let header_none : header_fault file ≡ None = grind arith in
    let slots_none : slots_fault file ≡ None = grind arith in
    let programs_none : first_fault (program_fault file) (headers file) ≡ None = grind arith in
    let trailing_none : trailing_fault file ≡ None = grind arith in
    let header = header_passes file header_none in
    let entries_count : length (map (entry_at file) (headers file)) ≡ environments_in file = length-map (headers file) (entry_at file) ∙ length-headers_from (environments_in file) file (first_header file) in
    let magic = bytes_stand file 0 4 4 (magic_of (version_in file)) (magic_again file header.0) refl in
    let pages = word_stands file 4 8 (pages_in file) fits refl refl (omega (arith, header.1)) in
    let quantum = word_stands file 8 12 (quantum_in file) fits refl refl (omega (arith, header.1)) in
    let environments = half_stands file 12 14 _ fits entries_count refl (omega (arith, header.1)) in
    let slots = half_stands file 14 16 _ fits (count_of_slots file slots_none) refl (omega (arith, header.1)) in
    let owners = bytes_stand file header_size (slots_in file) (first_header file) _ (owners_again (slot_bytes file)) refl in
    let programs = programs_spelled (environments_in file) file (first_header file) fits programs_none in (
      stands_whole file _ _ (nothing_trails file trailing_none) (magic then pages then quantum then environments then slots then owners then programs.stand),
      λ i. record { version = version_in file; pages = pages_in file; quantum = quantum_in file; slots = map owner_of (slot_bytes file); programs = sym programs.mean i },
    )
