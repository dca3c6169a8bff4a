-- The image of the load is within the limits, and so it is read without a fault.
use Rattle.std.proofs.Common.{◌≡◌, ◌≤◌, ◌<◌, ◌∙◌, ℕ, zero, suc, ◌+◌, ◌*◌, ◌%◌, ◌^◌, Bool, true, List, [], ◌∷◌, Some, None, length, map, replicate, ap, arith, refl, subst, sym}
use Rattle.std.specs.Prelude.{sum_by, ◌&&◌, ◌==◌}
use Rattle.std.specs.List.{AllByRecursion, list_all, range_with_len}
use Rattle.std.specs.Fmt.{digits}
use Rattle.std.proofs.lemmas.Bool.{and_parts, eqb-true}
use Rattle.std.proofs.lemmas.List.Sums.{sum_by-cons}
use Rattle.line_text.specs.Text.{dec_text}
use Rattle.elf_static.specs.ElfValue.{elf_of}
use Rattle.elf_static.proofs.Acceptance.{accepted}
use Rattle.boot_image.specs.declared.entry.Entry.{Entry}
use Rattle.boot_image.specs.ImageValue.{ProgramValue, guaranteed_mappings, image_of}
use Rattle.boot_image.specs.ImageFaults.{image_fault, is_name}
use Rattle.boot_image.specs.Accepted.{IsAccepted, IsFitting, IsOwnerBelow}
use Rattle.boot_image.specs.Spelling.{AreBodies, image_with, programs_with}
use Rattle.boot_image.proofs.Read.{read_again}
use Rattle.exos_text.specs.LoadElf.{load_elf}
use Rattle.exos_text.specs.LoadImage.{load_bodies, load_entries, load_entry, load_image_text, load_image_value, load_plan, load_slots}
use Rattle.exos_text.proofs.Body.{no_fault, pages_at_most}
use Rattle.exos_text.proofs.Programs.{entries_are, names}

-- the program of this name
abbrev pub named : List ℕ → ProgramValue
named name = record { name = name; stack = 0; accept = 0; body = elf_of load_elf }

-- the programs of names are equal but for them
programs_named : (names : List (List ℕ)) (count : ℕ) → length names ≡ count → programs_with (map load_entry names) (replicate count load_elf) ≡ map named names
programs_named [] count is = refl
programs_named (name ∷ names) zero is = absurd (omega (arith, is))
programs_named (name ∷ names) (suc count) is = ap (λ (others : List ProgramValue). named name ∷ others) (programs_named names count (omega (arith, is)))

-- each has a body, which has no fault
bodies_are : (names : List (List ℕ)) (count : ℕ) → length names ≡ count → length load_elf < 2 ^ 32 → AreBodies (map load_entry names) (replicate count load_elf)
bodies_are [] zero is short = tt
bodies_are [] (suc count) is short = absurd (omega (arith, is))
bodies_are (name ∷ names) zero is short = absurd (omega (arith, is))
bodies_are (name ∷ names) (suc count) is short = (no_fault, short, bodies_are names count (omega (arith, is)) short)

-- a name is one, of eight bytes
abbrev pub is_load_name : List ℕ → Bool
is_load_name name = is_name name && (length name == 8)

few_mappings : (name : List ℕ) → guaranteed_mappings (named name) ≤ 3
few_mappings name = omega (arith, pages_at_most)

fits : (name : List ℕ) → is_load_name name ≡ true → IsFitting (named name)
fits name is =
    let tests = and_parts (is_name name) (length name == 8) is in
    record {
      name = tests.0;
      name_length = eqb-true (length name) 8 tests.1;
      stack = omega arith;
      accept = omega arith;
      body = accepted load_elf no_fault;
      mappings = omega (arith, few_mappings name);
    }

all_fit : (names : List (List ℕ)) → list_all is_load_name names ≡ true → AllByRecursion IsFitting (map named names)
all_fit [] are = tt
all_fit (name ∷ names) are =
    let tests = and_parts (is_load_name name) (list_all is_load_name names) are in
    (fits name tests.0, all_fit names tests.1)

-- they need three pages each, at most
room : (names : List (List ℕ)) → sum_by guaranteed_mappings (map named names) ≤ 3 * length names
room [] = omega arith
room (name ∷ names) = omega (arith, sum_by-cons guaranteed_mappings (named name) (map named names), few_mappings name, room names)

-- each slot's owner is one of sixteen
owners_below : (first count : ℕ) → AllByRecursion (IsOwnerBelow 16) (map (λ slot. Some (slot % 16)) (range_with_len first count))
owners_below first zero = tt
owners_below first (suc count) = (omega arith, owners_below (first + 1) count)

names_pass : list_all is_load_name names ≡ true
unfolding dec_text digits is_name
names_pass = refl

elf_size : length load_elf ≡ 216
unfolding load_elf
elf_size = refl

programs_are : programs_with load_entries load_bodies ≡ map named names
programs_are = ap (λ (entries : List Entry). programs_with entries load_bodies) entries_are ∙ programs_named names 16 refl

within_limits : (seed : ℕ) → IsAccepted (image_with (load_plan seed) load_bodies)
within_limits seed =
    let count : length (programs_with load_entries load_bodies) ≡ 16 = ap length programs_are in
    let needed : sum_by guaranteed_mappings (programs_with load_entries load_bodies) ≤ 48
    = subst (λ (ps : List ProgramValue). sum_by guaranteed_mappings ps ≤ 48) (sym programs_are) (room names) in
    record {
      pages_least = omega arith;
      pages_most = omega arith;
      quantum_least = omega arith;
      quantum_most = omega arith;
      slots_least = omega arith;
      slots_most = omega arith;
      owners = subst (λ (n : ℕ). AllByRecursion (IsOwnerBelow n) load_slots) (sym count) (owners_below 0 64);
      programs_least = omega (arith, count);
      programs_most = omega (arith, count);
      programs = subst (AllByRecursion IsFitting) (sym programs_are) (all_fit names names_pass);
      room = omega (arith, needed);
    }

read : (seed : ℕ) → (image_fault (load_image_text seed) ≡ None) × (image_of (load_image_text seed) ≡ load_image_value seed)
unfolding load_image_text load_image_value
read seed =
    read_again (load_plan seed) load_bodies
    (subst (λ (entries : List Entry). AreBodies entries load_bodies) (sym entries_are) (bodies_are names 16 refl (omega (arith, elf_size))))
    (within_limits seed)

pub sound : (seed : ℕ) → image_fault (load_image_text seed) ≡ None
sound seed = (read seed).0

pub meant : (seed : ℕ) → image_of (load_image_text seed) ≡ load_image_value seed
meant seed = (read seed).1

-- sixteen times 28 bytes and 216 behind 80
pub text_size : (seed : ℕ) → length (load_image_text seed) ≡ 3984
unfolding load_image_text load_entries load_elf dec_text digits
text_size seed = refl
