-- Atoms as they are read.
use Rattle.std.proofs.Common.{◌≡◌, ℕ, zero, suc, ◌+◌, ◌-◌, ◌*◌, ◌<◌, ◌/◌, ◌%◌, true, false, cond, ◌&&◌, List, [], ◌∷◌, ◌++◌, length, Some, None, refl, sym, ap, ◌∙◌, subst, arith, leb, inl, inr, append_assoc}
use Rattle.std.proofs.lemmas.Grind.{common_steps}
use Rattle.std.proofs.lemmas.Bool.{and_cases, and_from, and_left, and_parts, and_right, cases_Bool}
use Rattle.std.proofs.lemmas.List.Folds.{list_all-append}
use Rattle.std.specs.List.{list_all}
use Rattle.std.specs.Prelude.{◌==◌}
use Rattle.filter_core.specs.declared.atom.Atom.{Atom}
use Rattle.filter_core.specs.Filters.{are_atoms, atom_at, atoms_from, atoms_in, filter_of, is_atom, is_filter}
use Rattle.filter_core.specs.Asking.{agree}
use Rattle.filter_core.specs.Reading.{good_atom, good_atoms}

pub same_atom : (a b : Atom) → a.offset ≡ b.offset → a.width ≡ b.width → a.mask ≡ b.mask → a.value ≡ b.value → a ≡ b
same_atom a b offset width mask value = λ i. record { offset = offset i; width = width i; mask = mask i; value = value i }

pub good_some : (bytes : List ℕ) (place : ℕ) (a : Atom) → a ≡ atom_at bytes place → is_atom a ≡ true → Some a ≡ good_atom bytes place
good_some bytes place a same is = let P : Atom → Type 0 = λ b. Some a ≡ cond (is_atom b) (Some b) None in subst P same (rw is refl)

-- the next of the atoms that are left
pub next_atom : (bytes : List ℕ) (i n : ℕ) → i < n → atoms_from bytes (i * 12) (n - i) ≡ atom_at bytes (i * 12) ∷ atoms_from bytes ((i + 1) * 12) (n - (i + 1))
next_atom bytes i n below =
    let count : n - i ≡ suc (n - (i + 1)) = omega arith in
    let place : (i + 1) * 12 ≡ i * 12 + 12 = omega arith in
    rw (count, place) refl

pub length_atoms : (bytes : List ℕ) (place n : ℕ) → length (atoms_from bytes place n) ≡ n
length_atoms bytes place zero = refl
length_atoms bytes place (suc n) = ap suc (length_atoms bytes (place + 12) n)

-- bytes of no atom, or of too many
pub wrong_count : (bytes : List ℕ) → (leb 1 (length bytes / 12) && leb (length bytes / 12) 16) ≡ false → None ≡ good_atoms bytes
wrong_count bytes wrong =
    let count = length_atoms bytes 0 (length bytes / 12) in
    let none : are_atoms (atoms_in bytes) ≡ false =
    and_left (leb 1 (length (atoms_in bytes)) && leb (length (atoms_in bytes)) 16) (list_all is_atom (atoms_in bytes)) (rw count wrong) in
    rw (and_right (length bytes % 12 == 0) (are_atoms (atoms_in bytes)) none) refl

-- bytes of an atom that may not stand in a filter
bad_is : (bytes : List ℕ) (place : ℕ) → None ≡ good_atom bytes place → is_atom (atom_at bytes place) ≡ false
bad_is bytes place none = grind (arith, common_steps)

pub bad_atom : (bytes : List ℕ) (so_far : List Atom) (i n : ℕ) → i < n → so_far ++ atoms_from bytes (i * 12) (n - i) ≡ atoms_in bytes → None ≡ good_atom bytes (i * 12) → None ≡ good_atoms bytes
bad_atom bytes so_far i n below all none =
    let bad : list_all is_atom (atom_at bytes (i * 12) ∷ atoms_from bytes ((i + 1) * 12) (n - (i + 1))) ≡ false = and_left _ _ (bad_is bytes (i * 12) none) in
    let bad_rest : list_all is_atom (atoms_from bytes (i * 12) (n - i)) ≡ false = ap (list_all is_atom) (next_atom bytes i n below) ∙ bad in
    let bad_all : list_all is_atom (atoms_in bytes) ≡ false =
    ap (list_all is_atom) (sym all) ∙ list_all-append is_atom so_far (atoms_from bytes (i * 12) (n - i)) ∙ and_right (list_all is_atom so_far) _ bad_rest in
    let no_atoms : are_atoms (atoms_in bytes) ≡ false = and_right _ _ bad_all in
    rw (and_right (length bytes % 12 == 0) (are_atoms (atoms_in bytes)) no_atoms) refl

-- bytes of an atom that may
pub good_is : (bytes : List ℕ) (place : ℕ) (a : Atom) → Some a ≡ good_atom bytes place → (a ≡ atom_at bytes place) × (is_atom a ≡ true)
good_is bytes place a some = (grind (arith, common_steps), grind (arith, common_steps))

pub one_more : (bytes : List ℕ) (so_far : List Atom) (a : Atom) (i n : ℕ) → i < n → so_far ++ atoms_from bytes (i * 12) (n - i) ≡ atoms_in bytes → a ≡ atom_at bytes (i * 12)
    → (so_far ++ a ∷ []) ++ atoms_from bytes ((i + 1) * 12) (n - (i + 1)) ≡ atoms_in bytes
one_more bytes so_far a i n below all same =
    append_assoc so_far (a ∷ []) (atoms_from bytes ((i + 1) * 12) (n - (i + 1)))
    ∙ ap (λ (x : Atom). so_far ++ x ∷ atoms_from bytes ((i + 1) * 12) (n - (i + 1))) same
    ∙ ap (λ (rest : List Atom). so_far ++ rest) (sym (next_atom bytes i n below)) ∙ all

pub good_more : (so_far : List Atom) (a : Atom) → list_all is_atom so_far ≡ true → is_atom a ≡ true → list_all is_atom (so_far ++ a ∷ []) ≡ true
good_more so_far a good is = list_all-append is_atom so_far (a ∷ []) ∙ and_from (list_all is_atom so_far) (list_all is_atom (a ∷ [])) good (and_from (is_atom a) true is refl)

-- bytes of atoms, each of which may stand in a filter
pub good_atoms_are : (bytes : List ℕ) (atoms : List Atom) → Some atoms ≡ good_atoms bytes
    → (atoms ≡ atoms_in bytes) × ((length bytes % 12 == 0) ≡ true) × (are_atoms (atoms_in bytes) ≡ true)
good_atoms_are bytes atoms some =
    elim (cases_Bool (length bytes % 12 == 0 && are_atoms (atoms_in bytes))) [
      | inl is ↦
          let parts = and_parts (length bytes % 12 == 0) (are_atoms (atoms_in bytes)) is in
          (cc (rw is at some), parts.0, parts.1)
      | inr other ↦ absurd (cc (rw other at some))
    ]

-- they spell a filter exactly if they agree
pub filter_if_agree : (bytes : List ℕ) (atoms : List Atom) → Some atoms ≡ good_atoms bytes → agree atoms atoms ≡ true → (is_filter atoms ≡ true) × (Some atoms ≡ filter_of bytes)
unfolding filter_of
filter_if_agree bytes atoms some are =
    let is = good_atoms_are bytes atoms some in
    let agreed = rw is.0 at are in
    let whole : is_filter (atoms_in bytes) ≡ true = and_from (are_atoms (atoms_in bytes)) (agree (atoms_in bytes) (atoms_in bytes)) is.2 agreed in
    (rw is.0 whole, rw (is.0, is.1, whole) refl)

pub none_if_not : (bytes : List ℕ) (atoms : List Atom) → Some atoms ≡ good_atoms bytes → agree atoms atoms ≡ false → None ≡ filter_of bytes
unfolding filter_of
none_if_not bytes atoms some differ =
    let is = good_atoms_are bytes atoms some in
    let differed = rw is.0 at differ in
    rw (and_right (length bytes % 12 == 0) (is_filter (atoms_in bytes)) (and_right (are_atoms (atoms_in bytes)) (agree (atoms_in bytes) (atoms_in bytes)) differed)) refl

pub none_if_no_atoms : (bytes : List ℕ) → None ≡ good_atoms bytes → None ≡ filter_of bytes
unfolding filter_of
none_if_no_atoms bytes none =
    elim (cases_Bool (length bytes % 12 == 0 && are_atoms (atoms_in bytes))) [
      | inl is ↦ absurd (cc (rw is at none))
      | inr other ↦ elim (and_cases (length bytes % 12 == 0) (are_atoms (atoms_in bytes)) other) [
        | inl odd ↦ rw (and_left (length bytes % 12 == 0) (is_filter (atoms_in bytes)) odd) refl
        | inr bad ↦ rw (and_right (length bytes % 12 == 0) (is_filter (atoms_in bytes)) (and_left (are_atoms (atoms_in bytes)) (agree (atoms_in bytes) (atoms_in bytes)) bad)) refl
      ]
    ]
