-- What atoms ask of each byte, and which packets they match.
use Rattle.std.proofs.Common.{◌≡◌, ℕ, zero, suc, ◌+◌, ◌-◌, ◌^◌, ◌<◌, ◌≤◌, true, false, leb, List, length, drop, slice_index, refl, sym, ap, ◌∙◌, arith, inl, inr, subst}
use Rattle.std.proofs.lemmas.Grind.{common_steps}
use Rattle.std.proofs.lemmas.Bool.{and_from, and_parts, both_ways, or_cases, cases_lt, eq-eqb, eqb-true, le-leb, lt-leb, le-ltb, lt-ltb}
use Rattle.std.proofs.lemmas.List.{get_or-drop}
use Rattle.std.proofs.lemmas.Nat.{and_le_r}
use Rattle.std.specs.Int.{byte_at}
use Rattle.std.specs.Prelude.{◌==◌, ◌||◌, ◌⊎◌, bit_and}
use Rattle.external_event.specs.Limits.{most_packet_size}
use Rattle.filter_core.specs.declared.atom.Atom.{Atom}
use Rattle.filter_core.specs.Asking.{is_in_field, byte_for, mask_at, value_at, agree_at, agree_on_first, atoms_agree}
use Rattle.filter_core.specs.Filters.{is_width, is_atom}
use Rattle.filter_core.specs.Matching.{field, atom_matches}
use Rattle.filter_core.proofs.Bits.{swap_last, zero_right}
use Rattle.filter_core.proofs.Bytes.{byte_and, byte_of_big, same_from_bytes}

-- what is known of an atom that may stand in a filter
pub record IsGood (a : Atom) : Type 0 where
  pub some : 0 < a.width
  pub few : a.width ≤ 4
  pub within : a.offset + a.width ≤ most_packet_size
  pub fits : a.mask < 256 ^ a.width
  pub value : bit_and a.value a.mask ≡ a.value

-- the widths
pub one_two_four : (w : ℕ) → is_width w ≡ true → (w ≡ 1) ⊎ ((w ≡ 2) ⊎ (w ≡ 4))
one_two_four w is =
    elim (or_cases (w == 1 || w == 2) (w == 4) is) [
      | inl less ↦ elim (or_cases (w == 1) (w == 2) less) [
        | inl one ↦ inl (eqb-true w 1 one)
        | inr two ↦ inr (inl (eqb-true w 2 two))
      ]
      | inr four ↦ inr (inr (eqb-true w 4 four))
    ]

pub good : (a : Atom) → is_atom a ≡ true → IsGood a
good a is = record {
  some = grind (arith, common_steps);
  few = grind (arith, common_steps);
  within = grind (arith, common_steps);
  fits = grind (arith, common_steps);
  value = grind (arith, common_steps);
}

-- a place is in an atom's field, or outside
pub data InField (a : Atom) (p : ℕ) : Type 0 where
  In : (i : ℕ) → i < a.width → p ≡ a.offset + i → InField a p
  Out : is_in_field a p ≡ false → InField a p

pub in_field : (a : Atom) (p : ℕ) → InField a p
in_field a p =
    elim (cases_lt p a.offset) [
      | inl before ↦ Out (rw (lt-leb a.offset p before) refl)
      | inr behind ↦ elim (cases_lt p (a.offset + a.width)) [
        | inl within ↦ In (p - a.offset) (omega arith) (omega arith)
        | inr past ↦ Out (rw (le-leb a.offset p behind, le-ltb p (a.offset + a.width) past) refl)
      ]
    ]

is_in : (a : Atom) (i : ℕ) → i < a.width → is_in_field a (a.offset + i) ≡ true
is_in a i below = and_from _ _ (le-leb a.offset (a.offset + i) (omega arith)) (lt-ltb (a.offset + i) (a.offset + a.width) (omega arith))

-- the byte of an atom's mask or value at a place of its field
pub byte_inside : (a : Atom) (n i : ℕ) → i < a.width → byte_for a n (a.offset + i) ≡ byte_at (a.width - 1 - i) n
byte_inside a n i below =
    let place : a.offset + a.width - 1 - (a.offset + i) ≡ a.width - 1 - i = omega arith in
    rw (is_in a i below, place) refl

byte_outside : (a : Atom) (n p : ℕ) → is_in_field a p ≡ false → byte_for a n p ≡ 0
byte_outside a n p out = rw out refl

-- a value is within its mask at each byte
pub value_within : (a : Atom) → IsGood a → (p : ℕ) → bit_and (value_at p a) (mask_at p a) ≡ value_at p a
value_within a is p = by_place (in_field a p)
  where
    by_place : InField a p → bit_and (value_at p a) (mask_at p a) ≡ value_at p a
    by_place (In i below place) =
        rw (place, byte_inside a a.value i below, byte_inside a a.mask i below, ← byte_and (a.width - 1 - i) a.value a.mask, is.value) refl
    by_place (Out out) = rw out refl

-- at each byte of a packet an atom finds what it asks
abbrev pub FindsAll : Atom → List ℕ → Type 0
FindsAll a packet = (p : ℕ) → bit_and (slice_index packet p) (mask_at p a) ≡ value_at p a

-- the bytes of a field
small_behind : (packet : List ℕ) (offset : ℕ) → ((i : ℕ) → slice_index packet i < 256) → (i : ℕ) → slice_index (drop offset packet) i < 256
small_behind packet offset small i = rw (get_or-drop offset packet i 0) (small (offset + i))

field_byte : (a : Atom) (packet : List ℕ) → ((i : ℕ) → slice_index packet i < 256) → (i : ℕ) → i < a.width
    → byte_at (a.width - 1 - i) (field a.offset a.width packet) ≡ slice_index packet (a.offset + i)
field_byte a packet small i below =
    let place : 0 + (a.width - 1 - (a.width - 1 - i)) ≡ i = omega arith in
    byte_of_big 0 a.width (drop a.offset packet) (small_behind packet a.offset small) (a.width - 1 - i) (omega arith)
    ∙ ap (slice_index (drop a.offset packet)) place ∙ get_or-drop a.offset packet i 0

-- a packet that an atom matches
pub matched : (a : Atom) (packet : List ℕ) → ((i : ℕ) → slice_index packet i < 256) → atom_matches a packet ≡ true → FindsAll a packet
matched a packet small is p = by_place (in_field a p)
  where
    same : bit_and (field a.offset a.width packet) a.mask ≡ a.value
    same = eqb-true (bit_and (field a.offset a.width packet) a.mask) a.value (and_parts (leb (a.offset + a.width) (length packet)) (bit_and (field a.offset a.width packet) a.mask == a.value) is).1

    by_place : InField a p → bit_and (slice_index packet p) (mask_at p a) ≡ value_at p a
    by_place (In i below place) =
        rw (place, byte_inside a a.value i below, byte_inside a a.mask i below, ← field_byte a packet small i below, ← byte_and (a.width - 1 - i) (field a.offset a.width packet) a.mask, same) refl
    by_place (Out out) = rw out (zero_right (slice_index packet p))

pub matches_found : (a : Atom) (packet : List ℕ) → IsGood a → ((i : ℕ) → slice_index packet i < 256) → a.offset + a.width ≤ length packet → FindsAll a packet → atom_matches a packet ≡ true
matches_found a packet is small within finds =
    and_from _ _ (le-leb (a.offset + a.width) (length packet) within)
    (eq-eqb _ _ (same_from_bytes a.width (bit_and (field a.offset a.width packet) a.mask) a.value
    (omega (arith, is.fits, and_le_r (field a.offset a.width packet) a.mask))
    (omega (arith, is.fits, is.value, and_le_r a.value a.mask)) each))
  where
    each : (k : ℕ) → k < a.width → byte_at k (bit_and (field a.offset a.width packet) a.mask) ≡ byte_at k a.value
    each k below =
        let i : ℕ = a.width - 1 - k in
        let inside : i < a.width = omega arith in
        let back : a.width - 1 - i ≡ k = omega arith in
        let found = rw (byte_inside a a.value i inside, byte_inside a a.mask i inside, ← field_byte a packet small i inside, back) at (finds (a.offset + i)) in
        byte_and k (field a.offset a.width packet) a.mask ∙ found

-- atoms that agree on each byte
abbrev pub AgreeAll : Atom → Atom → Type 0
AgreeAll a b = (p : ℕ) → bit_and (value_at p a) (mask_at p b) ≡ bit_and (value_at p b) (mask_at p a)

agree_first : (n : ℕ) (a b : Atom) → agree_on_first n a b ≡ true → (i : ℕ) → i < n → agree_at (a.offset + i) a b ≡ true
agree_first zero a b are i below = absurd (omega arith)
agree_first (suc n) a b are i below = grind (arith, common_steps, (agree_first n a b))

first_agree : (n : ℕ) (a b : Atom) → AgreeAll a b → agree_on_first n a b ≡ true
first_agree zero a b all = refl
first_agree (suc n) a b all = and_from _ _ (first_agree n a b all) (eq-eqb _ _ (all (a.offset + n)))

pub agree_everywhere : (a b : Atom) → atoms_agree a b ≡ true → AgreeAll a b
agree_everywhere a b are p = by_place (in_field a p)
  where
    by_place : InField a p → bit_and (value_at p a) (mask_at p b) ≡ bit_and (value_at p b) (mask_at p a)
    by_place (In i below place) = rw place (eqb-true _ _ (agree_first a.width a b are i below))
    by_place (Out out) = rw out (sym (zero_right (value_at p b)))

pub atoms_that_agree : (a b : Atom) → AgreeAll a b → atoms_agree a b ≡ true
atoms_that_agree a b all = first_agree a.width a b all

-- what is matched by both agrees
pub agree_if_found : (a b : Atom) (packet : List ℕ) → FindsAll a packet → FindsAll b packet → AgreeAll a b
agree_if_found a b packet left right p =
    ap (λ (v : ℕ). bit_and v (mask_at p b)) (sym (left p))
    ∙ swap_last (slice_index packet p) (mask_at p a) (mask_at p b)
    ∙ ap (λ (v : ℕ). bit_and v (mask_at p a)) (right p)

-- no atom asks for a byte behind the longest packet
pub outside_packets : (a : Atom) → IsGood a → (p : ℕ) → most_packet_size ≤ p → (x : ℕ) → bit_and x (mask_at p a) ≡ value_at p a
outside_packets a is p past x = by_place (in_field a p)
  where
    by_place : InField a p → bit_and x (mask_at p a) ≡ value_at p a
    by_place (In i below place) = absurd (omega (arith, is.within))
    by_place (Out out) = rw out (zero_right x)

-- what an atom asks of a byte is a byte
pub byte_small : (a : Atom) (n p : ℕ) → byte_for a n p < 256
byte_small a n p = by_place (in_field a p)
  where
    small : (k : ℕ) → byte_at k n < 256
    small zero = omega arith
    small (suc k) = omega arith

    by_place : InField a p → byte_for a n p < 256
    by_place (In i below place) = rw (place, byte_inside a n i below) (small (a.width - 1 - i))
    by_place (Out out) = rw out (omega arith)

-- what holds of each byte of a number in an atom's field, and of 0 outside it, holds of what stands at each place
pub byte_elsewhere : (a : Atom) (n p : ℕ) (P : ℕ → Type 0) → ((j : ℕ) → j < a.width → p ≡ a.offset + j → P (byte_at (a.width - 1 - j) n))
    → (((j : ℕ) → j < a.width → p ≡ a.offset + j → ⊥) → P 0) → P (byte_for a n p)
byte_elsewhere a n p P inside outside = by_place (in_field a p)
  where
    by_place : InField a p → P (byte_for a n p)
    by_place (In i below place) =
        let e : byte_for a n p ≡ byte_at (a.width - 1 - i) n = ap (byte_for a n) place ∙ byte_inside a n i below in
        subst P (sym e) (inside i below place)
    by_place (Out out) =
        let e : byte_for a n p ≡ 0 = byte_outside a n p out in
        subst P (sym e) (outside (λ j below place. absurd (both_ways (is_in_field a p) out (ap (is_in_field a) place ∙ is_in a j below))))
