-- Filters that agree overlap, and no others.
use Rattle.std.proofs.Common.{◌≡◌, ℕ, ◌<◌, Bool, true, List, [], ◌∷◌, length, slice_index, refl, sym, ap, ◌∙◌, arith, inl, inr}
use Rattle.std.proofs.lemmas.Bool.{and_from, and_parts, cases_lt, le-leb}
use Rattle.std.proofs.lemmas.Nat.{and_assoc, and_comm, or_of_8}
use Rattle.std.proofs.lemmas.List.{get_or_past}
use Rattle.std.proofs.lemmas.List.FromFn.{length-map-range_with_len, get_or-map-range_with_len}
use Rattle.std.specs.Int.Bits.{and_self}
use Rattle.std.specs.List.{AllByRecursion, list_all, range_with_len}
use Rattle.std.specs.Prelude.{◌↔◌, IsTrue, bit_and, bit_or, map}
use Rattle.external_event.specs.Limits.{most_packet_size}
use Rattle.filter_core.specs.declared.atom.Atom.{Atom}
use Rattle.filter_core.specs.Asking.{mask_at, value_at, atoms_agree, agree, asked}
use Rattle.filter_core.specs.Filters.{are_atoms, is_atom, is_filter}
use Rattle.filter_core.specs.Matching.{atom_matches, matches, IsPacket, IsCommon, Overlap}
use Rattle.filter_core.proofs.Asks.{IsGood, good, value_within, FindsAll, matched, matches_found, AgreeAll, agree_everywhere, atoms_that_agree, agree_if_found, outside_packets, byte_small}
use Rattle.filter_core.proofs.Bits.{and_of_or, and_with_or, swap_last, within_left, within_right, zero_right}
use Rattle.filter_core.proofs.Lists.{all_of, list_all_of, all_map, all_zip, all_at_each, all_swap}

-- the atoms of a filter may stand in one, and agree
pub good_atoms : (f : List Atom) → is_filter f ≡ true → AllByRecursion IsGood f
good_atoms f is = all_of is_atom IsGood good f (and_parts _ _ (and_parts (are_atoms f) (agree f f) is).0).1

abbrev pub AgreeWith : List Atom → Atom → Type 0
AgreeWith g a = AllByRecursion (λ b. AgreeAll a b) g

abbrev pub AllAgree : List Atom → List Atom → Type 0
AllAgree f g = AllByRecursion (λ a. AgreeWith g a) f

pub all_agree : (f g : List Atom) → agree f g ≡ true → AllAgree f g
unfolding agree
all_agree f g are =
    all_of (λ a. list_all (λ b. atoms_agree a b) g) (AgreeWith g)
    (λ a with_all. all_of (λ b. atoms_agree a b) (λ b. AgreeAll a b) (λ b is. agree_everywhere a b is) g with_all) f are

pub agree_all : (f g : List Atom) → AllAgree f g → agree f g ≡ true
unfolding agree
agree_all f g all =
    list_all_of (λ a. list_all (λ b. atoms_agree a b) g) (AgreeWith g)
    (λ a with_all. list_all_of (λ b. atoms_agree a b) (λ b. AgreeAll a b) (λ b is. atoms_that_agree a b is) g with_all) f all

pub agree_itself : (f : List Atom) → is_filter f ≡ true → AllAgree f f
agree_itself f is = all_agree f f (and_parts (are_atoms f) (agree f f) is).1

pub agree_back : (f g : List Atom) → AllAgree f g → AllAgree g f
agree_back f g all =
    all_map (λ b. AllByRecursion (λ a. AgreeAll a b) f) (AgreeWith f)
    (λ b each. all_map (λ a. AgreeAll a b) (λ a. AgreeAll b a) (λ a is p. sym (is p)) f each) g
    (all_swap (λ a b. AgreeAll a b) f g all)

-- what all atoms of a filter ask, within what one asks
abbrev pub HeldAll : List Atom → Atom → Type 0
HeldAll f a = (p : ℕ) → bit_and (asked (value_at p) f) (mask_at p a) ≡ bit_and (value_at p a) (asked (mask_at p) f)

pub held_by : (f : List Atom) (a : Atom) → AgreeWith f a → HeldAll f a
held_by [] a all p = sym (zero_right (value_at p a))
held_by (b ∷ f) a all p =
    and_of_or (value_at p b) (asked (value_at p) f) (mask_at p a)
    ∙ ap (λ (x : ℕ). bit_or x (bit_and (asked (value_at p) f) (mask_at p a))) (sym (all.0 p))
    ∙ ap (λ (x : ℕ). bit_or (bit_and (value_at p a) (mask_at p b)) x) (held_by f a all.1 p)
    ∙ sym (and_with_or (value_at p a) (mask_at p b) (asked (mask_at p) f))

-- what each asks is within what all ask
within_all : (part whole : Atom → ℕ) (f : List Atom) → AllByRecursion (λ a. bit_and (part a) (whole a) ≡ part a) f → AllByRecursion (λ a. bit_and (part a) (asked whole f) ≡ part a) f
within_all part whole [] each = tt
within_all part whole (a ∷ f) each = (
  within_left (part a) (whole a) (asked whole f) each.0,
  all_map (λ x. bit_and (part x) (asked whole f) ≡ part x) (λ x. bit_and (part x) (asked whole (a ∷ f)) ≡ part x)
      (λ x is. within_right (part x) (whole a) (asked whole f) is) f (within_all part whole f each.1),
)

pub values_within : (f : List Atom) → AllByRecursion IsGood f → (p : ℕ) → AllByRecursion (λ a. bit_and (value_at p a) (asked (mask_at p) f) ≡ value_at p a) f
values_within f are p =
    within_all (value_at p) (mask_at p) f
    (all_map IsGood (λ a. bit_and (value_at p a) (mask_at p a) ≡ value_at p a) (λ a is. value_within a is p) f are)

-- a packet that has what two filters ask, and nothing else
pub record HasAsked (f g : List Atom) (packet : List ℕ) : Type 0 where
  pub is : IsPacket packet
  pub long : length packet ≡ most_packet_size
  pub entry : (p : ℕ) → p < most_packet_size → slice_index packet p ≡ bit_or (asked (value_at p) f) (asked (value_at p) g)

-- an atom finds in it what it asks, if it agrees with both and its value is within what either asks
finds_asked : (f g : List Atom) (packet : List ℕ) (a : Atom) → HasAsked f g packet → IsGood a → AgreeWith f a → AgreeWith g a
    → (p : ℕ) → bit_and (value_at p a) (bit_or (asked (mask_at p) f) (asked (mask_at p) g)) ≡ value_at p a
    → bit_and (slice_index packet p) (mask_at p a) ≡ value_at p a
finds_asked f g packet a has is with_f with_g p within =
    elim (cases_lt p most_packet_size) [
      | inl inside ↦
          ap (λ (x : ℕ). bit_and x (mask_at p a)) (has.entry p inside)
          ∙ and_of_or (asked (value_at p) f) (asked (value_at p) g) (mask_at p a)
          ∙ ap (λ (x : ℕ). bit_or x (bit_and (asked (value_at p) g) (mask_at p a))) (held_by f a with_f p)
          ∙ ap (λ (x : ℕ). bit_or (bit_and (value_at p a) (asked (mask_at p) f)) x) (held_by g a with_g p)
          ∙ sym (and_with_or (value_at p a) (asked (mask_at p) f) (asked (mask_at p) g))
          ∙ within
      | inr past ↦ outside_packets a is p past (slice_index packet p)
    ]

-- what makes an atom find in such a packet what it asks
abbrev pub IsReady : List Atom → List Atom → Atom → Type 0
IsReady f g a =
    IsGood a × AgreeWith f a × AgreeWith g a
    × ((p : ℕ) → bit_and (value_at p a) (bit_or (asked (mask_at p) f) (asked (mask_at p) g)) ≡ value_at p a)

abbrev pub IsWithin : List Atom → List Atom → Atom → Type 0
IsWithin f g a = (p : ℕ) → bit_and (value_at p a) (bit_or (asked (mask_at p) f) (asked (mask_at p) g)) ≡ value_at p a

within_left_one : (f g : List Atom) → AllByRecursion IsGood f → AllByRecursion (IsWithin f g) f
within_left_one f g are =
    all_at_each (λ p a. bit_and (value_at p a) (bit_or (asked (mask_at p) f) (asked (mask_at p) g)) ≡ value_at p a) f
    (λ p. all_map (λ a. bit_and (value_at p a) (asked (mask_at p) f) ≡ value_at p a) _
    (λ a is. within_left (value_at p a) (asked (mask_at p) f) (asked (mask_at p) g) is) f (values_within f are p))

within_right_one : (f g : List Atom) → AllByRecursion IsGood g → AllByRecursion (IsWithin f g) g
within_right_one f g are =
    all_at_each (λ p a. bit_and (value_at p a) (bit_or (asked (mask_at p) f) (asked (mask_at p) g)) ≡ value_at p a) g
    (λ p. all_map (λ a. bit_and (value_at p a) (asked (mask_at p) g) ≡ value_at p a) _
    (λ a is. within_right (value_at p a) (asked (mask_at p) f) (asked (mask_at p) g) is) g (values_within g are p))

ready : (f g h : List Atom) → AllByRecursion IsGood h → AllAgree h f → AllAgree h g → AllByRecursion (IsWithin f g) h → AllByRecursion (IsReady f g) h
ready f g h are with_f with_g within =
    all_zip (λ a. IsGood a × AgreeWith f a) (λ a. AgreeWith g a × IsWithin f g a) (IsReady f g) (λ a x y. (x.0, x.1, y.0, y.1)) h
    (all_zip IsGood (AgreeWith f) (λ a. IsGood a × AgreeWith f a) (λ a x y. (x, y)) h are with_f)
    (all_zip (AgreeWith g) (IsWithin f g) (λ a. AgreeWith g a × IsWithin f g a) (λ a x y. (x, y)) h with_g within)

-- atoms that are ready match it
ready_match : (f g h : List Atom) (packet : List ℕ) → HasAsked f g packet → AllByRecursion (IsReady f g) h → matches h packet ≡ true
ready_match f g h packet has are =
    list_all_of (λ a. atom_matches a packet) (IsReady f g)
    (λ a is. matches_found a packet is.0 has.is.bytes (omega (arith, is.0.within, has.long))
    (λ p. finds_asked f g packet a has is.0 is.1 is.2 p (is.3 p))) h are

-- what filters that agree ask, and nothing else, is matched by both
pub common : (f g : List Atom) (packet : List ℕ) → is_filter f ≡ true → is_filter g ≡ true → agree f g ≡ true → HasAsked f g packet → IsCommon f g packet
common f g packet left right are has =
    let f_good = good_atoms f left in
    let g_good = good_atoms g right in
    let across = all_agree f g are in
    record {
      is = has.is;
      left = ready_match f g f packet has (ready f g f f_good (agree_itself f left) across (within_left_one f g f_good));
      right = ready_match f g g packet has (ready f g g g_good (agree_back f g across) (agree_itself g right) (within_right_one f g g_good));
    }

-- filters that overlap agree
pub agree_if_common : (f g : List Atom) (packet : List ℕ) → IsCommon f g packet → agree f g ≡ true
agree_if_common f g packet is =
    let find_f = all_of (λ a. atom_matches a packet) (λ a. FindsAll a packet) (λ a m. matched a packet is.is.bytes m) f is.left in
    let find_g = all_of (λ a. atom_matches a packet) (λ a. FindsAll a packet) (λ a m. matched a packet is.is.bytes m) g is.right in
    agree_all f g
    (all_map (λ a. FindsAll a packet) (AgreeWith g)
    (λ a finds. all_map (λ b. FindsAll b packet) (λ b. AgreeAll a b) (λ b other. agree_if_found a b packet finds other) g find_g) f find_f)

-- the bytes that are asked
asked_small : (p : ℕ) (f : List Atom) → asked (value_at p) f < 256
asked_small p [] = omega arith
asked_small p (a ∷ f) = or_of_8 (value_at p a) (asked (value_at p) f) (byte_small a a.value p) (asked_small p f)

pub has_asked : (f g : List Atom) (packet : List ℕ) → length packet ≡ most_packet_size
    → ((p : ℕ) → p < most_packet_size → slice_index packet p ≡ bit_or (asked (value_at p) f) (asked (value_at p) g)) → HasAsked f g packet
has_asked f g packet long entry =
    record {
      is = record {
        size = and_from _ _ (le-leb 1 (length packet) (omega (arith, long))) (le-leb (length packet) most_packet_size (omega (arith, long)));
        bytes = λ i. elim (cases_lt i most_packet_size) [
          | inl below ↦ let e = entry i below in omega (arith, e, or_of_8 (asked (value_at i) f) (asked (value_at i) g) (asked_small i f) (asked_small i g))
          | inr past ↦ let e : slice_index packet i ≡ 0 = get_or_past packet i 0 (omega (arith, long)) in omega (arith, e)
        ];
      };
      long = long;
      entry = entry;
    }

-- there is a packet that has them
written : (n : ℕ) → n ≡ most_packet_size → (f g : List Atom) → (packet : List ℕ) × HasAsked f g packet
written n size f g =
    let entry_of : ℕ → ℕ = λ p. bit_or (asked (value_at p) f) (asked (value_at p) g) in
    let packet = map entry_of (range_with_len 0 n) in (
      packet,
      has_asked f g packet (length-map-range_with_len entry_of 0 n ∙ size)
          (λ p below. get_or-map-range_with_len entry_of 0 n p p 0 (omega (arith, size)) (omega arith)),
    )

pub overlap_if_agree : (f g : List Atom) → is_filter f ≡ true → is_filter g ≡ true → agree f g ≡ true → Overlap f g
overlap_if_agree f g left right are =
    let some = written most_packet_size refl f g in
    (some.0, common f g some.0 left right are some.1)

pub agree_if_overlap : (f g : List Atom) → Overlap f g → agree f g ≡ true
agree_if_overlap f g some = agree_if_common f g some.0 some.1

pub exact : (f g : List Atom) → is_filter f ≡ true → is_filter g ≡ true → (agree f g ≡ true) ↔ Overlap f g
exact f g left right = (overlap_if_agree f g left right, agree_if_overlap f g)

-- atoms that are held against the tables of a filter agree with its atoms
is_held_value : (f : List Atom) → AllByRecursion IsGood f → AllByRecursion (HeldAll f) f → (p : ℕ) → AllByRecursion (λ a. bit_and (asked (value_at p) f) (mask_at p a) ≡ value_at p a) f
is_held_value f are held p =
    all_zip (HeldAll f) (λ a. bit_and (value_at p a) (asked (mask_at p) f) ≡ value_at p a) _
    (λ a is within. is p ∙ within) f held (values_within f are p)

masks_within : (f : List Atom) → (p : ℕ) → AllByRecursion (λ a. bit_and (mask_at p a) (asked (mask_at p) f) ≡ mask_at p a) f
masks_within f p = within_all (mask_at p) (mask_at p) f (all_same f)
  where
    all_same : (h : List Atom) → AllByRecursion (λ a. bit_and (mask_at p a) (mask_at p a) ≡ mask_at p a) h
    all_same [] = tt
    all_same (a ∷ h) = (and_self (mask_at p a), all_same h)

one_agrees : (big_v big_m v_a m_a v_b m_b : ℕ) → bit_and big_v m_a ≡ v_a → bit_and m_a big_m ≡ m_a → bit_and big_v m_b ≡ bit_and v_b big_m → bit_and v_a m_b ≡ bit_and v_b m_a
one_agrees big_v big_m v_a m_a v_b m_b value mask held =
    ap (λ (x : ℕ). bit_and x m_b) (sym value) ∙ swap_last big_v m_a m_b ∙ ap (λ (x : ℕ). bit_and x m_a) held
    ∙ and_assoc m_a v_b big_m ∙ ap (bit_and v_b) (and_comm big_m m_a ∙ mask)

pub agree_if_held : (f g : List Atom) → AllByRecursion IsGood f → AllByRecursion (HeldAll f) f → AllByRecursion (HeldAll f) g → AllAgree f g
agree_if_held f g are own others =
    let values = all_at_each (λ p a. bit_and (asked (value_at p) f) (mask_at p a) ≡ value_at p a) f (is_held_value f are own) in
    let masks = all_at_each (λ p a. bit_and (mask_at p a) (asked (mask_at p) f) ≡ mask_at p a) f (masks_within f) in
    all_zip (λ a. (p : ℕ) → bit_and (asked (value_at p) f) (mask_at p a) ≡ value_at p a) (λ a. (p : ℕ) → bit_and (mask_at p a) (asked (mask_at p) f) ≡ mask_at p a) (AgreeWith g)
    (λ a value mask. all_map (HeldAll f) (λ b. AgreeAll a b)
    (λ b held p. one_agrees (asked (value_at p) f) (asked (mask_at p) f) (value_at p a) (mask_at p a) (value_at p b) (mask_at p b) (value p) (mask p) (held p)) g others) f values masks

-- an answer that two filters agree tells exactly whether they overlap
pub tells : (answer : Bool) (f g : List Atom) → is_filter f ≡ true → is_filter g ≡ true → answer ≡ agree f g → IsTrue answer ↔ Overlap f g
tells answer f g left right is = ((λ yes. overlap_if_agree f g left right (sym is ∙ yes)), (λ some. is ∙ agree_if_overlap f g some))
