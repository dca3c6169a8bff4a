-- What is held against the tables of a filter agrees with it.
use Rattle.std.proofs.Common.{◌≡◌, ℕ, zero, suc, ◌+◌, ◌<◌, Bool, true, false, List, refl, sym, arith, inl, inr}
use Rattle.std.proofs.lemmas.Bool.{and_from, and_parts, cases_eq, eq-eqb, eqb-true}
use Rattle.std.specs.List.{AllByRecursion, list_all}
use Rattle.std.specs.Prelude.{bit_and}
use Rattle.external_event.specs.Limits.{most_packet_size}
use Rattle.filter_core.specs.declared.atom.Atom.{Atom}
use Rattle.filter_core.specs.Asking.{mask_at, value_at, agree, asked}
use Rattle.filter_core.specs.Filters.{is_atom, is_filter}
use Rattle.filter_core.specs.Holding.{IsTable, is_held_at, is_held_on_first, is_held, are_held}
use Rattle.filter_core.proofs.Asks.{IsGood, good, InField, in_field}
use Rattle.filter_core.proofs.Asks.InField.{In, Out}
use Rattle.filter_core.proofs.Bits.{zero_right}
use Rattle.filter_core.proofs.Lists.{all_of, all_map, all_zip, list_all_of}
use Rattle.filter_core.proofs.Overlapping.{AgreeWith, HeldAll, all_agree, agree_all, agree_back, agree_if_held, agree_itself, good_atoms, held_by}

first_held : (n : ℕ) (masks values : List ℕ) (a : Atom) → is_held_on_first n masks values a ≡ true → (i : ℕ) → i < n → is_held_at masks values (a.offset + i) a ≡ true
first_held zero masks values a held i below = absurd (omega arith)
first_held (suc n) masks values a held i below =
    let parts = and_parts (is_held_on_first n masks values a) (is_held_at masks values (a.offset + n) a) held in
    elim (cases_eq i n) [
      | inl last ↦ rw last parts.1
      | inr other ↦ first_held n masks values a parts.0 i (omega (arith, other))
    ]

held_first : (n : ℕ) (masks values : List ℕ) (a : Atom) → ((i : ℕ) → i < n → is_held_at masks values (a.offset + i) a ≡ true) → is_held_on_first n masks values a ≡ true
held_first zero masks values a each = refl
held_first (suc n) masks values a each = and_from _ _ (held_first n masks values a (λ i below. each i (omega arith))) (each n (omega arith))

-- an atom is held against the tables of a list exactly if it is against the list
all_held : (f : List Atom) (masks values : List ℕ) (a : Atom) → IsTable mask_at f masks → IsTable value_at f values → IsGood a → is_held masks values a ≡ true → HeldAll f a
all_held f masks values a in_masks in_values is held p = by_place (in_field a p)
  where
    by_place : InField a p → bit_and (asked (value_at p) f) (mask_at p a) ≡ bit_and (value_at p a) (asked (mask_at p) f)
    by_place (In i below place) =
        let inside : p < most_packet_size = omega (arith, is.within) in
        let same = eqb-true _ _ (first_held a.width masks values a held i below) in
        rw (← in_values.entry p inside, ← in_masks.entry p inside, place) same
    by_place (Out out) = rw out (zero_right (asked (value_at p) f))

held_all : (f : List Atom) (masks values : List ℕ) (a : Atom) → IsTable mask_at f masks → IsTable value_at f values → IsGood a → HeldAll f a → is_held masks values a ≡ true
held_all f masks values a in_masks in_values is held =
    held_first a.width masks values a (λ i below.
    let inside : a.offset + i < most_packet_size = omega (arith, is.within) in
    eq-eqb _ _ (rw (in_values.entry (a.offset + i) inside, in_masks.entry (a.offset + i) inside) (held (a.offset + i))))

same_bool : (x y : Bool) → (x ≡ true → y ≡ true) → (y ≡ true → x ≡ true) → x ≡ y
same_bool true y there back = sym (there refl)
same_bool false true there back = back refl
same_bool false false there back = refl

-- all of a list are
all_are_held : (f g : List Atom) (masks values : List ℕ) → IsTable mask_at f masks → IsTable value_at f values → AllByRecursion IsGood g → are_held masks values g ≡ true → AllByRecursion (HeldAll f) g
all_are_held f g masks values in_masks in_values are held =
    all_zip IsGood (λ a. is_held masks values a ≡ true) (HeldAll f) (λ a is one. all_held f masks values a in_masks in_values is one) g are
    (all_of (λ a. is_held masks values a) (λ a. is_held masks values a ≡ true) (λ a one. one) g held)

held_all_are : (f g : List Atom) (masks values : List ℕ) → IsTable mask_at f masks → IsTable value_at f values → AllByRecursion IsGood g → AllByRecursion (HeldAll f) g → are_held masks values g ≡ true
held_all_are f g masks values in_masks in_values are held =
    list_all_of (λ a. is_held masks values a) (λ a. is_held masks values a ≡ true) (λ a one. one) g
    (all_zip IsGood (HeldAll f) (λ a. is_held masks values a ≡ true) (λ a is all. held_all f masks values a in_masks in_values is all) g are held)

-- against the tables of a filter
pub held_is_agree : (f g : List Atom) (masks values : List ℕ) → is_filter f ≡ true → is_filter g ≡ true → IsTable mask_at f masks → IsTable value_at f values → are_held masks values g ≡ agree f g
held_is_agree f g masks values left right in_masks in_values =
    let f_good = good_atoms f left in
    let g_good = good_atoms g right in
    let own = all_map (AgreeWith f) (HeldAll f) (λ a. held_by f a) f (agree_itself f left) in
    same_bool (are_held masks values g) (agree f g)
    (λ held. agree_all f g (agree_if_held f g f_good own (all_are_held f g masks values in_masks in_values g_good held)))
    (λ are. held_all_are f g masks values in_masks in_values g_good (all_map (AgreeWith f) (HeldAll f) (λ b. held_by f b) g (agree_back f g (all_agree f g are))))

-- against its own tables, of atoms that may stand in a filter
pub own_is_agree : (f : List Atom) (masks values : List ℕ) → list_all is_atom f ≡ true → IsTable mask_at f masks → IsTable value_at f values → are_held masks values f ≡ agree f f
own_is_agree f masks values is in_masks in_values =
    let f_good = all_of is_atom IsGood good f is in
    same_bool (are_held masks values f) (agree f f)
    (λ held. let own = all_are_held f f masks values in_masks in_values f_good held in agree_all f f (agree_if_held f f f_good own own))
    (λ are. held_all_are f f masks values in_masks in_values f_good (all_map (AgreeWith f) (HeldAll f) (λ b. held_by f b) f (all_agree f f are)))
