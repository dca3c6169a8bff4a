-- Atoms in tables, and held against them.
use Rattle.std.proofs.Common.{◌≡◌, ◌≢◌, ℕ, ◌+◌, ◌-◌, ◌<◌, ◌≤◌, true, List, length, slice_index, get_or, set, drop, sym, ap, ◌∙◌, arith, add-one, inl, inr, get_or-set_same, get_or-set_other, replicate}
use Rattle.std.proofs.lemmas.Grind.{common_steps}
use Rattle.std.proofs.lemmas.Bool.{and_from, cases_eq, eq-eqb}
use Rattle.std.proofs.lemmas.List.{at_drop_more, drop_all}
use Rattle.std.specs.Int.{byte_at}
use Rattle.std.specs.Prelude.{bit_and, bit_or}
use Rattle.filter_core.specs.declared.atom.Atom.{Atom}
use Rattle.filter_core.specs.Asking.{asked, byte_for}
use Rattle.filter_core.specs.Holding.{is_held_on_first}
use Rattle.filter_core.proofs.Asks.{byte_inside, byte_elsewhere}
use Rattle.filter_core.proofs.Bits.{or_assoc, or_zero, zero_or}

-- one more byte that agrees
pub held_more : (masks values : List ℕ) (a : Atom) (i offset width mask value : ℕ) → offset ≡ a.offset → width ≡ a.width → i < width
    → mask ≡ byte_at (width - 1 - i) a.mask → value ≡ byte_at (width - 1 - i) a.value
    → bit_and (slice_index values (offset + i)) mask ≡ bit_and value (slice_index masks (offset + i))
    → is_held_on_first i masks values a ≡ true → is_held_on_first (i + 1) masks values a ≡ true
held_more masks values a i offset width mask value at_offset of_width below is_mask is_value same so_far =
    let inside : i < a.width = omega arith in
    let found = rw (is_mask, is_value, at_offset, of_width, ← byte_inside a a.mask i inside, ← byte_inside a a.value i inside) at same in
    rw add-one (and_from (is_held_on_first i masks values a) _ so_far (eq-eqb _ _ found))

-- a table with one more byte of a number
pub added_inside : (old table : List ℕ) (a : Atom) (number i byte : ℕ) → i < a.width → a.offset + i < length table → byte ≡ byte_at (a.width - 1 - i) number
    → ((j : ℕ) → j < i → slice_index table (a.offset + j) ≡ bit_or (slice_index old (a.offset + j)) (byte_for a number (a.offset + j)))
    → ((p : ℕ) → ((j : ℕ) → j < i → p ≢ a.offset + j) → slice_index table p ≡ slice_index old p)
    → (j : ℕ) → j < i + 1 → slice_index (set table (a.offset + i) (bit_or (get_or table (a.offset + i) 0) byte)) (a.offset + j) ≡ bit_or (slice_index old (a.offset + j)) (byte_for a number (a.offset + j))
added_inside old table a number i byte below within is inside outside j upto =
    elim (cases_eq j i) [
      | inl last ↦
          let stays : slice_index table (a.offset + i) ≡ slice_index old (a.offset + i) = outside (a.offset + i) (λ k lower same. absurd (omega arith)) in
          rw last (get_or-set_same table (a.offset + i) (bit_or (get_or table (a.offset + i) 0) byte) 0 within
          ∙ ap (λ (x : ℕ). bit_or x byte) stays
          ∙ ap (bit_or (slice_index old (a.offset + i))) (is ∙ sym (byte_inside a number i below)))
      | inr other ↦
          let apart : a.offset + j ≢ a.offset + i = λ same. other (omega arith) in
          get_or-set_other table (a.offset + i) (a.offset + j) (bit_or (get_or table (a.offset + i) 0) byte) 0 apart ∙ inside j (omega (arith, other))
    ]

pub added_outside : (old table : List ℕ) (a : Atom) (i byte : ℕ)
    → ((p : ℕ) → ((j : ℕ) → j < i → p ≢ a.offset + j) → slice_index table p ≡ slice_index old p)
    → (p : ℕ) → ((j : ℕ) → j < i + 1 → p ≢ a.offset + j) → slice_index (set table (a.offset + i) (bit_or (get_or table (a.offset + i) 0) byte)) p ≡ slice_index old p
added_outside old table a i byte outside p apart =
    get_or-set_other table (a.offset + i) p (bit_or (get_or table (a.offset + i) 0) byte) 0 (apart i (omega arith))
    ∙ outside p (λ j below. apart j (omega arith))

-- once each byte of the field is added
pub added_all : (old table : List ℕ) (a : Atom) (number i : ℕ) → i ≡ a.width
    → ((j : ℕ) → j < i → slice_index table (a.offset + j) ≡ bit_or (slice_index old (a.offset + j)) (byte_for a number (a.offset + j)))
    → ((p : ℕ) → ((j : ℕ) → j < i → p ≢ a.offset + j) → slice_index table p ≡ slice_index old p)
    → (p : ℕ) → slice_index table p ≡ bit_or (slice_index old p) (byte_for a number p)
added_all old table a number i all inside outside p =
    byte_elsewhere a number p (λ b. slice_index table p ≡ bit_or (slice_index old p) b)
    (λ j below place. rw (place, ← byte_inside a number j below) (inside j (omega arith)))
    (λ apart. outside p (λ j below. apart j (omega arith)) ∙ sym (or_zero (slice_index old p)))

-- the next of the atoms that are left, once it is added to an entry
pub entry_more : (part : Atom → ℕ) (atoms : List Atom) (i : ℕ) (d : Atom) (old new whole : ℕ) → i < length atoms
    → bit_or old (asked part (drop i atoms)) ≡ whole → new ≡ bit_or old (part (get_or atoms i d)) → bit_or new (asked part (drop (i + 1) atoms)) ≡ whole
entry_more part atoms i d old new whole below left added =
    ap (λ (x : ℕ). bit_or x (asked part (drop (i + 1) atoms))) added
    ∙ or_assoc old (part (get_or atoms i d)) (asked part (drop (i + 1) atoms))
    ∙ ap (bit_or old) (sym (at_drop_more (asked part) atoms i d below)) ∙ left

-- once none is left
pub entry_all : (part : Atom → ℕ) (atoms : List Atom) (i entry whole : ℕ) → length atoms ≤ i → bit_or entry (asked part (drop i atoms)) ≡ whole → entry ≡ whole
entry_all part atoms i entry whole past left =
    sym (or_zero entry) ∙ ap (λ (rest : List Atom). bit_or entry (asked part rest)) (sym (drop_all i atoms past)) ∙ left

-- an entry of an empty table
pub entry_none : (n p whole : ℕ) → bit_or (slice_index (replicate n 0) p) whole ≡ whole
entry_none n p whole = grind (arith, common_steps, zero_or)
