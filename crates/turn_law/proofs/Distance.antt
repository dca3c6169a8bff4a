-- How many slots a cursor has to go to a slot.
use Rattle.std.proofs.Common.{arith, refl, ◌≡◌, ◌<◌, ◌≤◌, ◌+◌, ◌-◌, ◌⊎◌, inl, inr, ℕ, Bool, true, false, ◌&&◌}
use Rattle.std.specs.Prelude.{◌||◌, nat_lt, if◌then◌else◌}
use Rattle.std.proofs.lemmas.Bool.{and_cases, cases_lt, le-ltb, lt-ltb, ltb-true, ltb-false, or_parts}
use Rattle.ledger_audit.specs.RowRules.{is_between}

-- The slots are around in a circle of so many. A cursor beyond them, as before the first turn, is before slot 0.
unfoldable pub distance : ℕ → ℕ → ℕ → ℕ
distance slot count cursor =
    if nat_lt cursor slot then slot - cursor else (if nat_lt cursor count then slot + count - cursor else slot + 1)

abbrev IsFar : ℕ → ℕ → ℕ → ℕ → Type 0
IsFar slot count cursor d =
    ((cursor < slot) × (d + cursor ≡ slot))
    ⊎ (((slot ≤ cursor) × (cursor < count) × (d + cursor ≡ slot + count)) ⊎ ((slot ≤ cursor) × (count ≤ cursor) × (d ≡ slot + 1)))

far_past : (slot count cursor : ℕ) → slot ≤ cursor → ((cursor < count) ⊎ (count ≤ cursor)) → IsFar slot count cursor (distance slot count cursor)
unfolding distance
far_past slot count cursor past (inl within) = rw (le-ltb cursor slot past, lt-ltb cursor count within) (inr (inl (past, within, omega (arith, past, within))))
far_past slot count cursor past (inr beyond) = rw (le-ltb cursor slot past, le-ltb cursor count beyond) (inr (inr (past, beyond, refl)))

far_before : (slot count cursor : ℕ) → cursor < slot → IsFar slot count cursor (distance slot count cursor)
unfolding distance
far_before slot count cursor before = rw (lt-ltb cursor slot before) (inl (before, omega (arith, before)))

is_far : (slot count cursor : ℕ) → IsFar slot count cursor (distance slot count cursor)
is_far slot count cursor =
    elim (cases_lt cursor slot) [
      | inl before ↦ far_before slot count cursor before
      | inr past ↦ far_past slot count cursor past (cases_lt cursor count)
    ]

bounded : (slot count cursor d : ℕ) → slot < count → IsFar slot count cursor d → (1 ≤ d) × (d ≤ count)
bounded slot count cursor d there (inl (before, is)) = (omega arith, omega arith)
bounded slot count cursor d there (inr (inl (past, within, is))) = (omega arith, omega arith)
bounded slot count cursor d there (inr (inr (past, beyond, is))) = (omega arith, omega arith)

pub far_within : (slot count cursor : ℕ) → slot < count → (1 ≤ distance slot count cursor) × (distance slot count cursor ≤ count)
far_within slot count cursor there = bounded slot count cursor (distance slot count cursor) there (is_far slot count cursor)

-- once around
pub far_around : (slot count : ℕ) → slot < count → distance slot count slot ≡ count
far_around slot count there = by_place (distance slot count slot) (is_far slot count slot)
  where
    by_place : (d : ℕ) → IsFar slot count slot d → d ≡ count
    by_place d (inl (before, is)) = absurd (omega arith)
    by_place d (inr (inl (past, within, is))) = omega arith
    by_place d (inr (inr (past, beyond, is))) = absurd (omega arith)

-- a slot that a turn in another doesn't pass
abbrev IsOutside : ℕ → ℕ → ℕ → Type 0
IsOutside cursor k slot = ((cursor < k) × ((slot ≤ cursor) ⊎ (k ≤ slot))) ⊎ ((k ≤ cursor) × (slot ≤ cursor) × (k ≤ slot))

outside : (cursor k slot : ℕ) → is_between cursor k slot ≡ false → IsOutside cursor k slot
outside cursor k slot missed = by_place (nat_lt cursor k) refl missed
  where
    by_either : cursor < k → ((nat_lt cursor slot ≡ false) ⊎ (nat_lt slot k ≡ false)) → IsOutside cursor k slot
    by_either less (inl above) = inl (less, inl (ltb-false cursor slot above))
    by_either less (inr below) = inl (less, inr (ltb-false slot k below))

    by_place : (b : Bool) → nat_lt cursor k ≡ b → (if b then nat_lt cursor slot && nat_lt slot k else nat_lt cursor slot || nat_lt slot k) ≡ false
        → IsOutside cursor k slot
    by_place true less is = by_either (ltb-true cursor k less) (and_cases (nat_lt cursor slot) (nat_lt slot k) is)
    by_place false past is =
        let both = or_parts (nat_lt cursor slot) (nat_lt slot k) is in
        inr (ltb-false cursor k past, ltb-false cursor slot both.0, ltb-false slot k both.1)

nearer_by : (slot count cursor k d n : ℕ) → slot < count → k < count → (k ≡ slot → ⊥) → IsFar slot count cursor d → IsFar slot count k n → IsOutside cursor k slot → n + 1 ≤ d
nearer_by slot count cursor k d n there below other (inl (a, b)) (inl (x, y)) (inl (less, inl before)) = absurd (omega arith)
nearer_by slot count cursor k d n there below other (inl (a, b)) (inl (x, y)) (inl (less, inr behind)) = omega arith
nearer_by slot count cursor k d n there below other (inl (a, b)) (inl (x, y)) (inr (f, g, h)) = absurd (omega arith)
nearer_by slot count cursor k d n there below other (inl (a, b)) (inr (inl (x, y, z))) (inl (less, inl before)) = absurd (omega arith)
nearer_by slot count cursor k d n there below other (inl (a, b)) (inr (inl (x, y, z))) (inl (less, inr behind)) =
    let same : k ≡ slot = omega arith in absurd (other same)
nearer_by slot count cursor k d n there below other (inl (a, b)) (inr (inl (x, y, z))) (inr (f, g, h)) = absurd (omega arith)
nearer_by slot count cursor k d n there below other (inr (inl (a, b, c))) (inl (x, y)) (inl (less, inl before)) = absurd (omega arith)
nearer_by slot count cursor k d n there below other (inr (inl (a, b, c))) (inl (x, y)) (inl (less, inr behind)) = absurd (omega arith)
nearer_by slot count cursor k d n there below other (inr (inl (a, b, c))) (inl (x, y)) (inr (f, g, h)) = omega arith
nearer_by slot count cursor k d n there below other (inr (inl (a, b, c))) (inr (inl (x, y, z))) (inl (less, inl before)) = omega arith
nearer_by slot count cursor k d n there below other (inr (inl (a, b, c))) (inr (inl (x, y, z))) (inl (less, inr behind)) = absurd (omega arith)
nearer_by slot count cursor k d n there below other (inr (inl (a, b, c))) (inr (inl (x, y, z))) (inr (f, g, h)) =
    let same : k ≡ slot = omega arith in absurd (other same)
nearer_by slot count cursor k d n there below other (inr (inr (a, b, c))) (inl (x, y)) (inl (less, rest)) = absurd (omega arith)
nearer_by slot count cursor k d n there below other (inr (inr (a, b, c))) (inl (x, y)) (inr (f, g, h)) = omega arith
nearer_by slot count cursor k d n there below other (inr (inr (a, b, c))) (inr (inl (x, y, z))) (inl (less, rest)) = absurd (omega arith)
nearer_by slot count cursor k d n there below other (inr (inr (a, b, c))) (inr (inl (x, y, z))) (inr (f, g, h)) =
    let same : k ≡ slot = omega arith in absurd (other same)
nearer_by slot count cursor k d n there below other far (inr (inr (x, y, z))) outside = absurd (omega arith)

-- A turn in another slot that doesn't pass this one comes nearer to it.
pub nearer : (slot count cursor k : ℕ) → slot < count → k < count → (k ≡ slot → ⊥) → is_between cursor k slot ≡ false → distance slot count k + 1 ≤ distance slot count cursor
nearer slot count cursor k there below other missed =
    nearer_by slot count cursor k (distance slot count cursor) (distance slot count k) there below other (is_far slot count cursor) (is_far slot count k) (outside cursor k slot missed)
