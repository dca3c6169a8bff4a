-- A queue of batches whose times rise.
use Rattle.std.proofs.Common.{arith, refl, sym, ◌≡◌, ◌≢◌, ◌<◌, ◌≤◌, ◌+◌, ℕ, List, [], ◌∷◌, ◌++◌, inl, inr, length, rules, false}
use Rattle.std.specs.Prelude.{◌&&◌, min, nat_le, nat_lt}
use Rattle.std.proofs.lemmas.Bool.{and_from, and_parts, cases_eq, eq-eqb, eqb-false, le-leb, leb-true, lt-ltb, ltb-true, ne_eqb}
use Rattle.wire_net.specs.declared.delivery.Batch.{Batch}
use Rattle.wire_net.specs.declared.delivery.Delivery.{Delivery}
use Rattle.wire_net.specs.Delivery.{Rise, due_at, first_arrival, is_due, rise_between}

-- the first batch of a rising queue, and those behind it
pub record IsFirst (low limit : ℕ) (batch : Batch) (batches : List Batch) : Type 0 where
  pub least : low ≤ batch.time
  pub below : batch.time < limit
  pub behind : Rise (batch.time + 1) limit batches

first_of : (least limit : ℕ) (batch : Batch) (batches : List Batch) → Rise least limit (batch ∷ batches) → IsFirst least limit batch batches
first_of least limit batch batches rises =
    let parts = and_parts (nat_le least batch.time) (nat_lt batch.time limit && rise_between (batch.time + 1) limit batches) rises in
    let rest = and_parts (nat_lt batch.time limit) (rise_between (batch.time + 1) limit batches) parts.1 in
    record { least = leb-true least batch.time parts.0; below = ltb-true batch.time limit rest.0; behind = rest.1 }

rises_with : (least limit : ℕ) (batch : Batch) (batches : List Batch) → least ≤ batch.time → batch.time < limit → Rise (batch.time + 1) limit batches → Rise least limit (batch ∷ batches)
rises_with least limit batch batches from below behind =
    and_from (nat_le least batch.time) (nat_lt batch.time limit && rise_between (batch.time + 1) limit batches) (le-leb least batch.time from)
    (and_from (nat_lt batch.time limit) (rise_between (batch.time + 1) limit batches) (lt-ltb batch.time limit below) behind)

-- nothing is due before the first time
none_before : (least limit t : ℕ) (batches : List Batch) → Rise least limit batches → t < least → due_at t batches ≡ []
none_before least limit t [] rises before = refl
none_before least limit t (batch ∷ batches) rises before =
    let first = first_of least limit batch batches rises in
    let from = first.least in
    rw (ne_eqb batch.time t (λ same. omega arith)) (none_before (batch.time + 1) limit t batches first.behind (omega arith))

-- nor from the limit on
pub none_from : (least limit t : ℕ) (batches : List Batch) → Rise least limit batches → limit ≤ t → due_at t batches ≡ []
none_from least limit t [] rises past = refl
none_from least limit t (batch ∷ batches) rises past =
    let first = first_of least limit batch batches rises in
    let below = first.below in
    rw (ne_eqb batch.time t (λ same. omega arith)) (none_from (batch.time + 1) limit t batches first.behind past)

-- nor before the first arrives; and from then on they rise
pub none_arrives : (least limit most t : ℕ) (batches : List Batch) → Rise least limit batches → t < first_arrival most batches → due_at t batches ≡ []
none_arrives least limit most t [] rises before = refl
none_arrives least limit most t (batch ∷ batches) rises before =
    let first = first_of least limit batch batches rises in
    rw (ne_eqb batch.time t (λ same. omega arith)) (none_before (batch.time + 1) limit t batches first.behind (omega arith))

pub rises_from_first : (least limit most : ℕ) (batches : List Batch) → Rise least limit batches → Rise (first_arrival most batches) limit batches
rises_from_first least limit most [] rises = refl
rises_from_first least limit most (batch ∷ batches) rises =
    let first = first_of least limit batch batches rises in
    rises_with (min batch.time most) limit batch batches (omega arith) first.below first.behind

pub first_is_later : (least limit most : ℕ) (batches : List Batch) → Rise least limit batches → least ≤ most → least ≤ first_arrival most batches
first_is_later least limit most [] rises from = from
first_is_later least limit most (batch ∷ batches) rises from =
    let first = first_of least limit batch batches rises in
    let later = first.least in
    omega arith

pub first_is_within : (most : ℕ) (batches : List Batch) → first_arrival most batches ≤ most
first_is_within most [] = omega arith
first_is_within most (batch ∷ batches) = omega arith

-- where they rise from one time on they rise from an earlier one on
pub rises_earlier : (least from limit : ℕ) (batches : List Batch) → Rise from limit batches → least ≤ from → Rise least limit batches
rises_earlier least from limit [] rises before = refl
rises_earlier least from limit (batch ∷ batches) rises before =
    let first = first_of from limit batch batches rises in
    let later = first.least in
    rises_with least limit batch batches (omega arith) first.below first.behind

-- ---- taking the first

-- where the first isn't due, nothing is
pub not_due : (t limit : ℕ) (batches : List Batch) → Rise t limit batches → is_due t batches ≡ false → due_at t batches ≡ []
not_due t limit [] rises not = refl
not_due t limit (batch ∷ batches) rises not =
    let first = first_of t limit batch batches rises in
    let from = first.least in
    let other = eqb-false batch.time t not in
    rw not (none_before (batch.time + 1) limit t batches first.behind (omega arith))

pub not_due_rises : (t limit : ℕ) (batches : List Batch) → Rise t limit batches → is_due t batches ≡ false → Rise (t + 1) limit batches
not_due_rises t limit [] rises not = refl
not_due_rises t limit (batch ∷ batches) rises not =
    let first = first_of t limit batch batches rises in
    let from = first.least in
    let other = eqb-false batch.time t not in
    rises_with (t + 1) limit batch batches (omega arith) first.below first.behind

-- ---- putting one behind them

pub wider : (least limit more : ℕ) (batches : List Batch) → Rise least limit batches → limit ≤ more → Rise least more batches
wider least limit more [] rises most = refl
wider least limit more (batch ∷ batches) rises most =
    let first = first_of least limit batch batches rises in
    let below = first.below in
    rises_with least more batch batches first.least (omega arith) (wider (batch.time + 1) limit more batches first.behind most)

pub put_other : (t : ℕ) (last : Batch) (batches : List Batch) → t ≢ last.time → due_at t (batches ++ last ∷ []) ≡ due_at t batches
put_other t last [] other = rw (ne_eqb last.time t (λ same. other (sym same))) refl
put_other t last (batch ∷ batches) other =
    elim (cases_eq batch.time t) [
      | inl here ↦ rw (eq-eqb batch.time t here) refl
      | inr not ↦ rw (ne_eqb batch.time t not) (put_other t last batches other)
    ]

pub put_last : (least : ℕ) (last : Batch) (batches : List Batch) → Rise least last.time batches → due_at last.time (batches ++ last ∷ []) ≡ last.deliveries.items
put_last least last [] rises = rw (eq-eqb last.time last.time refl) refl
put_last least last (batch ∷ batches) rises =
    let first = first_of least last.time batch batches rises in
    let below = first.below in
    rw (ne_eqb batch.time last.time (λ same. omega arith)) (put_last (batch.time + 1) last batches first.behind)

pub put_rises : (least : ℕ) (last : Batch) (batches : List Batch) → least ≤ last.time → Rise least last.time batches → Rise least (last.time + 1) (batches ++ last ∷ [])
put_rises least last [] from rises = rises_with least (last.time + 1) last [] from (omega arith) refl
put_rises least last (batch ∷ batches) from rises =
    let first = first_of least last.time batch batches rises in
    let below = first.below in
    rises_with least (last.time + 1) batch (batches ++ last ∷ []) first.least (omega arith) (put_rises (batch.time + 1) last batches (omega arith) first.behind)

pub empty_of : (xs : List Delivery) → length xs ≡ 0 → xs ≡ []
empty_of [] none = refl
empty_of (x ∷ xs) none = search (arith, rules)
