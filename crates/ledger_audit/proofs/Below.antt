-- Slots below a number.
use Rattle.std.proofs.Common.{arith, refl, sym, ◌∙◌, ap, subst, ◌≡◌, ◌<◌, ◌≤◌, inl, inr, ℕ, zero, suc, Bool, true, false, ◌&&◌}
use Rattle.std.proofs.lemmas.Bool.{cases_lt}
use Rattle.std.specs.Prelude.{is_none, is_some, not, ◌||◌, Option, None, Some}
use Rattle.aegis_limits.specs.Limits.{most_slots}
use Rattle.ledger_audit.specs.LedgerState.{LedgerState}
use Rattle.ledger_audit.specs.RowRules.{all_below, are_empty, are_passed, is_between, is_empty_slot, is_passed}

-- a test that fails below a number
pub all_below_false : (n k : ℕ) (p : ℕ → Bool) → k < n → p k ≡ false → all_below n p ≡ false
all_below_false zero k p less fails = absurd (omega (arith, less))
all_below_false (suc n) k p less fails =
    elim (cases_lt k n) [
      | inl below ↦ ap (λ (b : Bool). b && p n) (all_below_false n k p below fails)
      | inr past ↦ last (all_below n p) (same k n fails (omega (arith, less, past)))
    ]
  where
    same : (k n : ℕ) → p k ≡ false → k ≡ n → p n ≡ false
    same k n fails is = ap p (sym is) ∙ fails

    last : (b : Bool) → p n ≡ false → (b && p n) ≡ false
    last true is = is
    last false is = refl

some_not_none : {X : Type 0} (o : Option X) → is_some o ≡ true → is_none o ≡ false
some_not_none None is = sym is
some_not_none (Some x) is = refl

-- a slot with a holder
pub not_empty : (s : LedgerState) (k : ℕ) → k < most_slots → is_some (s.slots k) ≡ true → are_empty s ≡ false
unfolding are_empty
not_empty s k less held = all_below_false most_slots k (is_empty_slot s) less (some_not_none (s.slots k) held)

pub all_empty : (s : LedgerState) (k : ℕ) → k ≤ most_slots → most_slots ≤ k → all_below k (is_empty_slot s) ≡ true → are_empty s ≡ true
unfolding are_empty
all_empty s k most least all =
    let same : k ≡ most_slots = omega (arith, most, least) in subst (λ (n : ℕ). all_below n (is_empty_slot s) ≡ true) same all

-- one between the cursor and another
pub not_passed : (s : LedgerState) (slot k : ℕ) → k < most_slots → is_between s.cursor slot k ≡ true → is_some (s.slots k) ≡ true
    → are_passed s slot ≡ false
unfolding are_passed
not_passed s slot k less between held =
    all_below_false most_slots k (is_passed s slot) less
    (ap (λ (b : Bool). not b || is_none (s.slots k)) between ∙ some_not_none (s.slots k) held)

pub all_passed : (s : LedgerState) (slot k : ℕ) → k ≤ most_slots → most_slots ≤ k → all_below k (is_passed s slot) ≡ true
    → are_passed s slot ≡ true
unfolding are_passed
all_passed s slot k most least all =
    let same : k ≡ most_slots = omega (arith, most, least) in subst (λ (n : ℕ). all_below n (is_passed s slot) ≡ true) same all
