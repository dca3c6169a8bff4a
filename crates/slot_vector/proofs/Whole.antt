-- The whole turn, which is told at once, taken by what comes next, again and again.
use Rattle.std.proofs.Common.{arith, refl, ap, sym, ◌∙◌, inl, inr, ◌≡◌, ◌≢◌, ◌<◌, ◌+◌, ◌-◌, ℕ, zero, suc, [], length, Option, None, Some, IsSome, slice_set}
use Rattle.std.specs.Prelude.{◌↔◌}
use Rattle.std.proofs.lemmas.Grind.{common_steps}
use Rattle.std.proofs.lemmas.Bool.{cases_eq, eq-eqb, ne_eqb}
use Rattle.std.proofs.lemmas.List.Sums.{sum_by-set}
use Rattle.world_model.specs.declared.hold.Hold.{Hold}
use Rattle.world_model.specs.declared.slot.Turn.{Turn}
use Rattle.world_model.specs.Book.{first_turn, excess_after_forfeit, nobodys, owed, pays_first, turn_within, turn_from}
use Rattle.slot_vector.specs.declared.turn.NextTurn.TheVariants as next
use Rattle.slot_vector.specs.Slices.{Slices, after_turn, excess_of, hold_at, next_held, next_turn, whole_turn_of, turn_of}
use Rattle.slot_vector.specs.Laws.{owed_by_all}
use Rattle.slot_vector.proofs.Around.{turn_held, found_around}
use Rattle.slot_vector.proofs.Owed.{excess_set, owes_within, forfeit_falls}

-- what came next tells whose turn is next, and whether it owes
pub paid_is : (excess : ℕ → ℕ) (held : Option Turn) (t : Turn) → turn_of excess held ≡ next.Pay t → (held ≡ Some t) × (excess t.env ≢ 0)
paid_is excess None t is = absurd (cc)
paid_is excess (Some u) t is = (grind (arith, common_steps), grind (arith, common_steps))

pub ran_is : (excess : ℕ → ℕ) (held : Option Turn) (t : Turn) → turn_of excess held ≡ next.Run t → (held ≡ Some t) × (excess t.env ≡ 0)
ran_is excess None t is = absurd (cc)
ran_is excess (Some u) t is = (grind (arith, common_steps), grind (arith, common_steps))

pub idle_is : (excess : ℕ → ℕ) (held : Option Turn) → turn_of excess held ≡ next.Idle → held ≡ None
idle_is excess None is = refl
idle_is excess (Some u) is = grind (arith, common_steps)

-- a turn, by whose the first slot is and what it owes
told_paid : (slots : ℕ → Option Hold) (count n cursor : ℕ) (excess : ℕ → ℕ) (t : Turn) → first_turn slots count cursor count ≡ Some t → excess t.env ≢ 0
    → turn_from slots count (suc n) cursor excess ≡ pays_first t (turn_from slots count n t.slot (excess_after_forfeit t.env excess))
told_paid slots count n cursor excess t found owes = ap (turn_within (turn_from slots count n) cursor excess) found ∙ rw (ne_eqb (excess t.env) 0 owes) refl

told_run : (slots : ℕ → Option Hold) (count n cursor : ℕ) (excess : ℕ → ℕ) (t : Turn) → first_turn slots count cursor count ≡ Some t → excess t.env ≡ 0
    → turn_from slots count (suc n) cursor excess ≡ record { pays = []; runs = Some t; excess = excess; cursor = t.slot }
told_run slots count n cursor excess t found free = ap (turn_within (turn_from slots count n) cursor excess) found ∙ rw (eq-eqb (excess t.env) 0 free) refl

-- A turn is told in the same way with any fuel above what is owed.
same_told : (slots : ℕ → Option Hold) (count n m cursor : ℕ) (excess : ℕ → ℕ) (t : Option Turn) → first_turn slots count cursor count ≡ t
    → owed excess slots count < suc n → owed excess slots count < suc m
    → ((place : ℕ) (left : ℕ → ℕ) → owed left slots count < n → owed left slots count < m → turn_from slots count n place left ≡ turn_from slots count m place left)
    → turn_within (turn_from slots count n) cursor excess t ≡ turn_within (turn_from slots count m) cursor excess t
same_told slots count n m cursor excess None found enough plenty same = refl
same_told slots count n m cursor excess (Some t) found enough plenty same = grind (arith, common_steps, (forfeit_falls excess slots count cursor t), (same t.slot (excess_after_forfeit t.env excess)))

pub enough_fuel : (slots : ℕ → Option Hold) (count n m cursor : ℕ) (excess : ℕ → ℕ) → owed excess slots count < n → owed excess slots count < m → turn_from slots count n cursor excess ≡ turn_from slots count m cursor excess
enough_fuel slots count zero m cursor excess enough plenty = absurd (omega arith)
enough_fuel slots count (suc n) zero cursor excess enough plenty = absurd (omega arith)
enough_fuel slots count (suc n) (suc m) cursor excess enough plenty =
    same_told slots count n m cursor excess (first_turn slots count cursor count) refl enough plenty (λ place left. enough_fuel slots count n m place left)

-- the excess that a forfeit leaves
pub lowered_of : (v : Slices) (t : Turn) → excess_of v.excess t.env ≢ 0 → excess_of (slice_set v.excess t.env (excess_of v.excess t.env - 1)) ≡ excess_after_forfeit t.env (excess_of v.excess)
lowered_of v t owes = excess_set v.excess t.env (excess_of v.excess t.env - 1) (owes_within v.excess t.env owes)

-- A forfeit comes first in the turn, and the rest of the turn is that of the vector after it.
pub pay_step : (v : Slices) (t : Turn) → next_turn v ≡ next.Pay t → whole_turn_of v ≡ pays_first t (whole_turn_of (after_turn v (next.Pay t)))
pay_step v t is =
    let slots = hold_at v.slots in
    let count = length v.slots in
    let excess = excess_of v.excess in
    let paid = paid_is excess (next_held v) t is in
    let falls = forfeit_falls excess slots count v.cursor t paid.0 paid.1 in
    told_paid slots count (owed excess slots count) v.cursor excess t paid.0 paid.1
    ∙ ap (pays_first t) (enough_fuel slots count (owed excess slots count) (suc (owed (excess_after_forfeit t.env excess) slots count)) t.slot (excess_after_forfeit t.env excess) falls (omega arith))
    ∙ ap (λ (left : ℕ → ℕ). pays_first t (turn_from slots count (suc (owed left slots count)) t.slot left)) (sym (lowered_of v t paid.1))

-- who pays owes one quantum less, and nobody else another
pub pay_lowers : (v : Slices) (t : Turn) → next_turn v ≡ next.Pay t → owed_by_all v ≡ owed_by_all (after_turn v (next.Pay t)) + 1
pay_lowers v t is =
    let owes = (paid_is (excess_of v.excess) (next_held v) t is).1 in
    omega (arith, owes, sum_by-set (λ n. n) v.excess t.env (excess_of v.excess t.env - 1) 0 (owes_within v.excess t.env owes))

-- A run ends the turn, and nothing is forfeited before it.
pub run_step : (v : Slices) (t : Turn) → next_turn v ≡ next.Run t → whole_turn_of v ≡ record { pays = []; runs = Some t; excess = excess_of v.excess; cursor = t.slot }
run_step v t is =
    let slots = hold_at v.slots in
    let excess = excess_of v.excess in
    let ran = ran_is excess (next_held v) t is in
    told_run slots (length v.slots) (owed excess slots (length v.slots)) v.cursor excess t ran.0 ran.1

-- Where nobody is next, the turn is nobody's.
pub idle_step : (v : Slices) → next_turn v ≡ next.Idle → whole_turn_of v ≡ nobodys v.cursor (excess_of v.excess)
idle_step v is =
    let slots = hold_at v.slots in
    let excess = excess_of v.excess in
    ap (turn_within (turn_from slots (length v.slots) (owed excess slots (length v.slots))) v.cursor excess) (idle_is excess (next_held v) is)

-- A turn runs somebody, if a slot is held and the fuel is above what is owed.
runs_told : (slots : ℕ → Option Hold) (count n cursor : ℕ) (excess : ℕ → ℕ) (turn : Option Turn) → first_turn slots count cursor count ≡ turn → owed excess slots count < suc n
    → ((place : ℕ) (left : ℕ → ℕ) → owed left slots count < n → IsSome (first_turn slots count place count) → IsSome (turn_from slots count n place left).runs)
    → IsSome turn → IsSome (turn_within (turn_from slots count n) cursor excess turn).runs
runs_told slots count n cursor excess None found enough later some = some
runs_told slots count n cursor excess (Some t) found enough later some =
    elim (cases_eq (excess t.env) 0) [
      | inl free ↦ rw (eq-eqb (excess t.env) 0 free) refl
      | inr owes ↦
          let falls = forfeit_falls excess slots count cursor t found owes in
          let there = turn_held slots count cursor count t (omega arith) found in
          rw (ne_eqb (excess t.env) 0 owes) (later t.slot (excess_after_forfeit t.env excess) (omega (arith, falls)) (found_around slots count t.slot there.hold there.within there.held))
    ]

runs_somebody : (slots : ℕ → Option Hold) (count n cursor : ℕ) (excess : ℕ → ℕ) → owed excess slots count < n → IsSome (first_turn slots count cursor count) → IsSome (turn_from slots count n cursor excess).runs
runs_somebody slots count zero cursor excess enough some = absurd (omega arith)
runs_somebody slots count (suc n) cursor excess enough some =
    runs_told slots count n cursor excess (first_turn slots count cursor count) refl enough (λ place left. runs_somebody slots count n place left) some

none_is : {A : Type 0} (o runs : Option A) → (IsSome o → IsSome runs) → runs ≡ None → o ≡ None
none_is None runs somebody none = refl
none_is (Some x) None somebody none = absurd (let some = somebody refl in cc)
none_is (Some x) (Some y) somebody none = absurd (cc)

-- The turn runs nobody exactly where no slot is held.
pub is_idle : (v : Slices) → ((whole_turn_of v).runs ≡ None) ↔ (next_held v ≡ None)
is_idle v =
    let slots = hold_at v.slots in
    let excess = excess_of v.excess in
    let fuel = owed excess slots (length v.slots) in (
      none_is (next_held v) (whole_turn_of v).runs (runs_somebody slots (length v.slots) (suc fuel) v.cursor excess (omega arith)),
      λ none. ap (λ (turn : Option Turn). (turn_within (turn_from slots (length v.slots) fuel) v.cursor excess turn).runs) none,
    )
