-- A turn goes by the rule of excess.
use Rattle.std.proofs.Common.{arith, refl, [], ◌≡◌, ◌<◌, ◌+◌, ◌%◌, ℕ, zero, suc, Bool, true, false, Option, None, Some}
use Rattle.std.specs.Prelude.{◌==◌, if◌then◌else◌}
use Rattle.std.proofs.lemmas.Bool.{eqb-true, eqb-false}
use Rattle.std.proofs.Math.Nat.{mod-lt}
use Rattle.world_model.specs.declared.slot.Turn.{Turn}
use Rattle.world_model.specs.Book.{Book, first_turn, excess_after_forfeit, owed, pays_first, turn_within, turn_from}
use Rattle.world_model.proofs.Slots.{owed_less}
use Rattle.run_model.specs.NextTurn.{IsNextTurn}
use Rattle.run_model.specs.Excess.{GoesByRule, TurnsGoByRule}
use Rattle.run_model.proofs.NextTurn.{next_is_found}

-- the book with another cursor and other excess
abbrev turned : Book → ℕ → (ℕ → ℕ) → Book
turned b cursor excess = record b { cursor = cursor; excess = excess }

-- turns go by the rule wherever the holders owe less than so much
abbrev GoesWithin : Book → ℕ → Type 0
GoesWithin b n =
    (cursor : ℕ) (excess : ℕ → ℕ) → cursor < b.slot_count → owed excess b.slots b.slot_count < n
    → GoesByRule (turned b cursor excess) (turn_from b.slots b.slot_count n cursor excess).pays (turn_from b.slots b.slot_count n cursor excess).runs

goes_on : (b : Book) (n cursor : ℕ) (excess : ℕ → ℕ) → GoesWithin b n → owed excess b.slots b.slot_count < suc n → cursor < b.slot_count
    → (next : Option Turn) → IsNextTurn (turned b cursor excess) next
    → GoesByRule (turned b cursor excess) (turn_within (turn_from b.slots b.slot_count n) cursor excess next).pays (turn_within (turn_from b.slots b.slot_count n) cursor excess next).runs
goes_on b n cursor excess goes enough within None is = (is, tt)
goes_on b n cursor excess goes enough within (Some t) is = by_test (excess t.env == 0) refl
  where
    by_test : (free : Bool) → (excess t.env == 0) ≡ free
        → GoesByRule (turned b cursor excess)
        (if free then record { pays = []; runs = Some t; excess = excess; cursor = t.slot } else pays_first t (turn_from b.slots b.slot_count n t.slot (excess_after_forfeit t.env excess))).pays
        (if free then record { pays = []; runs = Some t; excess = excess; cursor = t.slot } else pays_first t (turn_from b.slots b.slot_count n t.slot (excess_after_forfeit t.env excess))).runs
    by_test true free = (is, eqb-true (excess t.env) 0 free)
    by_test false owing =
        let owes : 0 < excess t.env = omega (arith, eqb-false (excess t.env) 0 owing) in
        let around : (cursor + is.steps) % b.slot_count < b.slot_count = mod-lt (cursor + is.steps) (omega arith) in
        let below : t.slot < b.slot_count = omega (arith, is.stands) in
        let less = owed_less t.env excess b.slots b.slot_count t.slot below is.held owes in
        (is, owes, goes t.slot (excess_after_forfeit t.env excess) below (omega arith))

goes_within : (b : Book) (n : ℕ) → GoesWithin b n
goes_within b zero cursor excess within enough = absurd (omega arith)
goes_within b (suc n) cursor excess within enough =
    goes_on b n cursor excess (goes_within b n) enough within (first_turn b.slots b.slot_count cursor b.slot_count) (next_is_found (turned b cursor excess) within)

pub turns_go_by_rule : TurnsGoByRule
turns_go_by_rule b within = goes_within b (suc (owed b.excess b.slots b.slot_count)) b.cursor b.excess within (omega arith)
