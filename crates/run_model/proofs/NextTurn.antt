-- What the search for the next held slot finds.
use Rattle.std.proofs.lemmas.Grind.{common_steps}
use Rattle.std.proofs.Common.{arith, refl, ap, sym, ◌∙◌, inl, inr, ◌≡◌, ◌≤◌, ◌<◌, ◌+◌, ◌-◌, ◌%◌, ℕ, zero, suc, Option, None, Some}
use Rattle.std.proofs.lemmas.Bool.{cases_eq, cases_lt}
use Rattle.std.proofs.Math.Nat.{add-mod_right, mod-eq_of_lt}
use Rattle.world_model.specs.declared.hold.Hold.{Hold}
use Rattle.world_model.specs.declared.slot.Turn.{Turn}
use Rattle.world_model.specs.Book.{Book, turn_or, first_turn, next_held_turn}
use Rattle.world_model.proofs.Slots.{holder_in, step_on}
use Rattle.run_model.specs.NextTurn.{IsNextTurn}

-- of so many slots after a place the first held one
pub record FoundAt (slots : ℕ → Option Hold) (count place tries slot e : ℕ) : Type 0 where
  pub held : holder_in (slots slot) ≡ Some e
  pub steps : ℕ
  pub steps_least : 1 ≤ steps
  pub steps_most : steps ≤ tries
  pub stands : slot ≡ (place + steps) % count
  pub between : (j : ℕ) → 1 ≤ j → j < steps → slots ((place + j) % count) ≡ None

abbrev pub Found : (ℕ → Option Hold) → ℕ → ℕ → ℕ → Option Turn → Type 0
Found slots count place tries None = (j : ℕ) → 1 ≤ j → j ≤ tries → slots ((place + j) % count) ≡ None
Found slots count place tries (Some t) = FoundAt slots count place tries t.slot t.env

-- the next slot is empty, and so are those that are empty from it on
empty_on : (slots : ℕ → Option Hold) (count place bound : ℕ) → slots ((place + 1) % count) ≡ None
    → ((j : ℕ) → 1 ≤ j → j < bound → slots (((place + 1) % count + j) % count) ≡ None)
    → (j : ℕ) → 1 ≤ j → j < bound + 1 → slots ((place + j) % count) ≡ None
empty_on slots count place bound next later j least most =
    elim (cases_eq j 1) [
      | inl one ↦ rw one next
      | inr more ↦ ap slots (sym (step_on place j count least)) ∙ later (j - 1) (omega (arith, more)) (omega arith)
    ]

further : (slots : ℕ → Option Hold) (count place tries : ℕ) (hold : Option Hold) (later : Option Turn) → slots ((place + 1) % count) ≡ hold
    → Found slots count ((place + 1) % count) tries later → Found slots count place (suc tries) (turn_or ((place + 1) % count) hold later)
further slots count place tries None None is found =
    λ j least most. empty_on slots count place (tries + 1) is (λ k some few. found k some (omega arith)) j least (omega arith)
further slots count place tries None (Some t) is found = record {
  held = found.held;
  steps = found.steps + 1;
  steps_least = omega arith;
  steps_most = omega (arith, found.steps_most);
  stands = found.stands ∙ ap (λ (n : ℕ). ((place + 1) % count + n) % count) (omega arith) ∙ step_on place (found.steps + 1) (count) (omega arith);
  between = empty_on slots count place found.steps is found.between;
}
further slots count place tries (Some hold) later is found = grind (arith, common_steps, holder_in)

pub search_finds : (slots : ℕ → Option Hold) (count place tries : ℕ) → Found slots count place tries (first_turn slots count place tries)
search_finds slots count place zero = λ j least most. absurd (omega arith)
search_finds slots count place (suc tries) =
    let next = (place + 1) % count in
    further slots count place tries (slots next) (first_turn slots count next tries) refl (search_finds slots count next tries)

-- each slot stands at most once around after a place
stands_around : (cursor k count : ℕ) → cursor < count → k < count → (j : ℕ) × (1 ≤ j) × (j ≤ count) × ((cursor + j) % count ≡ k)
stands_around cursor k count within below =
    elim (cases_lt cursor k) [
      | inl after ↦ let sum : cursor + (k - cursor) ≡ k = omega (arith, after) in
          (k - cursor, omega (arith, after), omega arith, ap (λ (n : ℕ). n % count) sum ∙ mod-eq_of_lt below)
      | inr before ↦ let sum : cursor + (k + count - cursor) ≡ k + count = omega arith in
          (k + count - cursor, omega arith, omega (arith, before), ap (λ (n : ℕ). n % count) sum ∙ add-mod_right k count ∙ mod-eq_of_lt below)
    ]

all_around : (b : Book) (t : Option Turn) → b.cursor < b.slot_count → Found b.slots b.slot_count b.cursor b.slot_count t → IsNextTurn b t
all_around b None within found =
    λ k below.
    let around = stands_around b.cursor k b.slot_count within below in
    ap b.slots (sym around.3) ∙ found around.0 around.1 around.2
all_around b (Some t) within found = grind (arith, common_steps)

-- the search from the cursor, once around
pub next_is_found : (b : Book) → b.cursor < b.slot_count → IsNextTurn b (next_held_turn b)
next_is_found b within = all_around b (next_held_turn b) within (search_finds b.slots b.slot_count b.cursor b.slot_count)
