-- The search for the next held slot: a slot further, what it finds, and when.
use Rattle.std.proofs.Common.{arith, refl, ap, sym, ◌∙◌, inl, inr, ◌≡◌, ◌+◌, ◌-◌, ◌<◌, ◌≤◌, ◌%◌, ℕ, zero, suc, Option, None, Some, IsSome}
use Rattle.std.proofs.lemmas.Bool.{cases_eq}
use Rattle.std.proofs.lemmas.Nat.{mod_below}
use Rattle.std.proofs.Math.Nat.{add-mod_right, mod-eq_of_lt}
use Rattle.world_model.specs.declared.hold.Hold.{Hold}
use Rattle.world_model.specs.declared.slot.Turn.{Turn}
use Rattle.world_model.specs.Book.{first_turn, turn_or}
use Rattle.world_model.proofs.Slots.{step_on}

-- where the next slot is empty, the search goes on from it
pub skipped_slot : (slots : ℕ → Option Hold) (count place tries : ℕ) → 0 < tries → slots ((place + 1) % count) ≡ None → first_turn slots count ((place + 1) % count) (tries - 1) ≡ first_turn slots count place tries
skipped_slot slots count place zero some empty = absurd (omega arith)
skipped_slot slots count place (suc tries) some empty = let e : suc tries - 1 ≡ tries = omega arith in rw (e, empty) refl

-- The turn that is found is in a slot that is there, and its environment holds it.
pub record IsHeld (slots : ℕ → Option Hold) (count : ℕ) (t : Turn) : Type 0 where
  pub within : t.slot < count
  pub hold : Hold
  pub held : slots t.slot ≡ Some hold
  pub holds : hold.holder ≡ t.env

same_turn : (u t : Turn) → Some u ≡ Some t → u ≡ t
same_turn u t is = cc

held_next : (slots : ℕ → Option Hold) (count next : ℕ) (later : Option Turn) (t : Turn) (hold : Option Hold) → next < count → slots next ≡ hold → (later ≡ Some t → IsHeld slots count t) → turn_or next hold later ≡ Some t → IsHeld slots count t
held_next slots count next later t None below there further found = further found
held_next slots count next later t (Some hold) below there further found =
    let same = same_turn (record { slot = next; env = hold.holder }) t found in
    let slot : next ≡ t.slot = ap (λ (u : Turn). u.slot) same in
    record {
      within = omega (arith, slot, below);
      hold = hold;
      held = ap slots (sym slot) ∙ there;
      holds = ap (λ (u : Turn). u.env) same;
    }

pub turn_held : (slots : ℕ → Option Hold) (count place tries : ℕ) (t : Turn) → tries ≤ count → first_turn slots count place tries ≡ Some t → IsHeld slots count t
turn_held slots count place zero t most found = absurd (cc)
turn_held slots count place (suc tries) t most found =
    let next = (place + 1) % count in
    held_next slots count next (first_turn slots count next tries) t (slots next) (mod_below (place + 1) count (omega arith)) refl (turn_held slots count next tries t (omega arith)) found

or_later : (next : ℕ) (hold : Option Hold) (later : Option Turn) → IsSome later → IsSome (turn_or next hold later)
or_later next None later some = some
or_later next (Some hold) later some = refl

-- where a slot is held, the search that comes to it finds a turn
found_by : (slots : ℕ → Option Hold) (count place tries j : ℕ) (hold : Hold) → 1 ≤ j → j ≤ tries → slots ((place + j) % count) ≡ Some hold → IsSome (first_turn slots count place tries)
found_by slots count place zero j hold least most held = absurd (omega arith)
found_by slots count place (suc tries) j hold least most held =
    let next = (place + 1) % count in
    elim (cases_eq j 1) [
      | inl one ↦ let there : slots next ≡ Some hold = rw (← one) held in rw there refl
      | inr more ↦ or_later next (slots next) (first_turn slots count next tries) (found_by slots count next tries (j - 1) hold (omega (arith, more)) (omega arith) (ap slots (step_on place j count least) ∙ held))
    ]

-- once around from a held slot there is one that is held
pub found_around : (slots : ℕ → Option Hold) (count place : ℕ) (hold : Hold) → place < count → slots place ≡ Some hold → IsSome (first_turn slots count place count)
found_around slots count place hold within held =
    let around : (place + count) % count ≡ place = add-mod_right place count ∙ mod-eq_of_lt within in
    found_by slots count place count count hold (omega arith) (omega arith) (ap slots around ∙ held)
