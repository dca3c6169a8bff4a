-- The turn: who starts in it owes nothing.
use Rattle.std.proofs.Common.{◌≡◌, ◌≢◌, ℕ, zero, suc, [], ◌∷◌, Bool, true, false, Option, None, Some, inl, inr, refl, sym, ◌∙◌, ap, subst}
use Rattle.std.specs.Prelude.{◌==◌, if◌then◌else◌}
use Rattle.std.proofs.lemmas.Bool.{cases_eq, eq-eqb, eqb-true, ne_eqb}
use Rattle.world_model.specs.declared.hold.Hold.{Hold}
use Rattle.world_model.specs.declared.slot.Phase.TheVariants as phase
use Rattle.world_model.specs.declared.slot.Runner.{Runner}
use Rattle.world_model.specs.declared.slot.Turn.{Turn}
use Rattle.world_model.specs.Book.{WholeTurn, excess_after_forfeit, first_turn, owed, pays_first, turn_from, turn_within, whole_turn}
use Rattle.world_model.specs.Item.{Start}
use Rattle.world_model.specs.Tick.{take_turn, turn, turn_when}
use Rattle.world_model.specs.World.{World, Reply, after, only}
use Rattle.due_law.specs.Standing.{Runs, Waits}
use Rattle.due_law.proofs.Dues.{Goes, goes_as, goes_none, standing, standing_of}
use Rattle.due_law.proofs.Early.{only_away, only_own}

module _ (slots : ℕ → Option Hold) (count : ℕ) where
  within_free : (n cursor : ℕ) (excess : ℕ → ℕ) (t : Turn) → ((c : ℕ) (x : ℕ → ℕ) → (turn_from slots count n c x).runs ≡ Some t → (turn_from slots count n c x).excess t.env ≡ 0)
      → (o : Option Turn) → (turn_within (turn_from slots count n) cursor excess o).runs ≡ Some t → (turn_within (turn_from slots count n) cursor excess o).excess t.env ≡ 0
  within_free n cursor excess t further None is = cc
  within_free n cursor excess t further (Some u) is = by_test (excess u.env == 0) refl is
    where
      by_test : (free : Bool) → (excess u.env == 0) ≡ free
          → (if free then record { pays = []; runs = Some u; excess = excess; cursor = u.slot } else pays_first u (turn_from slots count n u.slot (excess_after_forfeit u.env excess))).runs ≡ Some t
          → (if free then record { pays = []; runs = Some u; excess = excess; cursor = u.slot } else pays_first u (turn_from slots count n u.slot (excess_after_forfeit u.env excess))).excess t.env ≡ 0
      by_test true free is = let same : u ≡ t = cc in subst (λ (x : Turn). excess x.env ≡ 0) same (eqb-true (excess u.env) 0 free)
      by_test false owes is = further u.slot (excess_after_forfeit u.env excess) is

  runs_free : (n cursor : ℕ) (excess : ℕ → ℕ) (t : Turn) → (turn_from slots count n cursor excess).runs ≡ Some t → (turn_from slots count n cursor excess).excess t.env ≡ 0
  runs_free zero cursor excess t is = cc
  runs_free (suc n) cursor excess t is = within_free n cursor excess t (λ c x runs. runs_free n c x t runs) (first_turn slots count cursor count) is

-- where it stands before and after a turn
pub record Turns (e : ℕ) (w : World) (r : Reply) : Type 0 where
  pub goes : Goes e w.book.quantum w (r.items e) (standing e w) (standing e (after w r))
  pub quantum : r.book.quantum ≡ w.book.quantum

module _ (e : ℕ) (w : World) where
  abbrev q : ℕ
  q = w.book.quantum

  abbrev told : WholeTurn
  told = whole_turn w.book

  module _ (nobody : w.book.runner ≡ None) where
    before : standing e w ≡ Waits
    before = ap (λ (o : Option Runner). standing_of e o (w.book.excess e)) nobody

    started : (t : Turn) → told.runs ≡ Some t → t.env ≡ e → Turns e w (take_turn w told (Some t))
    started t runs same =
        let b = w.book in
        let r = take_turn w told (Some t) in
        let free : told.excess e ≡ 0 = subst (λ (n : ℕ). told.excess n ≡ 0) same (runs_free b.slots b.slot_count (suc (owed b.excess b.slots b.slot_count)) b.cursor b.excess t runs) in
        record {
          goes = goes_as e q w (r.items e) (Start ∷ []) (standing e w) Waits (standing e (after w r)) (Runs q phase.Own 0)
              (ap (λ (n : ℕ). only n (Start ∷ []) e) same ∙ only_own e (Start ∷ [])) before
              (ap (λ (t : Bool). if t then Runs q phase.Own (told.excess e) else Waits) (eq-eqb t.env e same) ∙ ap (λ (x : ℕ). Runs q phase.Own x) free)
              (record { due = (refl, tt); leads = refl });
          quantum = refl;
        }

    passed : (t : Turn) → t.env ≢ e → Turns e w (take_turn w told (Some t))
    passed t other =
        let r = take_turn w told (Some t) in
        record {
          goes = goes_as e q w (r.items e) [] (standing e w) Waits (standing e (after w r)) Waits
              (only_away e t.env (Start ∷ []) (λ same. other (sym same))) before
              (ap (λ (b : Bool). if b then Runs q phase.Own (told.excess e) else Waits) (ne_eqb t.env e other))
              (goes_none e q w Waits);
          quantum = refl;
        }

    by_turn : (o : Option Turn) → told.runs ≡ o → Turns e w (take_turn w told o)
    by_turn None runs = record { goes = goes_none e q w (standing e w); quantum = refl }
    by_turn (Some t) runs = elim (cases_eq t.env e) [ inl same ↦ started t runs same | inr other ↦ passed t other ]

  by_runner : (o : Option Runner) → w.book.runner ≡ o → Turns e w (turn_when w o)
  by_runner None nobody = by_turn nobody told.runs refl
  by_runner (Some r) runs = record { goes = goes_none e q w (standing e w); quantum = refl }

  pub turns : Turns e w (turn w)
  turns = by_runner w.book.runner refl
