-- What a turn leaves.
use Rattle.std.proofs.Common.{arith, refl, sym, ◌∙◌, ap, subst, ◌≡◌, ◌+◌, ◌%◌, inl, inr, ℕ, zero, suc, List, [], ◌∷◌, ◌++◌, map, Bool, true, false, Option, None, Some}
use Rattle.std.specs.Prelude.{◌==◌, if◌then◌else◌}
use Rattle.std.proofs.lemmas.Bool.{cases_eq, eq-eqb, eqb-false, eqb-true, ne_eqb}
use Rattle.std.proofs.lemmas.List.Sums.{sum_by-append, sum_by-cons}
use Rattle.kernel_journal.specs.declared.row.Row.{Row}
use Rattle.kernel_journal.specs.declared.row.Row.TheVariants as row
use Rattle.world_model.specs.declared.hold.Hold.{Hold}
use Rattle.world_model.specs.declared.slot.Phase.TheVariants as phase
use Rattle.world_model.specs.declared.slot.Runner.{Runner}
use Rattle.world_model.specs.declared.slot.Turn.{Turn}
use Rattle.world_model.specs.Book.{WholeTurn, excess_after_forfeit, first_turn, owed, pays_first, turn_from, turn_or, turn_within, whole_turn}
use Rattle.world_model.specs.Tick.{pay_row, take_turn, turn_when}
use Rattle.world_model.specs.World.{World, after}
use Rattle.run_model.specs.Excess.{is_pay_of, pays}
use Rattle.run_model.specs.Run.{at_turn}
use Rattle.run_model.proofs.Phases.{after_no_change, step_after_turn}
use Rattle.slot_law.specs.TurnLeaves.{IsBegun, IsTurn, TurnsLeave}

-- how many of some forfeits are an environment's
abbrev paid : ℕ → List Turn → ℕ
paid e [] = 0
paid e (t ∷ turns) = (if t.env == e then 1 else 0) + paid e turns

-- the slot of a turn is its environment's
abbrev IsHeldBy : Option Hold → ℕ → Type 0
IsHeldBy slot e = (hold : Hold) × (slot ≡ Some hold) × (hold.holder ≡ e)

first_held : (slots : ℕ → Option Hold) (count place tries : ℕ) (t : Turn) → first_turn slots count place tries ≡ Some t → IsHeldBy (slots t.slot) t.env
first_held slots count place zero t is = cc
first_held slots count place (suc tries) t is = by_hold (slots ((place + 1) % count)) refl (first_held slots count ((place + 1) % count) tries t) is
  where
    by_hold : (o : Option Hold) → slots ((place + 1) % count) ≡ o → (first_turn slots count ((place + 1) % count) tries ≡ Some t → IsHeldBy (slots t.slot) t.env)
        → turn_or ((place + 1) % count) o (first_turn slots count ((place + 1) % count) tries) ≡ Some t → IsHeldBy (slots t.slot) t.env
    by_hold None stands later is = later is
    by_hold (Some hold) stands later is =
        let slot : (place + 1) % count ≡ t.slot = cc in
        let env : hold.holder ≡ t.env = cc in
        (hold, ap slots (sym slot) ∙ stands, env)

-- A whole turn: who runs in it holds the slot at which the cursor is left, and owes nothing; and each environment owes as many less as it forfeits.
record IsTold (slots : ℕ → Option Hold) (excess : ℕ → ℕ) (told : WholeTurn) : Type 0 where
  lands : (t : Turn) → told.runs ≡ Some t → (told.cursor ≡ t.slot) × (told.excess t.env ≡ 0) × IsHeldBy (slots t.slot) t.env
  counts : (e : ℕ) → paid e told.pays + told.excess e ≡ excess e

forfeited : (t : Turn) (excess : ℕ → ℕ) (e : ℕ) → (excess t.env ≡ 0 → ⊥) → (if t.env == e then 1 else 0) + excess_after_forfeit t.env excess e ≡ excess e
forfeited t excess e owes =
    elim (cases_eq e t.env) [
      | inl same ↦ rw (eq-eqb e t.env same, eq-eqb t.env e (sym same), same) (omega (arith, owes))
      | inr other ↦ rw (ne_eqb e t.env other, ne_eqb t.env e (λ same. other (sym same))) (omega arith)
    ]

told_from : (slots : ℕ → Option Hold) (count n cursor : ℕ) (excess : ℕ → ℕ) → IsTold slots excess (turn_from slots count n cursor excess)
told_from slots count zero cursor excess = record { lands = λ t is. cc; counts = λ e. omega arith }
told_from slots count (suc n) cursor excess =
    by_turn (first_turn slots count cursor count) (first_held slots count cursor count) (λ (at : ℕ) (left : ℕ → ℕ). told_from slots count n at left)
  where
    by_turn : (o : Option Turn) → ((t : Turn) → o ≡ Some t → IsHeldBy (slots t.slot) t.env) → ((at : ℕ) (left : ℕ → ℕ) → IsTold slots left (turn_from slots count n at left))
        → IsTold slots excess (turn_within (turn_from slots count n) cursor excess o)
    by_turn None held rest = record { lands = λ t is. cc; counts = λ e. omega arith }
    by_turn (Some t) held rest = by_test (excess t.env == 0) refl (rest t.slot (excess_after_forfeit t.env excess))
      where
        by_test : (b : Bool) → (excess t.env == 0) ≡ b → IsTold slots (excess_after_forfeit t.env excess) (turn_from slots count n t.slot (excess_after_forfeit t.env excess))
            → IsTold slots excess (if b then record { pays = []; runs = Some t; excess = excess; cursor = t.slot } else pays_first t (turn_from slots count n t.slot (excess_after_forfeit t.env excess)))
        by_test true free more = record {
          lands = λ u is. let same : t ≡ u = cc in subst (λ (x : Turn). (t.slot ≡ x.slot) × (excess x.env ≡ 0) × IsHeldBy (slots x.slot) x.env) same (refl, eqb-true (excess t.env) 0 free, held t refl);
          counts = λ e. omega arith;
        }
        by_test false owes more =
            let told = turn_from slots count n t.slot (excess_after_forfeit t.env excess) in
            record {
              lands = more.lands;
              counts = λ e.
                  let first : ℕ = if t.env == e then 1 else 0 in
                  let some = forfeited t excess e (eqb-false (excess t.env) 0 owes) in
                  let others = more.counts e in
                  omega (arith, some, others);
            }

-- the rows of a turn
rows_paid : (e time slot env : ℕ) (turns : List Turn) → pays e (map (pay_row time) turns ++ row.Run time slot env ∷ []) ≡ paid e turns
rows_paid e time slot env [] = refl
rows_paid e time slot env (t ∷ turns) =
    sum_by-cons (λ x. if is_pay_of e x then 1 else 0) (pay_row time t) (map (pay_row time) turns ++ row.Run time slot env ∷ [])
    ∙ ap (λ (n : ℕ). (if t.env == e then 1 else 0) + n) (rows_paid e time slot env turns)

more_paid : (e : ℕ) (before rows : List Row) → pays e (before ++ rows) ≡ pays e before + pays e rows
more_paid e before rows = sum_by-append (λ x. if is_pay_of e x then 1 else 0) before rows

module _ (v : World) where
  unchanged : (e : ℕ) → pays e (v.rows ++ []) + v.book.excess e ≡ pays e v.rows + v.book.excess e
  unchanged e = ap (λ (y : World). pays e y.rows + y.book.excess e) (after_no_change v)

  told : IsTold v.book.slots v.book.excess (whole_turn v.book)
  told = let b = v.book in told_from b.slots b.slot_count (suc (owed b.excess b.slots b.slot_count)) b.cursor b.excess

  taken : v.book.runner ≡ None → (o : Option Turn) → (whole_turn v.book).runs ≡ o → IsTurn v (after v (take_turn v (whole_turn v.book) o))
  taken none None is = record {
    slots = refl;
    runs = λ r some. let never : None ≡ Some r = sym none ∙ some in cc;
    begins = λ r so some. let never : None ≡ Some r = sym none ∙ some in cc;
    paid = unchanged;
  }
  taken none (Some t) is =
      let whole = whole_turn v.book in
      let w = after v (take_turn v whole (Some t)) in
      let lands = told.lands t is in
      let first : Runner = record { env = t.env; left = v.book.quantum; phase = phase.Own } in
      let begun : IsBegun w (record { env = t.env; left = v.book.quantum; phase = phase.Own }) = record {
        hold = lands.2.0;
        slot = ap v.book.slots lands.0 ∙ lands.2.1;
        holds = lands.2.2;
        left = refl;
        phase = refl;
        owes = lands.1;
      } in
      record {
        slots = refl;
        runs = λ r some. let never : None ≡ Some r = sym none ∙ some in cc;
        begins = λ r so some. let same : record { env = t.env; left = v.book.quantum; phase = phase.Own } ≡ r = cc in subst (IsBegun w) same begun;
        paid = λ e.
            let rows = more_paid e v.rows (map (pay_row v.book.time) whole.pays ++ row.Run v.book.time t.slot t.env ∷ []) in
            let here = rows_paid e v.book.time t.slot t.env whole.pays in
            let counts = told.counts e in
            omega (arith, rows, here, counts);
      }

  turned : (o : Option Runner) → v.book.runner ≡ o → IsTurn v (after v (turn_when v o))
  turned None none = taken none (whole_turn v.book).runs refl
  turned (Some r) is = record {
    slots = refl;
    runs = λ x some. after_no_change v;
    begins = λ x none some. let never : None ≡ Some r = sym none ∙ is in cc;
    paid = unchanged;
  }

pub turns_leave : TurnsLeave
turns_leave system t = let v = at_turn system t in subst (IsTurn v) (sym (step_after_turn system t)) (turned v v.book.runner refl)
