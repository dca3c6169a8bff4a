-- Turns come in runs.
use Rattle.std.proofs.Common.{arith, refl, sym, ◌∙◌, ap, subst, ◌≡◌, ◌<◌, ◌≤◌, ◌+◌, inl, inr, ℕ, zero, suc, true, false, Option, None, Some}
use Rattle.std.specs.Prelude.{◌*◌, ◌==◌, is_none}
use Rattle.std.proofs.lemmas.Bool.{and_parts, cases_lt, eq-eqb, eqb-true}
use Rattle.std.proofs.lemmas.Nat.{mul-le}
use Rattle.boot_image.specs.Accepted.{IsAccepted}
use Rattle.world_model.specs.declared.hold.Hold.{Hold}
use Rattle.world_model.specs.Book.{is_idle_book, next_held_turn}
use Rattle.world_model.specs.SlotCalls.{holds}
use Rattle.world_model.specs.World.{World}
use Rattle.call_verdicts.specs.Granted.{GrantedMay}
use Rattle.run_model.specs.Boot.{boot_world}
use Rattle.run_model.specs.Excess.{Lives, TurnsGoByRule}
use Rattle.run_model.specs.NextTurn.{IsNextTurn}
use Rattle.run_model.specs.Run.{System, TimeIsTick, end_of_run, world_after}
use Rattle.run_model.proofs.Balance.{boots_accounted, ticks_keep_accounts}
use Rattle.ledger_audit.specs.LedgerState.{LedgerState, excess_in}
use Rattle.ledger_audit.specs.RowRules.{is_number}
use Rattle.ledger_law.specs.LedgerLaw.{EndFits, RowsFit, says_idle}
use Rattle.ledger_law.specs.Telling.{LedgerTells}
use Rattle.ledger_law.proofs.Told.{IsTold}
use Rattle.ledger_law.proofs.Tells.{told_after}
use Rattle.ledger_law.proofs.Ticks.{NextIs}
use Rattle.turn_law.specs.Ticks.{state_before}
use Rattle.turn_law.specs.TurnLaw.{HoldsSlot, StepsBetween, TurnsCome, longest_turn, turn_bound}
use Rattle.runner_law.specs.RunnerLaw.{StatesAreTold, StepsAreTold, StepsWithin, TurnsComeInRuns}
use Rattle.runner_law.proofs.Shape.{is_tick}
use Rattle.runner_law.proofs.Telling.{busy_time, idle_next, is_or_not, no_turn}

held_by_whom : (e : ℕ) (o : Option Hold) → holds e o ≡ true → (h : Hold) × (o ≡ Some h) × ((h.holder == e) ≡ true)
held_by_whom e None is = cc
held_by_whom e (Some h) is = (h, refl, is)

module _ (granted : GrantedMay) (next : NextIs) (goes : TurnsGoByRule) (timed : TimeIsTick) (fit : RowsFit) (system : System) (accepted : IsAccepted system.image) where
  abbrev world : ℕ → World
  world t = world_after system t

  told : (t : ℕ) → IsTold system.image.quantum 0 0 0 (world t)
  told t = told_after granted next goes system t accepted

  -- the slot that is held is one of the vector, and the board is busy
  inside : (t slot e : ℕ) → holds e ((world t).book.slots slot) ≡ true → slot < (world t).book.slot_count
  inside t slot e held =
      elim (cases_lt slot (world t).book.slot_count) [
        | inl below ↦ below
        | inr past ↦ let never : false ≡ true = sym (ap (holds e) ((told t).bound.beyond slot past)) ∙ held in cc
      ]

  is_busy : (t slot e : ℕ) → holds e ((world t).book.slots slot) ≡ true → is_idle_book (world t).book ≡ false
  is_busy t slot e held =
      elim (is_or_not (is_idle_book (world t).book)) [
        | inl idle ↦
            let b = (world t).book in
            let none = no_turn (next_held_turn b) (and_parts (is_none b.runner) (is_none (next_held_turn b)) idle).1 in
            let empty : IsNextTurn b None = subst (IsNextTurn b) none (next b (told t).bound.within) in
            let never : false ≡ true = sym (ap (holds e) (empty slot (inside t slot e held))) ∙ held in cc
        | inr busy ↦ busy
      ]

  -- the slots are as many in each tick
  count_is : (t : ℕ) → (world t).book.slot_count ≡ (world 0).book.slot_count
  count_is zero = refl
  count_is (suc t) =
      elim (is_or_not (is_idle_book (world t).book)) [
        | inl idle ↦ ap (λ (w : World). w.book.slot_count) (idle_next system t idle) ∙ count_is t
        | inr busy ↦ (is_tick granted next goes system t accepted busy).count ∙ count_is t
      ]

  -- so many ticks have been made
  time_is : (slot e t n : ℕ) → t < n → ((u : ℕ) → t ≤ u → u < n → holds e ((world u).book.slots slot) ≡ true) → (world n).book.time ≡ n
  time_is slot e t zero less holding = absurd (omega (arith, less))
  time_is slot e t (suc n) less holding =
      let runs = is_busy n slot e (holding n (omega (arith, less)) (omega arith)) in
      let was = busy_time granted next goes timed fit system accepted n runs in
      let more = (is_tick granted next goes system n accepted runs).time in
      omega (arith, was, more)

  bound_past : (t count owed : ℕ) → 1 ≤ count → t < turn_bound system.image.quantum count owed t
  bound_past t count owed some =
      let q = system.image.quantum in
      let rounds = mul-le 1 1 count (owed + 1) some (omega arith) in
      let turns = mul-le 1 1 (longest_turn q) (count * (owed + 1)) (omega (arith, accepted.quantum_least)) (omega (arith, rounds)) in
      omega (arith, turns)

  owed_is : LedgerTells → StatesAreTold → (slot e t later : ℕ) → t ≤ later → holds e ((world t).book.slots slot) ≡ true → excess_in (state_before t (world later).rows) e ≡ (world t).book.excess e
  owed_is tells states slot e t later less held =
      let hold = held_by_whom e ((world t).book.slots slot) held in
      let accounted = ticks_keep_accounts granted system.schedule (boot_world system.image) (boots_accounted system.image) t in
      let lives : Lives (world t) e = subst (Lives (world t)) (eqb-true hold.0.holder e hold.2) (accounted.slots_live slot hold.0 hold.1).1 in
      ap (λ (s : LedgerState). excess_in s e) (states system t later accepted less) ∙ (tells system t accepted).excess e lives

  holding_is : LedgerTells → StatesAreTold → (slot e t later : ℕ) → t ≤ later → (count : ℕ) → count ≡ (world t).book.slot_count → holds e ((world t).book.slots slot) ≡ true → HoldsSlot (world later).rows count slot e t
  holding_is tells states slot e t later less count is held =
      let slots : (state_before t (world later).rows).slots ≡ (world t).book.slots = ap (λ (s : LedgerState). s.slots) (states system t later accepted less) ∙ (tells system t accepted).slots in
      record {
        held = ap (λ (f : ℕ → Option Hold). holds e (f slot)) slots ∙ held;
        beyond = λ k past. ap (λ (f : ℕ → Option Hold). f k) slots ∙ (told t).bound.beyond k (omega (arith, past, is));
      }

  -- what the rows name is a step
  steps_of : StepsAreTold → (e t before : ℕ) → StepsBetween (world before).rows e t before → StepsWithin system e t before
  steps_of steps e t before found = record {
    tick = found.tick;
    since = found.since;
    until = found.until;
    steps = steps system found.tick before e accepted found.until ∙ ap (is_number e) found.runs ∙ eq-eqb e e refl;
  }

  comes : EndFits → LedgerTells → StatesAreTold → StepsAreTold → TurnsCome → (slot e t : ℕ) → (let b = (world t).book in let before = turn_bound system.image.quantum b.slot_count (b.excess e) t in
      ((u : ℕ) → t ≤ u → u < before → holds e ((world u).book.slots slot) ≡ true) → StepsWithin system e t before)
  comes ended tells states steps come slot e t holding =
      let q = system.image.quantum in
      let b = (world t).book in
      let before = turn_bound q b.slot_count (b.excess e) t in
      let rows = (world before).rows in
      let past : t < before = bound_past t b.slot_count (b.excess e) (omega (arith, (told t).bound.within)) in
      let held = holding t (omega arith) past in
      let owed = owed_is tells states slot e t before (omega (arith, past)) held in
      let same : turn_bound q b.slot_count (excess_in (state_before t rows) e) t ≡ before = ap (λ (n : ℕ). turn_bound q b.slot_count n t) owed in
      let time = time_is slot e t before past holding in
      let ends : before ≤ (world before).book.time = subst (λ (n : ℕ). before ≤ n) (sym time) (omega arith) in
      let found : StepsBetween rows e t (turn_bound q b.slot_count (excess_in (state_before t rows) e) t) =
      come q (world before).book.time b.slot_count slot e t (says_idle (end_of_run (world before) before)) rows (omega (arith, accepted.quantum_least)) (told t).bound.most (inside t slot e held)
      (record { fit = fit system before accepted; ended = ended system before accepted })
      (subst (λ (n : ℕ). n ≤ (world before).book.time) (sym same) ends)
      (λ u since until.
      let until : u < before = subst (λ (n : ℕ). u < n) same until in
      holding_is tells states slot e u before (omega (arith, until)) b.slot_count (count_is t ∙ sym (count_is u)) (holding u since until)) in
      steps_of steps e t before (subst (λ (n : ℕ). StepsBetween rows e t n) same found)

pub turns_come_in_runs : GrantedMay → NextIs → TurnsGoByRule → TimeIsTick → RowsFit → EndFits → LedgerTells → StatesAreTold → StepsAreTold → TurnsCome → TurnsComeInRuns
turns_come_in_runs granted next goes timed fit ended tells states steps come system slot e t accepted holding =
    comes granted next goes timed fit system accepted ended tells states steps come slot e t holding
