-- The end of a ledger.
use Rattle.std.proofs.Common.{arith, refl, sym, ◌∙◌, ap, subst, ◌≡◌, ◌<◌, ◌≤◌, ◌⊎◌, inl, inr, ℕ, Bool, true, false, Option, None, Some}
use Rattle.std.specs.Prelude.{◌==◌, if◌then◌else◌, is_none}
use Rattle.std.proofs.lemmas.Bool.{and_parts, cases_lt, cond_both, eq-eqb, le-leb}
use Rattle.aegis_limits.specs.Limits.{most_slots}
use Rattle.world_model.specs.declared.slot.Runner.{Runner}
use Rattle.world_model.specs.declared.slot.Turn.{Turn}
use Rattle.world_model.specs.Book.{Book, is_idle_book, next_held_turn}
use Rattle.world_model.specs.World.{World}
use Rattle.call_verdicts.specs.Granted.{GrantedMay}
use Rattle.run_model.specs.Boot.{boot_world}
use Rattle.run_model.specs.Excess.{TurnsGoByRule}
use Rattle.run_model.specs.NextTurn.{IsNextTurn}
use Rattle.run_model.specs.Run.{System, TimeIsTick, end_of_run, world_after}
use Rattle.run_model.proofs.Balance.{boots_accounted}
use Rattle.ledger_audit.specs.LedgerState.{LedgerState, limit_in, state_after}
use Rattle.ledger_audit.specs.RowRules.{are_empty, is_empty_slot, is_end}
use Rattle.ledger_law.specs.LedgerLaw.{EndFits, says_idle}
use Rattle.ledger_law.proofs.Told.{Core, IsTold, SaysRunner, and_true, core}
use Rattle.ledger_law.proofs.Turning.{all_true}
use Rattle.ledger_law.proofs.Stepping.{get_runs}
use Rattle.ledger_law.proofs.Ticks.{NextIs, run_told}
use Rattle.ledger_law.proofs.Booting.{boot_told, core_kept}

-- A board that is busy has made a tick each time.
busy_time : TimeIsTick → (system : System) (t : ℕ) → ((world_after system t).book.time ≡ t) ⊎ (is_idle_book (world_after system t).book ≡ true)
busy_time timed system t = by_idle (is_idle_book w.book) refl
  where
    w : World
    w = world_after system t

    by_idle : (idle : Bool) → is_idle_book w.book ≡ idle → (w.book.time ≡ t) ⊎ (is_idle_book w.book ≡ true)
    by_idle true idle = inr idle
    by_idle false busy = inl (timed system.schedule (boot_world system.image) t (ap (λ (c : Core). c.time) (core_kept 0 system.image.programs _)) busy)

all_empty : (s : LedgerState) → ((k : ℕ) → s.slots k ≡ None) → are_empty s ≡ true
unfolding are_empty
all_empty s empty = all_true most_slots (is_empty_slot s) (λ k less. ap is_none (empty k))

no_next : (o : Option Turn) → is_none o ≡ true → o ≡ None
no_next None is = refl
no_next (Some t) is = cc

idle_slots : NextIs → (b : Book) → b.cursor < b.slot_count → ((k : ℕ) → b.slot_count ≤ k → b.slots k ≡ None) → is_idle_book b ≡ true → (k : ℕ) → b.slots k ≡ None
idle_slots next b within beyond idle k =
    let none = no_next (next_held_turn b) (and_parts (is_none b.runner) (is_none (next_held_turn b)) idle).1 in
    let empty : IsNextTurn b None = subst (IsNextTurn b) none (next b within) in
    elim (cases_lt k b.slot_count) [ inl there ↦ empty k there | inr past ↦ beyond k past ]

pub end_fits : TimeIsTick → GrantedMay → NextIs → TurnsGoByRule → EndFits
end_fits timed granted next goes system limit accepted = by_runner w.book.runner refl
  where
    w : World
    w = world_after system limit

    q : ℕ
    q = system.image.quantum

    s : LedgerState
    s = state_after w.rows

    told : IsTold q 0 0 0 w
    told = run_told granted next goes q system.schedule (boot_world system.image) (boots_accounted system.image) (boot_told system.image accepted) limit

    by_runner : (o : Option Runner) → w.book.runner ≡ o → is_end q (says_idle (end_of_run w limit)) w.book.time s ≡ true
    by_runner (Some r) is =
        let runs = get_runs q 0 0 s (core w.book) r is told.says in
        let ended : (w.book.time == limit) ≡ true = at_limit r is (busy_time timed system limit) in
        rw (runs.runner, ended) (le-leb w.book.time (limit_in q s) (omega (arith, runs.limit, runs.left)))
      where
        at_limit : (r : Runner) → w.book.runner ≡ Some r → (w.book.time ≡ limit) ⊎ (is_idle_book w.book ≡ true) → (w.book.time == limit) ≡ true
        at_limit r is (inl same) = eq-eqb w.book.time limit same
        at_limit r is (inr idle) =
            let none : is_none w.book.runner ≡ true = (and_parts (is_none w.book.runner) (is_none (next_held_turn w.book)) idle).0 in
            let never : false ≡ true = sym (ap is_none is) ∙ none in cc
    by_runner None is =
        let idle_told : SaysRunner q 0 0 s w.book.cursor w.book.time None = subst (λ (o : Option Runner). SaysRunner q 0 0 s w.book.cursor w.book.time o) is told.says.runs in
        rw idle_told.0 (and_true (w.book.time == s.turn) (if says_idle (end_of_run w limit) then are_empty s else true)
        (eq-eqb w.book.time s.turn (omega (arith, idle_told.1))) (by_end (busy_time timed system limit)))
      where
        by_end : (w.book.time ≡ limit) ⊎ (is_idle_book w.book ≡ true) → (if says_idle (end_of_run w limit) then are_empty s else true) ≡ true
        by_end (inl same) = rw (eq-eqb w.book.time limit same) refl
        by_end (inr idle) =
            let empty : are_empty s ≡ true = all_empty s (λ k. ap (λ (f : ℕ → _). f k) told.says.slots ∙ idle_slots next w.book told.bound.within told.bound.beyond idle k) in
            cond_both (says_idle (end_of_run w limit)) (are_empty s) true (λ (b : Bool). b ≡ true) (λ ends. empty) (λ goes. refl)
