-- The timer: the ends of slices and of quanta of grace, and the clock.
use Rattle.std.proofs.Common.{arith, refl, sym, ◌∙◌, ap, subst, ◌≡◌, ◌≤◌, ◌+◌, ◌-◌, inl, ℕ, List, [], ◌∷◌, ◌++◌, append_assoc, Bool, true, false, cond, ◌&&◌, Option, None, Some}
use Rattle.std.specs.Prelude.{◌==◌, not, nat_lt, if◌then◌else◌, count_by}
use Rattle.std.proofs.lemmas.Bool.{cond_both, eq-eqb, ne_eqb, eqb-true, eqb-false, le-leb, ltb-true, ltb-false}
use Rattle.std.proofs.lemmas.List.{append-nil}
use Rattle.std.proofs.lemmas.List.Sums.{sum_by-cons}
use Rattle.kernel_journal.specs.declared.row.Row.{Row}
use Rattle.kernel_journal.specs.declared.row.Row.TheVariants as row
use Rattle.world_model.specs.declared.life.Cause.TheVariants as cause
use Rattle.world_model.specs.declared.life.Life.TheVariants.{Live}
use Rattle.world_model.specs.declared.slot.Phase.{Phase}
use Rattle.world_model.specs.declared.slot.Phase.TheVariants as phase
use Rattle.world_model.specs.declared.slot.Runner.{Runner}
use Rattle.world_model.specs.Table.{set_at}
use Rattle.aegis_limits.specs.Limits.{excess_limit}
use Rattle.world_model.specs.Death.{death, released_rows}
use Rattle.world_model.specs.Item.{End, Killed, absorb}
use Rattle.world_model.specs.SlotCalls.{in_grace}
use Rattle.world_model.specs.Solo.{Solo, dead, is_dead}
use Rattle.world_model.specs.Step.{Dies}
use Rattle.world_model.specs.Tick.{act_reply, clock, count_when, grace_again, grace_of, handles_end, kill, owes_more, timer, timer_reply, with_runner}
use Rattle.world_model.specs.Timer.{timer_at_end}
use Rattle.world_model.specs.declared.timer.Timer.TheVariants as answer
use Rattle.world_model.specs.World.{World, Reply, after, no_change, no_items, only, tells}
use Rattle.run_model.specs.Excess.{IsAccounted, Lives}
use Rattle.run_model.proofs.Phases.{in_turn_is_each}
use Rattle.run_model.proofs.Telling.{told_own}
use Rattle.kernel_journal.specs.RowTable.{time_of}
use Rattle.ledger_audit.specs.LedgerState.{LedgerState, after_row, excess_in, first_state, is_over_by, is_pay_by, limit_by, limit_in, more_if, state_after, state_from}
use Rattle.ledger_audit.specs.RowRules.{are_fit, dies_next, is_by_limit, is_fit, is_fit_by_kind, is_in_time, is_judged, is_own_row, is_runners}
use Rattle.ledger_law.proofs.Told.{Core, From, IsBound, IsRunning, IsTold, Says, SaysRunner, Spares, and_true, by_limit, core, fit_append, from_less, in_time, lives_before, state_append}
use Rattle.ledger_law.proofs.Stepping.{death_bound, death_dead, death_fits, death_says, get_runs, runners_true}

-- The counts of a state are those of its rows.
abbrev weight : Bool → ℕ
weight b = cond b 1 0

count_more : (p : Row → Bool) (r : Row) (rows : List Row) (n : ℕ) → count_by p rows + more_if (p r) n ≡ count_by p (r ∷ rows) + n
count_more p r rows n = sum (p r) refl
  where
    more : count_by p (r ∷ rows) ≡ weight (p r) + count_by p rows
    more = sum_by-cons (λ (x : Row). cond (p x) 1 0) r rows

    sum : (t : Bool) → p r ≡ t → count_by p rows + more_if (p r) n ≡ count_by p (r ∷ rows) + n
    sum true is =
        let one : weight (p r) ≡ 1 = ap weight is in
        let next : more_if (p r) n ≡ n + 1 = ap (λ (b : Bool). more_if b n) is in omega (arith, more, one, next)
    sum false is =
        let none : weight (p r) ≡ 0 = ap weight is in
        let same : more_if (p r) n ≡ n = ap (λ (b : Bool). more_if b n) is in omega (arith, more, none, same)

overs_counted : (e : ℕ) (rows : List Row) (s : LedgerState) → (state_from s rows).overs e ≡ count_by (is_over_by e) rows + s.overs e
overs_counted e [] s = omega arith
overs_counted e (r ∷ rows) s = overs_counted e rows (after_row r s) ∙ count_more (is_over_by e) r rows (s.overs e)

pays_counted : (e : ℕ) (rows : List Row) (s : LedgerState) → (state_from s rows).pays e ≡ count_by (is_pay_by e) rows + s.pays e
pays_counted e [] s = omega arith
pays_counted e (r ∷ rows) s = pays_counted e rows (after_row r s) ∙ count_more (is_pay_by e) r rows (s.pays e)

pub owes : (w : World) → IsAccounted w → Spares w (state_after w.rows) → (e : ℕ) → Lives w e
    → ((state_after w.rows).dead e ≡ false) × ((state_after w.rows).overs e ≡ (state_after w.rows).pays e + w.book.excess e)
owes w accounted spares e lives =
    let balance = accounted.balanced e lives in
    let over = overs_counted e w.rows first_state in
    let pay = pays_counted e w.rows first_state in
    (spares e lives, omega arith)

pub excess_told : (w : World) → IsAccounted w → Spares w (state_after w.rows) → (e : ℕ) → Lives w e → excess_in (state_after w.rows) e ≡ w.book.excess e
excess_told w accounted spares e lives = let is = owes w accounted spares e lives in rw is.0 (omega (arith, is.1))

-- a world with rows behind those of another
pub told_to : (q ahead gap ahead' gap' : ℕ) (w u : World) (rows : List Row) → IsTold q ahead gap 1 w → u.rows ≡ w.rows ++ rows → u.book.time ≡ w.book.time
    → ((end : ℕ) (later : List Row) → w.book.time + 1 ≤ end → From (w.book.time + gap') later → are_fit q end (state_after w.rows) rows later ≡ true)
    → ((later : List Row) → From (w.book.time + gap') later → From (w.book.time + gap) (rows ++ later))
    → Says q ahead' gap' (state_from (state_after w.rows) rows) (core u.book) → IsBound q (core u.book) → Spares u (state_from (state_after w.rows) rows)
    → IsTold q ahead' gap' 1 u
told_to q ahead gap ahead' gap' w u rows told more time fits first says bound spares = record {
  says = subst (λ (s : LedgerState). Says q ahead' gap' s (core u.book)) (sym same) says;
  bound = bound;
  spares = subst (λ (s : LedgerState). Spares u s) (sym same) spares;
  fits = λ end later ends from.
      let at : From (w.book.time + gap') later = subst (λ (n : ℕ). From (n + gap') later) time from in
      let last : w.book.time + 1 ≤ end = omega (arith, time) in
      subst (λ (xs : List Row). are_fit q end first_state xs later ≡ true) (sym more)
      (fit_append q end first_state w.rows rows later (told.fits end (rows ++ later) last (first later at)) (fits end later last at));
}
  where
    same : state_after u.rows ≡ state_from (state_after w.rows) rows
    same = ap state_after more ∙ state_append w.rows rows first_state

no_death : (time e : ℕ) (later : List Row) → From (time + 1) later → dies_next time e later ≡ false
no_death time e [] from = refl
no_death time e (row.Dead t slot who ∷ rows) from = let differs : t ≡ time → ⊥ = λ (same : t ≡ time). omega arith in ap (λ (b : Bool). b && (who == e)) (ne_eqb t time differs)
no_death time e (r ∷ rows) from = refl

module _ (q : ℕ) (w : World) (r : Runner) (is : w.book.runner ≡ Some r) (told : IsTold q 1 0 1 w) (accounted : IsAccounted w) where
  abbrev s : LedgerState
  s = state_after w.rows

  abbrev c : Core
  c = core w.book

  runs : IsRunning q 0 s c.cursor c.time r
  runs = get_runs q 1 0 s c r is told.says

  within : is_by_limit q s c.time s.runner ≡ true
  within = by_limit q 0 s c.cursor c.time (Some r) runs

  now : (end : ℕ) (x : Row) → is_own_row x ≡ false → time_of x ≡ c.time → c.time + 1 ≤ end → is_in_time q end s x ≡ true
  now end x other at ends =
      in_time q end s x (ap (λ (b : Bool). b && s.at_boot) other) (omega (arith, told.says.time)) (omega arith) (subst (λ (n : ℕ). is_by_limit q s n s.runner ≡ true) (sym at) within)

  one : (end : ℕ) (x : Row) (rows later : List Row) → is_in_time q end s x ≡ true → is_fit_by_kind q s x (rows ++ later) ≡ true → are_fit q end (after_row x s) rows later ≡ true
      → are_fit q end s (x ∷ rows) later ≡ true
  one end x rows later time kind rest = and_true (is_fit q end s x (rows ++ later)) (are_fit q end (after_row x s) rows later) (and_true (is_in_time q end s x) (is_fit_by_kind q s x (rows ++ later)) time kind) rest

  mine : is_runners s c.cursor r.env ≡ true
  mine = runners_true q 0 s c.cursor c.time r runs

  bound_with : (runner : Option Runner) (excess : ℕ → ℕ) → ((e : ℕ) → excess e ≤ excess_limit) → IsBound q (core (record w.book { runner = runner; excess = excess }))
  bound_with runner excess modest = record { beyond = told.bound.beyond; within = told.bound.within; most = told.bound.most; same = told.bound.same; least = told.bound.least; modest = modest }

  -- ticks are left
  goes_told : (r.left == 1) ≡ false → IsTold q 1 1 1 (after w (with_runner (record r { left = r.left - 1 }) w))
  goes_told more =
      let reply = with_runner (record r { left = r.left - 1 }) w in
      let some : r.left ≡ 1 → ⊥ = eqb-false r.left 1 more in
      told_to q 1 0 1 1 w (after w reply) [] told refl refl (λ end later ends from. refl) (λ later from. from_less (w.book.time + 0) (w.book.time + 1) later (omega arith) from)
      (record {
        slots = told.says.slots;
        cursor = told.says.cursor;
        time = told.says.time;
        runs = record { runner = runs.runner; place = runs.place; phase = runs.phase; limit = omega (arith, runs.limit, some, runs.left); left = omega (arith, some, runs.left); at_boot = runs.at_boot };
      })
      (bound_with (Some (record r { left = r.left - 1 })) w.book.excess told.bound.modest)
      (λ e lives. told.spares e (lives_before w reply e lives))

  -- the slice is over
  stop_told : IsTold q 1 1 1 (after w (record { book = record w.book { runner = None }; items = no_items; rows = row.Stop w.book.time w.book.cursor r.env ∷ [] }))
  stop_told =
      let x = row.Stop w.book.time w.book.cursor r.env in
      let reply : Reply = record { book = record w.book { runner = None }; items = no_items; rows = x ∷ [] } in
      told_to q 1 0 1 1 w (after w reply) (x ∷ []) told refl refl (λ end later ends from. one end x [] later (now end x refl refl ends) mine refl) (λ later from. omega arith)
      (record { slots = told.says.slots; cursor = inl runs.place; time = omega arith; runs = (refl, refl) })
      (bound_with None w.book.excess told.bound.modest)
      (λ e lives. told.spares e (lives_before w reply e lives))

  last_tick : (r.left == 1) ≡ true → c.time ≡ limit_in q s
  last_tick out = omega (arith, eqb-true r.left 1 out, runs.left, runs.limit)

  -- grace begins, or goes on
  grace_limit : w.book.time + q + 1 ≡ w.book.time + 1 + w.book.quantum
  grace_limit = omega (arith, told.bound.same)

  end_told : (r.left == 1) ≡ true → r.phase ≡ phase.Own
      → IsTold q 1 1 1 (after w (record { book = record w.book { runner = Some (grace_of w r.env) }; items = only r.env (End ∷ []); rows = row.End w.book.time w.book.cursor r.env ∷ [] }))
  end_told out own =
      let x = row.End w.book.time w.book.cursor r.env in
      let reply : Reply = record { book = record w.book { runner = Some (grace_of w r.env) }; items = only r.env (End ∷ []); rows = x ∷ [] } in
      let phased : in_grace s.phase ≡ false = ap in_grace (runs.phase ∙ own) in
      told_to q 1 0 1 1 w (after w reply) (x ∷ []) told refl refl
      (λ end later ends from. one end x [] later (now end x refl refl ends)
      (and_true (is_runners s c.cursor r.env) (not (in_grace s.phase) && (c.time == limit_in q s)) mine
      (and_true (not (in_grace s.phase)) (c.time == limit_in q s) (ap not phased) (eq-eqb c.time (limit_in q s) (last_tick out)))) refl)
      (λ later from. omega arith)
      (record {
        slots = told.says.slots;
        cursor = inl runs.place;
        time = omega arith;
        runs = record { runner = runs.runner; place = runs.place; phase = refl; limit = grace_limit; left = omega (arith, told.bound.same, told.bound.least); at_boot = refl };
      })
      (bound_with (Some (grace_of w r.env)) w.book.excess told.bound.modest)
      (λ e lives. told.spares e (lives_before w reply e lives))

  -- A quantum of grace is over.
  abbrev more : ℕ → ℕ
  more = set_at r.env (w.book.excess r.env + 1) w.book.excess

  abbrev x : Row
  x = row.Over w.book.time w.book.cursor r.env (w.book.excess r.env + 1)

  over_kind : (r.left == 1) ≡ true → r.phase ≡ phase.Grace → (later : List Row) → is_judged c.time r.env (w.book.excess r.env + 1) later ≡ true → is_fit_by_kind q s x later ≡ true
  over_kind out grace later judged =
      let excess = w.book.excess r.env + 1 in
      let owed : excess ≡ excess_in s r.env + 1 = ap (λ (n : ℕ). n + 1) (sym (excess_told w accounted told.spares r.env (accounted.runner_lives r is))) in
      and_true (is_runners s c.cursor r.env) (in_grace s.phase && ((c.time == limit_in q s) && ((excess == excess_in s r.env + 1) && is_judged c.time r.env excess later))) mine
      (and_true (in_grace s.phase) ((c.time == limit_in q s) && ((excess == excess_in s r.env + 1) && is_judged c.time r.env excess later)) (ap in_grace (runs.phase ∙ grace))
      (and_true (c.time == limit_in q s) ((excess == excess_in s r.env + 1) && is_judged c.time r.env excess later) (eq-eqb c.time (limit_in q s) (last_tick out))
      (and_true (excess == excess_in s r.env + 1) (is_judged c.time r.env excess later) (eq-eqb excess (excess_in s r.env + 1) owed) judged)))

  spared_grace : nat_lt excess_limit (w.book.excess r.env + 1) ≡ false → (later : List Row) → From (c.time + 1) later → is_judged c.time r.env (w.book.excess r.env + 1) later ≡ true
  spared_grace few later from =
      let low = ltb-false excess_limit (w.book.excess r.env + 1) few in
      let other : (w.book.excess r.env + 1 == excess_limit + 1) ≡ false = ne_eqb (w.book.excess r.env + 1) (excess_limit + 1) (λ (same : w.book.excess r.env + 1 ≡ excess_limit + 1). omega arith) in
      rw other (ap not (no_death c.time r.env later from))

  last_grace : nat_lt excess_limit (w.book.excess r.env + 1) ≡ true → (rows : List Row) → is_judged c.time r.env (w.book.excess r.env + 1) (row.Dead c.time c.cursor r.env ∷ rows) ≡ true
  last_grace many rows =
      let high = ltb-true excess_limit (w.book.excess r.env + 1) many in
      let low = told.bound.modest r.env in
      let same : (w.book.excess r.env + 1 == excess_limit + 1) ≡ true = eq-eqb (w.book.excess r.env + 1) (excess_limit + 1) (omega arith) in
      rw same (and_true (c.time == c.time) (r.env == r.env) (eq-eqb c.time c.time refl) (eq-eqb r.env r.env refl))

  more_modest : (w.book.excess r.env + 1 ≤ excess_limit) → (e : ℕ) → more e ≤ excess_limit
  more_modest low e = by_test (e == r.env)
    where
      by_test : (b : Bool) → (if b then w.book.excess r.env + 1 else w.book.excess e) ≤ excess_limit
      by_test true = low
      by_test false = told.bound.modest e

  over_told : (r.left == 1) ≡ true → r.phase ≡ phase.Grace → nat_lt excess_limit (w.book.excess r.env + 1) ≡ false
      → (let v = after w (owes_more r.env w) in IsTold q 1 1 1 (after v (with_runner (grace_of v r.env) v)))
  over_told out grace few =
      let v = after w (owes_more r.env w) in
      let u = after v (with_runner (grace_of v r.env) v) in
      told_to q 1 0 1 1 w u (x ∷ []) told (append-nil (w.rows ++ x ∷ [])) refl
      (λ end later ends from. one end x [] later (now end x refl refl ends) (over_kind out grace later (spared_grace few later from)) refl)
      (λ later from. omega arith)
      (record {
        slots = told.says.slots;
        cursor = inl runs.place;
        time = omega arith;
        runs = record { runner = runs.runner; place = runs.place; phase = runs.phase ∙ grace; limit = over_limit (runs.phase ∙ grace); left = omega (arith, told.bound.same, told.bound.least); at_boot = refl };
      })
      (bound_with (Some (grace_of v r.env)) more (more_modest (ltb-false excess_limit (w.book.excess r.env + 1) few)))
      (λ e lives. told.spares e (lives_before w (owes_more r.env w) e (lives_before v (with_runner (grace_of v r.env) v) e lives)))
    where
      over_limit : s.phase ≡ phase.Grace → limit_in q (after_row x s) + 1 ≡ w.book.time + 1 + w.book.quantum
      over_limit graced = ap (λ (p : Phase). limit_by q s.slice_start w.book.time p + 1) graced ∙ grace_limit

  killed_not : (solo : Solo) → (absorb solo Killed).life ≡ Live → ⊥
  killed_not solo =
      cond_both (is_dead solo.life) solo (dead cause.Excess solo) (λ (t : Solo). t.life ≡ Live → ⊥)
      (λ gone lives. let never : true ≡ false = sym gone ∙ ap is_dead lives in cc) (λ alive lives. cc)

  kill_told : (r.left == 1) ≡ true → r.phase ≡ phase.Grace → nat_lt excess_limit (w.book.excess r.env + 1) ≡ true
      → (let v = after w (owes_more r.env w) in let t = after v (tells r.env Killed v) in IsTold q 1 1 1 (after t (death t r.env)))
  kill_told out grace many =
      let e = r.env in
      let v = after w (owes_more e w) in
      let t = after v (tells e Killed v) in
      let u = after t (death t e) in
      let y = after_row x s in
      let d = (death t e).rows in
      let graced : is_runners y c.cursor e ≡ true = mine in
      told_to q 1 0 1 1 w u (x ∷ d) told (ap (λ (xs : List Row). xs ++ d) (append-nil (w.rows ++ x ∷ [])) ∙ append_assoc w.rows (x ∷ []) d) refl
      (λ end later ends from. one end x d later (now end x refl refl ends) (over_kind out grace (d ++ later) (last_grace many (released_rows c.time e w.book.slots w.book.slot_count ++ later)))
      (death_fits q t e y told.says.slots told.bound.beyond told.bound.most graced end later (in_time q end y (row.Dead c.time c.cursor e) refl (omega arith) (omega arith) (limits (runs.phase ∙ grace))) ends))
      (λ later from. omega arith)
      (death_says q 1 t e y told.says.slots told.bound.beyond told.bound.most runs.place)
      (death_bound q t e buried told.bound.beyond told.bound.within told.bound.most told.bound.same told.bound.least)
      (λ i lives.
      let at = lives_before t (death t e) i lives in
      let early = lives_before w (owes_more e w) i (lives_before v (tells e Killed v) i at) in
      death_dead q t e y told.says.slots told.bound.beyond told.bound.most i (λ (same : i ≡ e). killed_not (v.solos e) (subst (λ (solo : Solo). solo.life ≡ Live) (told_own v e Killed) (subst (Lives t) same at))) (told.spares i early))
    where
      y_limit : s.phase ≡ phase.Grace → limit_in q (after_row x s) ≡ w.book.time + q
      y_limit graced = ap (λ (p : Phase). limit_by q s.slice_start w.book.time p) graced

      limits : s.phase ≡ phase.Grace → is_by_limit q (after_row x s) c.time (after_row x s).runner ≡ true
      limits graced = rw runs.runner (le-leb c.time (limit_in q (after_row x s)) (omega (arith, y_limit graced)))

      buried : (i : ℕ) → set_at r.env 0 more i ≤ excess_limit
      buried i = by_test (i == r.env)
        where
          by_test : (b : Bool) → (if b then 0 else (if b then w.book.excess r.env + 1 else w.book.excess i)) ≤ excess_limit
          by_test true = omega arith
          by_test false = told.bound.modest i

  -- by what the timer answers
  answer_told : (last : Bool) → (r.left == 1) ≡ last
      → IsTold q 1 1 1 (after w (timer_reply r (if last then timer_at_end r.phase (handles_end w r.env) (w.book.excess r.env) else answer.Nothing) w))
  answer_told false more = goes_told more
  answer_told true out = by_phase r.phase refl
    where
      by_handler : r.phase ≡ phase.Own → (has : Bool) → IsTold q 1 1 1 (after w (timer_reply r (timer_at_end phase.Own has (w.book.excess r.env)) w))
      by_handler own true = end_told out own
      by_handler own false = stop_told

      by_excess : r.phase ≡ phase.Grace → (over : Bool) → nat_lt excess_limit (w.book.excess r.env + 1) ≡ over
          → IsTold q 1 1 1 (after w (timer_reply r (if over then answer.Kill else answer.Over (w.book.excess r.env + 1)) w))
      by_excess grace true many =
          let v = after w (owes_more r.env w) in
          subst (IsTold q 1 1 1) (sym (in_turn_is_each w (owes_more r.env ∷ kill r.env ∷ [])))
          (subst (IsTold q 1 1 1) (sym (in_turn_is_each v (tells r.env Killed ∷ act_reply r.env (Dies cause.Excess) ∷ []))) (kill_told out grace many))
      by_excess grace false few =
          subst (IsTold q 1 1 1) (sym (in_turn_is_each w (owes_more r.env ∷ grace_again r.env ∷ []))) (over_told out grace few)

      by_phase : (p : Phase) → r.phase ≡ p → IsTold q 1 1 1 (after w (timer_reply r (timer_at_end p (handles_end w r.env) (w.book.excess r.env)) w))
      by_phase phase.Own own = by_handler own (handles_end w r.env)
      by_phase phase.Grace grace = by_excess grace (nat_lt excess_limit (w.book.excess r.env + 1)) refl

  pub count_some : IsTold q 1 1 1 (after w (count_when (Some r) w))
  count_some = answer_told (r.left == 1) refl

-- where nobody runs
count_none : (q : ℕ) (w : World) → w.book.runner ≡ None → IsTold q 1 0 1 w → IsTold q 1 1 1 (after w (no_change w))
count_none q w is told =
    let s = state_after w.rows in
    let c = core w.book in
    let runs : SaysRunner q 1 0 s c.cursor c.time None = subst (λ (o : Option Runner). SaysRunner q 1 0 s c.cursor c.time o) is told.says.runs in
    told_to q 1 0 1 1 w (after w (no_change w)) [] told refl refl (λ end later ends from. refl) (λ later from. from_less (w.book.time + 0) (w.book.time + 1) later (omega arith) from)
    (record { slots = told.says.slots; cursor = told.says.cursor; time = told.says.time; runs = subst (λ (o : Option Runner). SaysRunner q 1 1 s c.cursor c.time o) (sym is) runs })
    told.bound told.spares

count_told : (q : ℕ) (w : World) → IsTold q 1 0 1 w → IsAccounted w → (o : Option Runner) → w.book.runner ≡ o → IsTold q 1 1 1 (after w (count_when o w))
count_told q w told accounted None is = count_none q w is told
count_told q w told accounted (Some r) is = count_some q w r is told accounted

-- the clock
next_runs : (q : ℕ) (s : LedgerState) (cursor time : ℕ) (o : Option Runner) → SaysRunner q 1 1 s cursor time o → SaysRunner q 0 0 s cursor (time + 1) o
next_runs q s cursor time None (nobody, turn) = (nobody, omega arith)
next_runs q s cursor time (Some r) runs =
    record { runner = runs.runner; place = runs.place; phase = runs.phase; limit = omega (arith, runs.limit); left = runs.left; at_boot = runs.at_boot }

clock_told : (q : ℕ) (w : World) → IsTold q 1 1 1 w → IsTold q 0 0 0 (after w (clock w))
clock_told q w told =
    let s = state_after w.rows in
    let same : w.rows ++ [] ≡ w.rows = append-nil w.rows in
    record {
      says = subst (λ (rows : List Row). Says q 0 0 (state_after rows) (core (clock w).book)) (sym same)
          (record { slots = told.says.slots; cursor = told.says.cursor; time = omega (arith, told.says.time); runs = next_runs q s w.book.cursor w.book.time w.book.runner told.says.runs });
      bound = record { beyond = told.bound.beyond; within = told.bound.within; most = told.bound.most; same = told.bound.same; least = told.bound.least; modest = told.bound.modest };
      spares = λ e lives. subst (λ (rows : List Row). (state_after rows).dead e ≡ false) (sym same) (told.spares e (lives_before w (clock w) e lives));
      fits = λ end later ends from.
          subst (λ (rows : List Row). are_fit q end first_state rows later ≡ true) (sym same) (told.fits end later (omega arith) (from_less (w.book.time + 1) (w.book.time + 1 + 0) later (omega arith) from));
    }

pub timer_told : (q : ℕ) (w : World) → IsTold q 1 0 1 w → IsAccounted w → IsTold q 0 0 0 (after w (timer w))
timer_told q w told accounted =
    let v = after w (count_when w.book.runner w) in
    subst (IsTold q 0 0 0) (sym (in_turn_is_each w (count_when w.book.runner ∷ clock ∷ []))) (clock_told q v (count_told q w told accounted w.book.runner refl))
