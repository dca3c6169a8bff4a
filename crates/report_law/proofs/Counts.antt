-- What rows that fit bound: their times, and how many of them are runs, pays and overs of an environment.
use Rattle.std.proofs.Common.{arith, refl, sym, ◌∙◌, ap, subst, ◌≡◌, ◌<◌, ◌≤◌, ◌+◌, ◌-◌, ℕ, List, [], ◌∷◌, ◌++◌, Bool, true, false, ◌&&◌, Option, None, Some}
use Rattle.std.specs.Prelude.{◌==◌, not, count_by, is_none, nat_le, nat_lt, if◌then◌else◌}
use Rattle.std.specs.List.{AllByRecursion}
use Rattle.std.proofs.lemmas.Bool.{and_parts, eqb-true, leb-true, ltb-true}
use Rattle.std.proofs.lemmas.List.Sums.{sum_by-cons}
use Rattle.kernel_journal.specs.declared.row.Row.{Row}
use Rattle.kernel_journal.specs.declared.row.Row.TheVariants as row
use Rattle.world_model.specs.declared.slot.Phase.{Phase}
use Rattle.world_model.specs.declared.slot.Phase.TheVariants as phase
use Rattle.world_model.specs.SlotCalls.{holds, in_grace}
use Rattle.run_model.specs.Excess.{is_over_of, is_pay_of, is_run_of}
use Rattle.kernel_journal.specs.RowTable.{time_of}
use Rattle.ledger_audit.specs.LedgerState.{LedgerState, after_row, excess_in, first_state, is_over_by, is_pay_by, is_run_by, limit_by, limit_in, more_if, state_from}
use Rattle.ledger_audit.specs.RowRules.{are_fit, are_passed, is_by_limit, is_fit, is_fit_by_kind, is_gift, is_in_time, is_judged, is_next, is_number, is_own_row, is_runners}

-- how many slices have begun at most
abbrev pub started : Option ℕ → ℕ → ℕ → ℕ
started None turn time = turn
started (Some e) turn time = time + 1

pub record IsCounted (end : ℕ) (s : LedgerState) : Type 0 where
  pub runs : (e : ℕ) → s.runs e ≤ started s.runner s.turn s.time
  pub pays : (e : ℕ) → s.pays e ≤ s.overs e
  pub overs : (e : ℕ) → s.overs e ≤ s.grace_start
  pub grace : s.grace_start ≤ s.time
  pub turn : s.turn ≤ s.time + 1
  pub boot : s.at_boot ≡ true → s.time ≡ 0
  pub within : s.time ≤ end

later : (o : Option ℕ) (turn time new n : ℕ) → time ≤ new → n ≤ started o turn time → n ≤ started o turn new
later None turn time new n less few = few
later (Some e) turn time new n less few = omega (arith, less, few)

somebody : (e : ℕ) (o : Option ℕ) (turn time n : ℕ) → is_number e o ≡ true → n ≤ started o turn time → n ≤ time + 1
somebody e None turn time n is few = cc
somebody e (Some who) turn time n is few = few

nobody : (o : Option ℕ) (turn time n : ℕ) → is_none o ≡ true → n ≤ started o turn time → n ≤ turn
nobody None turn time n is few = few
nobody (Some who) turn time n is few = cc

more_most : (b : Bool) (n m : ℕ) → n + 1 ≤ m → more_if b n ≤ m
more_most true n m less = less
more_most false n m less = omega (arith, less)

-- a row's time
record IsTimely (end : ℕ) (s : LedgerState) (r : Row) : Type 0 where
  rises : s.time ≤ time_of r
  ends : time_of r ≤ end
  boot : is_own_row r ≡ true → s.at_boot ≡ true → time_of r ≡ 0

timely : (q end : ℕ) (s : LedgerState) (r : Row) → IsCounted end s → is_in_time q end s r ≡ true → IsTimely end s r
timely q end s r counted is = by_boot (is_own_row r && s.at_boot) refl is
  where
    by_boot : (b : Bool) → (is_own_row r && s.at_boot) ≡ b
        → (if b then time_of r == 0 else nat_le s.time (time_of r) && (nat_lt (time_of r) end && is_by_limit q s (time_of r) s.runner)) ≡ true → IsTimely end s r
    by_boot true at is =
        let none = eqb-true (time_of r) 0 is in
        let booted = counted.boot (and_parts (is_own_row r) s.at_boot at).1 in
        record { rises = omega (arith, booted); ends = omega (arith, none); boot = λ own at_boot. none }
    by_boot false at is =
        let parts = and_parts (nat_le s.time (time_of r)) (nat_lt (time_of r) end && is_by_limit q s (time_of r) s.runner) is in
        let before = ltb-true (time_of r) end (and_parts (nat_lt (time_of r) end) (is_by_limit q s (time_of r) s.runner) parts.1).0 in
        record {
          rises = leb-true s.time (time_of r) parts.0;
          ends = omega (arith, before);
          boot = λ own at_boot. let never : true ≡ false = sym (own_boot own at_boot) ∙ at in cc;
        }
      where
        own_boot : is_own_row r ≡ true → s.at_boot ≡ true → (is_own_row r && s.at_boot) ≡ true
        own_boot own at_boot = rw (own, at_boot) refl

-- a runner's row, and a turn
runs_it : (s : LedgerState) (slot e : ℕ) (rest : Bool) → (is_runners s slot e && rest) ≡ true → is_number e s.runner ≡ true
runs_it s slot e rest is = (and_parts (is_number e s.runner) (slot == s.cursor) (and_parts (is_runners s slot e) rest is).0).0

free_turn : (s : LedgerState) (t slot e : ℕ) (rest : Bool) → (is_next s t slot e && rest) ≡ true → (is_none s.runner ≡ true) × (t ≡ s.turn)
free_turn s t slot e rest is =
    let next = and_parts (is_none s.runner) ((t == s.turn) && (not (s.dead e) && (holds e (s.slots slot) && are_passed s slot))) (and_parts (is_next s t slot e) rest is).0 in
    (next.0, eqb-true t s.turn (and_parts (t == s.turn) (not (s.dead e) && (holds e (s.slots slot) && are_passed s slot)) next.1).0)

graced : (q : ℕ) (s : LedgerState) → in_grace s.phase ≡ true → limit_in q s ≡ s.grace_start + q
graced q s is = by_phase s.phase is
  where
    by_phase : (p : Phase) → in_grace p ≡ true → limit_by q s.slice_start s.grace_start p ≡ s.grace_start + q
    by_phase phase.Own is = cc
    by_phase phase.Grace is = refl

pays_once : (s : LedgerState) (e : ℕ) → nat_lt 0 (excess_in s e) ≡ true → s.pays e + 1 ≤ s.overs e
pays_once s e is = by_life (s.dead e) (ltb-true 0 (excess_in s e) is)
  where
    by_life : (b : Bool) → 0 < (if b then 0 else s.overs e - s.pays e) → s.pays e + 1 ≤ s.overs e
    by_life true some = absurd (omega (arith, some))
    by_life false some = omega (arith, some)

more_pays : (s : LedgerState) (who e : ℕ) → s.pays who + 1 ≤ s.overs who → s.pays e ≤ s.overs e → more_if (who == e) (s.pays e) ≤ s.overs e
more_pays s who e one less = by_test (who == e) (λ is. eqb-true who e is)
  where
    by_test : (b : Bool) → (b ≡ true → who ≡ e) → more_if b (s.pays e) ≤ s.overs e
    by_test true same = subst (λ (n : ℕ). s.pays n + 1 ≤ s.overs n) (same refl) one
    by_test false same = less

more_overs : (b : Bool) (pays overs : ℕ) → pays ≤ overs → pays ≤ more_if b overs
more_overs true pays overs less = omega (arith, less)
more_overs false pays overs less = less

module _ (q end : ℕ) (s : LedgerState) (some : 1 ≤ q) (c : IsCounted end s) where
  -- behind a row that begins, forfeits and exceeds nothing, whose runner and turn are these
  plain : (r : Row) → IsTimely end s r → (runner : Option ℕ) (turn grace : ℕ) (boot : Bool) → ((e : ℕ) → s.runs e ≤ started runner turn (time_of r)) → s.grace_start ≤ grace → grace ≤ time_of r → turn ≤ time_of r + 1
      → (boot ≡ true → time_of r ≡ 0) → (u : LedgerState) → u.runs ≡ s.runs → u.pays ≡ s.pays → u.overs ≡ s.overs → u.runner ≡ runner → u.turn ≡ turn → u.grace_start ≡ grace → u.time ≡ time_of r → u.at_boot ≡ boot
      → IsCounted end u
  plain r timely runner turn grace boot begun after soon ahead early u runs pays overs runs_now turn_now grace_now time_now boot_now = record {
    runs = λ e. rw (runs, runs_now, turn_now, time_now) (begun e);
    pays = λ e. rw (pays, overs) (c.pays e);
    overs = λ e. rw (overs, grace_now) (omega (arith, c.overs e, after));
    grace = rw (grace_now, time_now) soon;
    turn = rw (turn_now, time_now) ahead;
    boot = λ is. time_now ∙ early (sym boot_now ∙ is);
    within = rw time_now timely.ends;
  }

  still : (r : Row) (boot : Bool) → IsTimely end s r → (boot ≡ true → time_of r ≡ 0) → (u : LedgerState) → u.runs ≡ s.runs → u.pays ≡ s.pays → u.overs ≡ s.overs → u.runner ≡ s.runner → u.turn ≡ s.turn
      → u.grace_start ≡ s.grace_start → u.time ≡ time_of r → u.at_boot ≡ boot → IsCounted end u
  still r boot timely early u runs pays overs runs_now turn_now grace_now time_now boot_now =
      plain r timely s.runner s.turn s.grace_start boot (λ e. later s.runner s.turn s.time (time_of r) (s.runs e) timely.rises (c.runs e)) (omega arith) (omega (arith, c.grace, timely.rises))
      (omega (arith, c.turn, timely.rises)) early u runs pays overs runs_now turn_now grace_now time_now boot_now

  -- behind a row by which the runner hands its slice on, or stops
  begun : (e : ℕ) (r : Row) → IsTimely end s r → is_number e s.runner ≡ true → (i : ℕ) → s.runs i ≤ time_of r + 1
  begun e r timely runs i = let few = somebody e s.runner s.turn s.time (s.runs i) runs (c.runs i) in omega (arith, few, timely.rises)

  handed : (e to : ℕ) (r : Row) → IsTimely end s r → is_number e s.runner ≡ true → (u : LedgerState) → u.runs ≡ s.runs → u.pays ≡ s.pays → u.overs ≡ s.overs → u.runner ≡ Some to → u.turn ≡ s.turn
      → u.grace_start ≡ s.grace_start → u.time ≡ time_of r → u.at_boot ≡ false → IsCounted end u
  handed e to r timely runs u same_runs pays overs runs_now turn_now grace_now time_now boot_now =
      plain r timely (Some to) s.turn s.grace_start false (begun e r timely runs) (omega arith) (omega (arith, c.grace, timely.rises)) (omega (arith, c.turn, timely.rises)) (λ (is : false ≡ true). cc)
      u same_runs pays overs runs_now turn_now grace_now time_now boot_now

  stopped : (e : ℕ) (r : Row) → IsTimely end s r → is_number e s.runner ≡ true → (u : LedgerState) → u.runs ≡ s.runs → u.pays ≡ s.pays → u.overs ≡ s.overs → u.runner ≡ None → u.turn ≡ time_of r + 1
      → u.grace_start ≡ s.grace_start → u.time ≡ time_of r → u.at_boot ≡ false → IsCounted end u
  stopped e r timely runs u same_runs pays overs runs_now turn_now grace_now time_now boot_now =
      plain r timely None (time_of r + 1) s.grace_start false (begun e r timely runs) (omega arith) (omega (arith, c.grace, timely.rises)) (omega arith) (λ (is : false ≡ true). cc)
      u same_runs pays overs runs_now turn_now grace_now time_now boot_now

  by_kind : (r : Row) (rows : List Row) → IsTimely end s r → is_fit_by_kind q s r rows ≡ true → IsCounted end (after_row r s)
  by_kind (row.Own t slot owner holder) rows timely fits = still (row.Own t slot owner holder) s.at_boot timely (timely.boot refl) (after_row (row.Own t slot owner holder) s) refl refl refl refl refl refl refl refl
  by_kind (row.Run t slot e) rows timely fits =
      let turn = free_turn s t slot e (excess_in s e == 0) fits in
      record {
        runs = λ i. let few = nobody s.runner s.turn s.time (s.runs i) turn.0 (c.runs i) in more_most (e == i) (s.runs i) (t + 1) (omega (arith, few, turn.1));
        pays = c.pays;
        overs = c.overs;
        grace = omega (arith, c.grace, timely.rises);
        turn = omega (arith, c.turn, timely.rises);
        boot = λ (is : false ≡ true). cc;
        within = timely.ends;
      }
  by_kind (row.Pay t slot e) rows timely fits =
      let turn = free_turn s t slot e (nat_lt 0 (excess_in s e)) fits in
      let owing = pays_once s e (and_parts (is_next s t slot e) (nat_lt 0 (excess_in s e)) fits).1 in
      record {
        runs = λ i. later s.runner s.turn s.time t (s.runs i) timely.rises (c.runs i);
        pays = λ i. more_pays s e i owing (c.pays i);
        overs = c.overs;
        grace = omega (arith, c.grace, timely.rises);
        turn = omega (arith, c.turn, timely.rises);
        boot = λ (is : false ≡ true). cc;
        within = timely.ends;
      }
  by_kind (row.Give t slot from to) rows timely fits =
      handed from to (row.Give t slot from to) timely (runs_it s slot from _ fits) (after_row (row.Give t slot from to) s) refl refl refl refl refl refl refl refl
  by_kind (row.Async t slot from to) rows timely fits =
      handed from to (row.Async t slot from to) timely (runs_it s slot from _ fits) (after_row (row.Async t slot from to) s) refl refl refl refl refl refl refl refl
  by_kind (row.Sync t slot from to) rows timely fits =
      handed from to (row.Sync t slot from to) timely (runs_it s slot from _ (and_parts (is_gift s slot from to) _ fits).0) (after_row (row.Sync t slot from to) s) refl refl refl refl refl refl refl refl
  by_kind (row.End t slot e) rows timely fits =
      plain (row.End t slot e) timely s.runner s.turn t false (λ i. later s.runner s.turn s.time t (s.runs i) timely.rises (c.runs i)) (omega (arith, c.grace, timely.rises)) (omega arith)
      (omega (arith, c.turn, timely.rises)) (λ (is : false ≡ true). cc) (after_row (row.End t slot e) s) refl refl refl refl refl refl refl refl
  by_kind (row.Over t slot e excess) rows timely fits =
      let rest = (and_parts (is_runners s slot e) (in_grace s.phase && ((t == limit_in q s) && ((excess == excess_in s e + 1) && is_judged t e excess rows))) fits).1 in
      let grace = and_parts (in_grace s.phase) ((t == limit_in q s) && ((excess == excess_in s e + 1) && is_judged t e excess rows)) rest in
      let last = eqb-true t (limit_in q s) (and_parts (t == limit_in q s) ((excess == excess_in s e + 1) && is_judged t e excess rows) grace.1).0 in
      let limit = graced q s grace.0 in
      record {
        runs = λ i. later s.runner s.turn s.time t (s.runs i) timely.rises (c.runs i);
        pays = λ i. more_overs (e == i) (s.pays i) (s.overs i) (c.pays i);
        overs = λ i. more_most (e == i) (s.overs i) t (omega (arith, c.overs i, last, limit, some));
        grace = omega arith;
        turn = omega (arith, c.turn, timely.rises);
        boot = λ (is : false ≡ true). cc;
        within = timely.ends;
      }
  by_kind (row.Stop t slot e) rows timely fits =
      stopped e (row.Stop t slot e) timely (and_parts (is_number e s.runner) (slot == s.cursor) fits).0 (after_row (row.Stop t slot e) s) refl refl refl refl refl refl refl refl
  by_kind (row.Dead t slot e) rows timely fits =
      stopped e (row.Dead t slot e) timely (runs_it s slot e _ fits) (after_row (row.Dead t slot e) s) refl refl refl refl refl refl refl refl
  by_kind r rows timely fits = still r false timely (λ (is : false ≡ true). cc) (after_row r s) refl refl refl refl refl refl refl refl

pub record AreCounted (end : ℕ) (s : LedgerState) (rows : List Row) : Type 0 where
  pub state : IsCounted end (state_from s rows)
  pub times : AllByRecursion (λ (r : Row). time_of r ≤ end) rows

fit_counted : (q end : ℕ) (s : LedgerState) (rows later : List Row) → 1 ≤ q → IsCounted end s → are_fit q end s rows later ≡ true → AreCounted end s rows
fit_counted q end s [] later some c fits = record { state = c; times = tt }
fit_counted q end s (r ∷ rows) later some c fits =
    let parts = and_parts (is_fit q end s r (rows ++ later)) (are_fit q end (after_row r s) rows later) fits in
    let its = and_parts (is_in_time q end s r) (is_fit_by_kind q s r (rows ++ later)) parts.0 in
    let time = timely q end s r c its.0 in
    let rest = fit_counted q end (after_row r s) rows later some (by_kind q end s some c r (rows ++ later) time its.1) parts.1 in
    record { state = rest.state; times = (time.ends, rest.times) }

pub rows_counted : (q end : ℕ) (rows : List Row) → 1 ≤ q → are_fit q end first_state rows [] ≡ true → AreCounted end first_state rows
rows_counted q end rows some fits =
    fit_counted q end first_state rows [] some
    (record { runs = λ e. omega arith; pays = λ e. omega arith; overs = λ e. omega arith; grace = omega arith; turn = omega arith; boot = λ is. refl; within = omega arith }) fits

-- the rules count as the report does
run_same : (e : ℕ) (r : Row) → is_run_by e r ≡ is_run_of e r
run_same e (row.Run t slot who) = refl
run_same e r = refl

pay_same : (e : ℕ) (r : Row) → is_pay_by e r ≡ is_pay_of e r
pay_same e (row.Pay t slot who) = refl
pay_same e r = refl

over_same : (e : ℕ) (r : Row) → is_over_by e r ≡ is_over_of e r
over_same e (row.Over t slot who excess) = refl
over_same e r = refl

-- so many of a kind, where each row counts once
abbrev told : (LedgerState → ℕ → ℕ) → (ℕ → Row → Bool) → ℕ → Type 0
told count is_of e = (s : LedgerState) (rows : List Row) → count (state_from s rows) e ≡ count s e + count_by (is_of e) rows

module _ (count : LedgerState → ℕ → ℕ) (is_of : ℕ → Row → Bool) (e : ℕ) (each : (s : LedgerState) (r : Row) → count (after_row r s) e ≡ more_if (is_of e r) (count s e)) where
  more_is : (b : Bool) (n m : ℕ) → more_if b n + m ≡ n + ((if b then 1 else 0) + m)
  more_is true n m = omega arith
  more_is false n m = omega arith

  counts : told count is_of e
  counts s [] = omega arith
  counts s (r ∷ rows) =
      counts (after_row r s) rows ∙ ap (λ (n : ℕ). n + count_by (is_of e) rows) (each s r) ∙ more_is (is_of e r) (count s e) (count_by (is_of e) rows)
      ∙ ap (λ (n : ℕ). count s e + n) (sym (sum_by-cons (λ x. if is_of e x then 1 else 0) r rows))

pub runs_told : (e : ℕ) (s : LedgerState) (rows : List Row) → (state_from s rows).runs e ≡ s.runs e + count_by (is_run_of e) rows
runs_told e = counts (λ (s : LedgerState). s.runs) is_run_of e (λ s r. ap (λ (b : Bool). more_if b (s.runs e)) (run_same e r))

pub pays_told : (e : ℕ) (s : LedgerState) (rows : List Row) → (state_from s rows).pays e ≡ s.pays e + count_by (is_pay_of e) rows
pays_told e = counts (λ (s : LedgerState). s.pays) is_pay_of e (λ s r. ap (λ (b : Bool). more_if b (s.pays e)) (pay_same e r))

pub overs_told : (e : ℕ) (s : LedgerState) (rows : List Row) → (state_from s rows).overs e ≡ s.overs e + count_by (is_over_of e) rows
overs_told e = counts (λ (s : LedgerState). s.overs) is_over_of e (λ s r. ap (λ (b : Bool). more_if b (s.overs e)) (over_same e r))
