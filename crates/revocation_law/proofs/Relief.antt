-- After an answer 22 whoever it names is asked, until it gives or can't.
use Rattle.std.proofs.Common.{arith, ◌≡◌, ◌≢◌, ◌<◌, ◌≤◌, ◌+◌, ◌-◌, ℕ, zero, suc, List, [], ◌∷◌, ◌++◌, map, Bool, true, false, cond, Option, None, Some, refl, sym, ◌∙◌, ap, subst, ◌⊎◌, inl, inr}
use Rattle.std.specs.Prelude.{◌==◌, ◌*◌, not, nat_lt, if◌then◌else◌, is_none, slice_get}
use Rattle.std.proofs.lemmas.Bool.{and_cases, and_left, and_parts, and_right, cases_Bool, cases_eq, cond_both, eq-eqb, eqb-false, leb-false, ltb-true, not-false, not_from_true, true≢false}
use Rattle.external_event.specs.declared.event.Occurrence.{Occurrence}
use Rattle.external_event.specs.declared.event.Occurrence.TheVariants as outside
use Rattle.revocation_book.specs.declared.revocation.Pending.{Pending}
use Rattle.revocation_book.specs.declared.revocation.Taking.{Taking}
use Rattle.revocation_book.specs.Pending.{asked, is_due, lowered, outstanding_in, unless_due}
use Rattle.revocation_book.specs.Richest.{revocable_pages}
use Rattle.world_model.specs.declared.call.Call.{Call}
use Rattle.world_model.specs.declared.slot.Runner.{Runner}
use Rattle.world_model.specs.declared.verdict.Verdict.{Verdict}
use Rattle.world_model.specs.declared.verdict.Verdict.TheVariants.{Again}
use Rattle.world_model.specs.Book.{is_idle_book, running}
use Rattle.world_model.specs.Deadlines.{copy_left, takes, takings}
use Rattle.world_model.specs.Event.{asks, happen, revokes}
use Rattle.world_model.specs.Item.{Item, Step, Taken, absorb_all, absorbed}
use Rattle.world_model.specs.PageCalls.{lost_bindings, revocations}
use Rattle.world_model.specs.Solo.{Solo, is_dead}
use Rattle.world_model.specs.Step.{Act, Calls}
use Rattle.world_model.specs.Tick.{act_now, act_reply, phases_after, serve_phases, step, step_when, tick_phases, timer}
use Rattle.world_model.specs.Verdict.{asks_one, reply_by_verdict, reply_to, verdict}
use Rattle.world_model.specs.World.{World, Reply, after, in_turn, is_living, no_change, run_phases, tells}
use Rattle.run_model.specs.Licensed.{IsAnswered}
use Rattle.run_model.specs.Run.{MomentsAreInOrder, System, TimeIsTick, at_deadlines, at_step, at_timer, at_turn, happens_in, items_in, next_phases, takings_next, world_after}
use Rattle.run_model.proofs.Telling.{call_stands}
use Rattle.revocation_law.specs.Again.{AgainHelps, AgainIsAwaited, ByDeath, ByFree, ByLack, ByTaking, IsAwaited, IsRelieved, GivesOrCannot}
use Rattle.revocation_law.specs.Pressure.{IsUnasked}
use Rattle.revocation_law.proofs.Booting.{boot_imaged}
use Rattle.revocation_law.proofs.Changes.{Change, Dealt, Ended, Ends, Given, Died, Lapse, Lapsed, Pressed, Stays, step_change, timer_lapses, turn_leaves}
use Rattle.revocation_law.proofs.Fixed.{Pace, happen_pace, pace, turn_pace}
use Rattle.revocation_law.proofs.Happening.{Happens, Named, Passed, event_happens}
use Rattle.revocation_law.proofs.Serving.{some_taken, taken_from}
use Rattle.revocation_law.proofs.Unasked.{UnaskedIn, at_pace, sooner, unasked_now}

-- What is pending has a page at least; and where an environment is unasked, a deadline up to a bound.
record IsFair (Unasked : Type 0) (bound : ℕ) (p : Pending) : Type 0 where
  some : 0 < p.outstanding
  near : Unasked → p.deadline ≤ bound

abbrev Fair : Type 0 → ℕ → Option Pending → Type 0
Fair Unasked bound None = Unit {0}
Fair Unasked bound (Some p) = IsFair Unasked bound p

-- and there is something pending
record Owes (Unasked : Type 0) (bound : ℕ) (pending : Option Pending) : Type 0 where
  p : Pending
  its : pending ≡ Some p
  fair : IsFair Unasked bound p

fair_lowered : (U : Type 0) (bound : ℕ) (pending : Option Pending) → Fair U bound pending → Fair U bound (lowered pending)
fair_lowered U bound None fair = tt
fair_lowered U bound (Some p) fair =
    let left = p.outstanding - 1 in
    cond_both (left == 0) None (Some (record { outstanding = left; deadline = p.deadline })) (Fair U bound) (λ none. tt) (λ more. record { some = omega (arith, eqb-false left 0 more); near = fair.near })

fair_unless : (U : Type 0) (bound time : ℕ) (pending : Option Pending) → Fair U bound pending → Fair U bound (unless_due time pending)
fair_unless U bound time pending fair = cond_both (is_due time pending) None pending (Fair U bound) (λ due. tt) (λ not. fair)

fair_later : (U V : Type 0) (bound later : ℕ) (pending : Option Pending) → (V → U) → bound ≤ later → Fair U bound pending → Fair V later pending
fair_later U V bound later None weaker more fair = tt
fair_later U V bound later (Some p) weaker more fair = record { some = fair.some; near = λ unasked. omega (arith, fair.near (weaker unasked), more) }

-- Events keep either.
module _ (U : Type 0) (bound e : ℕ) (P : Option Pending → Type 0) (fresh : (p : Pending) → IsFair U bound p → P (Some p)) where
  happens_keep : (what : Occurrence) (w : World) (becomes : Option Pending) (items : List Item) → (U → (count grace : ℕ) → what ≢ outside.Revoke e count grace) → P (w.book.pending e)
      → Happens what w e becomes items → P becomes
  happens_keep what w becomes items unasked was (Passed leaves) = subst P (sym leaves.same) was
  happens_keep what w becomes items unasked was (Named names) =
      subst P (sym names.its) (fresh names.p (record { some = names.some; near = λ its. absurd (unasked its names.count names.grace names.named) }))

  events_keep : (happens : List Occurrence) (w : World) → (U → UnaskedIn e happens) → P (w.book.pending e) → P ((run_phases w (map happen happens)).book.pending e)
  events_keep [] w unasked was = was
  events_keep (what ∷ happens) w unasked was =
      let r = happen what w in
      events_keep happens (after w r) (λ its k count grace. unasked its (suc k) count grace)
      (happens_keep what w (r.book.pending e) (r.items e) (λ its count grace same. unasked its 0 count grace (ap Some same)) was (event_happens what w e))

events_pace : (happens : List Occurrence) (w : World) → pace (run_phases w (map happen happens)).book ≡ pace w.book
events_pace [] w = refl
events_pace (what ∷ happens) w = events_pace happens (after w (happen what w)) ∙ happen_pace what w

served_pace : (xs : List Taking) (w : World) → pace (run_phases w (serve_phases xs)).book ≡ pace w.book
served_pace [] w = refl
served_pace (x ∷ xs) w = served_pace xs (after w (takes x w))

served_pending : (e : ℕ) (xs : List Taking) (w : World) → (run_phases w (serve_phases xs)).book.pending e ≡ unless_due w.book.time (w.book.pending e)
served_pending e [] w = refl
served_pending e (x ∷ xs) w = served_pending e xs (after w (takes x w))

-- Who doesn't live lives no more.
dead_stays : (items : List Item) (s : Solo) → is_dead s.life ≡ true → absorb_all s items ≡ s
dead_stays [] s gone = refl
dead_stays (item ∷ items) s gone = ap (λ (b : Bool). absorb_all (if b then s else absorbed s item) items) gone ∙ dead_stays items s gone

dead_gone : (w : World) (e : ℕ) → is_dead (w.solos e).life ≡ true → is_living w e ≡ false
dead_gone w e dead = and_right (nat_lt e w.count) (not (is_dead (w.solos e).life)) (not_from_true (is_dead (w.solos e).life) dead)

gone_after : (e : ℕ) (w : World) (r : Reply) → is_living w e ≡ false → is_living (after w r) e ≡ false
gone_after e w r gone =
    elim (and_cases (nat_lt e w.count) (not (is_dead (w.solos e).life)) gone) [
      | inl beyond ↦ and_left (nat_lt e w.count) (not (is_dead ((after w r).solos e).life)) beyond
      | inr dies ↦
          let dead : is_dead (w.solos e).life ≡ true = not-false (is_dead (w.solos e).life) dies in
          dead_gone (after w r) e (ap (λ (s : Solo). is_dead s.life) (dead_stays (r.items e) (w.solos e) dead) ∙ dead)
    ]

gone_through : (e : ℕ) (phases : List (World → Reply)) (w : World) → is_living w e ≡ false → is_living (run_phases w phases) e ≡ false
gone_through e [] w gone = gone
gone_through e (phase ∷ phases) w gone = gone_through e phases (after w (phase w)) (gone_after e w (phase w) gone)

count_stays : (phases : List (World → Reply)) (w : World) → (run_phases w phases).count ≡ w.count
count_stays [] w = refl
count_stays (phase ∷ phases) w = count_stays phases (after w (phase w))

-- A page that is taken is given in the tick.
record Gets (items : List Item) : Type 0 where
  n : ℕ
  page : ℕ
  backup : Option ℕ
  is : slice_get items n ≡ Some (Taken page backup)

gets_behind : (xs ys : List Item) → Gets ys → Gets (xs ++ ys)
gets_behind [] ys gets = gets
gets_behind (x ∷ xs) ys gets = let rest = gets_behind xs ys gets in record { n = suc rest.n; page = rest.page; backup = rest.backup; is = rest.is }

taking_gets : (e : ℕ) (w : World) (x : Taking) (rest : List Item) (left : ℕ) → (0 < left → Gets rest) → (mine : Bool) → 0 < cond mine 1 0 + left
    → Gets ((if mine then Taken x.page x.backup ∷ [] else copy_left w x x.backup e ++ lost_bindings w.book x.page e) ++ rest)
taking_gets e w x rest left goes_on true some = record { n = 0; page = x.page; backup = x.backup; is = refl }
taking_gets e w x rest left goes_on false some = gets_behind (copy_left w x x.backup e ++ lost_bindings w.book x.page e) rest (goes_on (omega (arith, some)))

tick_gets : (e : ℕ) (happens : List Occurrence) (xs : List Taking) (w : World) → 0 < taken_from e xs → Gets ((in_turn (phases_after happens xs) w).items e)
tick_gets e [] [] w some = absurd (omega (arith, some))
tick_gets e [] (x ∷ xs) w some =
    let v = after w (takes x w) in
    taking_gets e w x ((in_turn (tick_phases xs) v).items e) (taken_from e xs) (λ more. tick_gets e [] xs v more) (e == x.env) some
tick_gets e (what ∷ happens) xs w some =
    let v = after w (happen what w) in gets_behind ((happen what w).items e) ((in_turn (phases_after happens xs) v).items e) (tick_gets e happens xs v some)

-- The answer 22 asks.
module _ (U : Type 0) (bound : ℕ) (w : World) (e : ℕ) (lives : is_living w e ≡ true) (soon : w.book.time + 2 * w.book.quantum ≤ bound) where
  abbrev until : ℕ
  until = w.book.time + 2 * w.book.quantum

  abbrev one : Pending
  one = record { outstanding = 1; deadline = until }

  asked_now : w.book.pending e ≡ None → (revokes e 1 until w).book.pending e ≡ Some one
  asked_now none =
      ap (λ (t : Bool). (if t then asks e (asked 1 until (w.book.pending e)) w else no_change w).book.pending e) lives
      ∙ ap (λ (o : Option Pending). (asks e (asked 1 until o) w).book.pending e) none
      ∙ ap (λ (t : Bool). if t then Some one else w.book.pending e) (eq-eqb e e refl)

  by_pending : (o : Option Pending) → w.book.pending e ≡ o → Fair U bound o → Owes U bound ((asks_one e w).book.pending e)
  by_pending None is fair = record {
    p = one;
    its = ap (λ (t : Bool). (if t then revokes e 1 until w else no_change w).book.pending e) (ap is_none is) ∙ asked_now is;
    fair = record { some = omega arith; near = λ unasked. soon };
  }
  by_pending (Some p) is fair = record {
    p = p;
    its = ap (λ (t : Bool). (if t then revokes e 1 until w else no_change w).book.pending e) (ap is_none is) ∙ is;
    fair = fair;
  }

  asked_owes : Fair U bound (w.book.pending e) → Owes U bound ((asks_one e w).book.pending e)
  asked_owes fair = by_pending (w.book.pending e) refl fair

-- the step whose call is answered so
stepped_pending : (w : World) (c e : ℕ) (call : Option Call) (o : Option Runner) → running o ≡ Some c → act_now w c ≡ Calls call → verdict w c call ≡ Again e
    → (step_when w o).book.pending e ≡ (asks_one e w).book.pending e
stepped_pending w c e call None runs comes is = cc
stepped_pending w c e call (Some r) runs comes is =
    let same : c ≡ r.env = cc in
    subst (λ (n : ℕ). (in_turn (tells n Step ∷ act_reply n (act_now w n) ∷ []) w).book.pending e ≡ (asks_one e w).book.pending e) same
    (ap (λ (act : Act). (act_reply c act (after w (tells c Step w))).book.pending e) comes
    ∙ ap (λ (v : World). (reply_to v c call).book.pending e) (call_stands w c call comes)
    ∙ ap (λ (v : Verdict). (reply_by_verdict w c v).book.pending e) is)

-- What is pending stays fair.
stepped_fair : (U : Type 0) (bound : ℕ) (w : World) (e : ℕ) (becomes : Option Pending) (items : List Item) → w.book.time + 2 * w.book.quantum ≤ bound → Fair U bound (w.book.pending e)
    → Change w e becomes items → Fair U bound becomes
stepped_fair U bound w e becomes items soon fair (Dealt (Stays leaves)) = subst (Fair U bound) (sym leaves.same) fair
stepped_fair U bound w e becomes items soon fair (Dealt (Given gives)) = subst (Fair U bound) (sym gives.less) (fair_lowered U bound (w.book.pending e) fair)
stepped_fair U bound w e becomes items soon fair (Dealt (Pressed presses)) = subst (Fair U bound) (sym presses.one) (record { some = omega arith; near = λ unasked. soon })
stepped_fair U bound w e becomes items soon fair (Ended ends) = subst (Fair U bound) (sym ends.none) tt

lapsed_fair : (U : Type 0) (bound : ℕ) (w : World) (e : ℕ) (becomes : Option Pending) (items : List Item) → Fair U bound (w.book.pending e) → Lapse w e becomes items → Fair U bound becomes
lapsed_fair U bound w e becomes items fair (Lapsed leaves) = subst (Fair U bound) (sym leaves.same) fair
lapsed_fair U bound w e becomes items fair (Died ends) = subst (Fair U bound) (sym ends.none) tt

-- A tick that is made, by its moments.
module _ (moments : MomentsAreInOrder) (times : TimeIsTick) (system : System) (e s : ℕ) (busy : is_idle_book (world_after system s).book ≡ false) where
  abbrev quantum : ℕ
  quantum = system.image.quantum

  abbrev now : ℕ × ℕ
  now = (s, quantum)

  abbrev before : World
  before = world_after system s

  abbrev Unasked : Type 0
  Unasked = IsUnasked system.schedule e s

  deadlines_keep : (bound : ℕ) (P : Option Pending → Type 0) → ((p : Pending) → IsFair Unasked bound p → P (Some p)) → P (before.book.pending e) → P ((at_deadlines system s).book.pending e)
  deadlines_keep bound P fresh was =
      subst (λ (v : World). P (v.book.pending e)) (sym (moments system s).happened)
      (events_keep Unasked bound e P fresh (happens_in system.schedule before) before (unasked_now times system e s busy) was)

  deadlines_pace : pace (at_deadlines system s).book ≡ now
  deadlines_pace = ap (λ (v : World). pace v.book) (moments system s).happened ∙ events_pace (happens_in system.schedule before) before ∙ at_pace times system s busy

  deadlines_time : (at_deadlines system s).book.time ≡ s
  deadlines_time = ap (λ (p : Pace). p.0) deadlines_pace

  turn_has : (at_turn system s).book.pending e ≡ unless_due s ((at_deadlines system s).book.pending e)
  turn_has =
      let d = at_deadlines system s in
      ap (λ (v : World). v.book.pending e) (moments system s).served ∙ served_pending e (takings d) d ∙ ap (λ (n : ℕ). unless_due n (d.book.pending e)) deadlines_time

  turn_at : pace (at_turn system s).book ≡ now
  turn_at = let d = at_deadlines system s in ap (λ (v : World). pace v.book) (moments system s).served ∙ served_pace (takings d) d ∙ deadlines_pace

  step_has : (at_step system s).book.pending e ≡ unless_due s ((at_deadlines system s).book.pending e)
  step_has =
      let a = at_turn system s in
      ap (λ (v : World). v.book.pending e) (moments system s).turned ∙ (turn_leaves a e a.book.runner).same ∙ turn_has

  step_at : pace (at_step system s).book ≡ now
  step_at = ap (λ (v : World). pace v.book) (moments system s).turned ∙ turn_pace (at_turn system s) ∙ turn_at

  step_soon : (at_step system s).book.time + 2 * (at_step system s).book.quantum ≤ s + 2 * quantum
  step_soon =
      let time = ap (λ (p : Pace). p.0) step_at in
      let same = ap (λ (p : Pace). p.1) step_at in omega (arith, time, same)

  changed : (let w = at_step system s in Change w e ((step w).book.pending e) ((step w).items e))
  changed = let w = at_step system s in step_change w e w.book.runner refl

  timer_has : (at_timer system s).book.pending e ≡ (step (at_step system s)).book.pending e
  timer_has = ap (λ (v : World). v.book.pending e) (moments system s).stepped

  next_has : (world_after system (suc s)).book.pending e ≡ (timer (at_timer system s)).book.pending e
  next_has = ap (λ (v : World). v.book.pending e) ((moments system s).timed busy)

  -- who doesn't live
  timer_gone : is_living (at_timer system s) e ≡ false → is_living (world_after system (suc s)) e ≡ false
  timer_gone gone =
      let w = at_timer system s in subst (λ (v : World). is_living v e ≡ false) (sym ((moments system s).timed busy)) (gone_after e w (timer w) gone)

  step_gone : is_living (at_step system s) e ≡ false → is_living (world_after system (suc s)) e ≡ false
  step_gone gone =
      let w = at_step system s in timer_gone (subst (λ (v : World). is_living v e ≡ false) (sym (moments system s).stepped) (gone_after e w (step w) gone))

  step_ended : (becomes : Option Pending) → Ends (at_step system s) e becomes ((step (at_step system s)).items e) → is_living (world_after system (suc s)) e ≡ false
  step_ended becomes ends =
      let w = at_step system s in timer_gone (subst (λ (v : World). is_living v e ≡ false) (sym (moments system s).stepped) (dead_gone (after w (step w)) e ends.dead))

  timer_ended : (becomes : Option Pending) → Ends (at_timer system s) e becomes ((timer (at_timer system s)).items e) → is_living (world_after system (suc s)) e ≡ false
  timer_ended becomes ends =
      let w = at_timer system s in subst (λ (v : World). is_living v e ≡ false) (sym ((moments system s).timed busy)) (dead_gone (after w (timer w)) e ends.dead)

  made : world_after system (suc s) ≡ run_phases before (next_phases system.schedule before)
  made = ap (λ (idle : Bool). if idle then before else run_phases before (next_phases system.schedule before)) busy

  before_gone : is_living before e ≡ false → is_living (world_after system (suc s)) e ≡ false
  before_gone gone = subst (λ (v : World). is_living v e ≡ false) (sym made) (gone_through e (next_phases system.schedule before) before gone)

  -- fair at the step, and after the tick
  step_fair : (bound : ℕ) → Fair Unasked bound (before.book.pending e) → Fair Unasked bound ((at_step system s).book.pending e)
  step_fair bound fair =
      let d = at_deadlines system s in
      subst (Fair Unasked bound) (sym step_has) (fair_unless Unasked bound s (d.book.pending e) (deadlines_keep bound (Fair Unasked bound) (λ p its. its) fair))

  next_fair : (bound : ℕ) → s + 2 * quantum ≤ bound → Fair Unasked bound (before.book.pending e) → Fair Unasked bound ((world_after system (suc s)).book.pending e)
  next_fair bound soon fair =
      let w = at_step system s in
      let t = at_timer system s in
      let stepped = stepped_fair Unasked bound w e ((step w).book.pending e) ((step w).items e) (omega (arith, soon, step_soon)) (step_fair bound fair) changed in
      subst (Fair Unasked bound) (sym next_has)
      (lapsed_fair Unasked bound t e ((timer t).book.pending e) ((timer t).items e) (subst (Fair Unasked bound) (sym timer_has) stepped) (timer_lapses t e))

-- Whole runs.
module _ (moments : MomentsAreInOrder) (times : TimeIsTick) (system : System) (e : ℕ) where
  abbrev bound : ℕ → ℕ
  bound t = t + 2 * system.image.quantum

  abbrev UnaskedTo : ℕ → Type 0
  UnaskedTo t = IsUnasked system.schedule e t

  idle_stays : (t : ℕ) → is_idle_book (world_after system t).book ≡ true → world_after system (suc t) ≡ world_after system t
  idle_stays t idle = let w = world_after system t in ap (λ (b : Bool). if b then w else run_phases w (next_phases system.schedule w)) idle

  busy_before : (t : ℕ) → is_idle_book (world_after system (suc t)).book ≡ false → is_idle_book (world_after system t).book ≡ false
  busy_before t busy =
      elim (cases_Bool (is_idle_book (world_after system t).book)) [
        | inl idle ↦ absurd (true≢false (sym (ap (λ (v : World). is_idle_book v.book) (idle_stays t idle) ∙ idle) ∙ busy))
        | inr was ↦ was
      ]

  fair_run : (t : ℕ) → Fair (UnaskedTo t) (bound t) ((world_after system t).book.pending e)
  fair_run zero = subst (Fair (UnaskedTo 0) (bound 0)) (sym (ap (λ (f : ℕ → Option Pending). f e) (boot_imaged system.image).pending)) tt
  fair_run (suc t) =
      let was = fair_run t in
      let sooner_is = sooner system.schedule e t (suc t) (omega arith) in
      elim (cases_Bool (is_idle_book (world_after system t).book)) [
        | inl idle ↦
            subst (λ (v : World). Fair (UnaskedTo (suc t)) (bound (suc t)) (v.book.pending e)) (sym (idle_stays t idle))
            (fair_later (UnaskedTo t) (UnaskedTo (suc t)) (bound t) (bound (suc t)) ((world_after system t).book.pending e) sooner_is (omega arith) was)
        | inr busy ↦
            fair_later (UnaskedTo t) (UnaskedTo (suc t)) (bound t) (bound (suc t)) ((world_after system (suc t)).book.pending e) sooner_is (omega arith)
            (next_fair moments times system e t busy (bound t) (omega arith) was)
      ]

  -- After the answer in tick t, once tick u is over: it is still to give.
  record Waits (t u : ℕ) : Type 0 where
    owes : Owes (UnaskedTo u) (bound t) ((world_after system (suc u)).book.pending e)
    later : t < u → u < owes.p.deadline

  data State (t u : ℕ) : Type 0 where
    Done : IsRelieved system t u e → State t u
    Gone : is_living (world_after system (suc u)) e ≡ false → State t u
    Waiting : Waits t u → State t u

  -- in the tick of the answer
  answered_state : (t caller : ℕ) (busy : is_idle_book (world_after system t).book ≡ false) → IsAnswered (at_step system t) caller (Again e) → State t t
  answered_state t caller busy answered =
      let w = at_step system t in
      elim (cases_Bool (is_living w e)) [
        | inl lives ↦
            timed (subst (Owes (UnaskedTo t) (bound t)) (sym (stepped_pending w caller e answered.call w.book.runner answered.acts.runs answered.acts.comes answered.its))
            (asked_owes (UnaskedTo t) (bound t) w e lives (step_soon moments times system e t busy) (step_fair moments times system e t busy (bound t) (fair_run t))))
        | inr gone ↦ Gone (step_gone moments times system e t busy gone)
      ]
    where
      timed : Owes (UnaskedTo t) (bound t) ((step (at_step system t)).book.pending e) → State t t
      timed owes = by_lapse (timer_lapses (at_timer system t) e)
        where
          by_lapse : (let v = at_timer system t in Lapse v e ((timer v).book.pending e) ((timer v).items e)) → State t t
          by_lapse (Died ends) = Gone (timer_ended moments times system e t busy ((timer (at_timer system t)).book.pending e) ends)
          by_lapse (Lapsed leaves) = Waiting (record {
            owes = record { p = owes.p; its = next_has moments times system e t busy ∙ leaves.same ∙ timer_has moments times system e t busy ∙ owes.its; fair = owes.fair };
            later = λ below. absurd (omega (arith, below));
          })

  -- in a later one
  module _ (t s : ℕ) (below : t < s) (busy : is_idle_book (world_after system s).book ≡ false) where
    abbrev deadlines : World
    deadlines = at_deadlines system s

    relieved : GivesOrCannot system s e → State t s
    relieved relieves = Done (record { tick = s; later = below; within = omega arith; relieves = relieves })

    -- where the deadline hasn't come
    going_on : (owes : Owes (UnaskedTo s) (bound t) (deadlines.book.pending e)) → is_due s (deadlines.book.pending e) ≡ false → State t s
    going_on owes not = by_change (changed moments times system e s busy)
      where
        step_is : (at_step system s).book.pending e ≡ Some owes.p
        step_is = step_has moments times system e s busy ∙ ap (λ (due : Bool). if due then None else deadlines.book.pending e) not ∙ owes.its

        not_yet : s < owes.p.deadline
        not_yet = leb-false owes.p.deadline s (subst (λ (o : Option Pending). is_due s o ≡ false) owes.its not)

        by_lapse : (step (at_step system s)).book.pending e ≡ Some owes.p → (let v = at_timer system s in Lapse v e ((timer v).book.pending e) ((timer v).items e)) → State t s
        by_lapse is (Died ends) = Gone (timer_ended moments times system e s busy ((timer (at_timer system s)).book.pending e) ends)
        by_lapse is (Lapsed leaves) = Waiting (record {
          owes = record { p = owes.p; its = next_has moments times system e s busy ∙ leaves.same ∙ timer_has moments times system e s busy ∙ is; fair = owes.fair };
          later = λ after. not_yet;
        })

        by_change : (let w = at_step system s in Change w e ((step w).book.pending e) ((step w).items e)) → State t s
        by_change (Dealt (Stays leaves)) = by_lapse (leaves.same ∙ step_is) (timer_lapses (at_timer system s) e)
        by_change (Dealt (Given gives)) = relieved (ByFree gives.page gives.does)
        by_change (Dealt (Pressed presses)) = let never : None ≡ Some owes.p = sym presses.nothing ∙ step_is in absurd (cc never)
        by_change (Ended ends) = Gone (step_ended moments times system e s busy ((step (at_step system s)).book.pending e) ends)

    -- where it has come
    given : 0 < taken_from e (takings deadlines) → Gets (items_in system s e)
    given some =
        let w = world_after system s in
        let xs = takings_next system.schedule w in
        let more : 0 < taken_from e xs = subst (λ (v : World). 0 < taken_from e (takings v)) (moments system s).happened some in
        subst (λ (idle : Bool). Gets (if idle then [] else (in_turn (next_phases system.schedule w) w).items e)) (sym busy) (tick_gets e (happens_in system.schedule w) xs w more)

    there : is_living (world_after system s) e ≡ true → e < deadlines.count
    there lives =
        let w = world_after system s in
        let count : deadlines.count ≡ w.count = ap (λ (v : World). v.count) (moments system s).happened ∙ count_stays (map happen (happens_in system.schedule w)) w in
        let below = ltb-true e w.count (and_parts (nat_lt e w.count) (not (is_dead (w.solos e).life)) lives).0 in
        omega (arith, count, below)

    due_now : (owes : Owes (UnaskedTo s) (bound t) (deadlines.book.pending e)) → is_due s (deadlines.book.pending e) ≡ true → is_living (world_after system s) e ≡ true → State t s
    due_now owes due lives = by_count (revocable_pages (revocations deadlines.book) e) refl
      where
        due_then : is_due deadlines.book.time (deadlines.book.pending e) ≡ true
        due_then = ap (λ (n : ℕ). is_due n (deadlines.book.pending e)) (deadlines_time moments times system e s busy) ∙ due

        some : 0 < outstanding_in (deadlines.book.pending e)
        some = subst (λ (o : Option Pending). 0 < outstanding_in o) (sym owes.its) owes.fair.some

        by_count : (n : ℕ) → revocable_pages (revocations deadlines.book) e ≡ n → State t s
        by_count zero is = relieved (ByLack (record { due = due_then; none = is }))
        by_count (suc n) is =
            let gets = given (some_taken (revocations deadlines.book) deadlines.book.time e due_then some (omega (arith, is)) deadlines.count (there lives)) in
            relieved (ByTaking gets.n gets.page gets.backup gets.is)

    waited : (before : Option Pending) → (world_after system s).book.pending e ≡ before → Owes (UnaskedTo s) (bound t) before → State t s
    waited before is owes =
        let here = deadlines_keep moments times system e s busy (bound t) (Owes (UnaskedTo s) (bound t)) (λ p fair. record { p = p; its = refl; fair = fair })
        (record { p = owes.p; its = is ∙ owes.its; fair = owes.fair }) in
        elim (cases_Bool (is_due s (deadlines.book.pending e))) [
          | inl due ↦ elim (cases_Bool (is_living (world_after system s) e)) [
            | inl lives ↦ due_now here due lives
            | inr gone ↦ Gone (before_gone moments times system e s busy gone)
          ]
          | inr not ↦ going_on here not
        ]

  next_state : (t u : ℕ) → t ≤ u → is_idle_book (world_after system (suc u)).book ≡ false → State t u → State t (suc u)
  next_state t u below busy (Done is) = Done (record { tick = is.tick; later = is.later; within = omega (arith, is.within); relieves = is.relieves })
  next_state t u below busy (Gone gone) = Gone (before_gone moments times system e (suc u) busy gone)
  next_state t u below busy (Waiting waits) =
      waited t (suc u) (omega (arith, below)) busy ((world_after system (suc u)).book.pending e) refl (record {
        p = waits.owes.p;
        its = waits.owes.its;
        fair = record { some = waits.owes.fair.some; near = λ unasked. waits.owes.fair.near (sooner system.schedule e u (suc u) (omega arith) unasked) };
      })

  state_run : (t caller : ℕ) → IsAnswered (at_step system t) caller (Again e) → (u : ℕ) → t ≤ u → is_idle_book (world_after system u).book ≡ false → State t u
  state_run t caller answered zero below busy =
      let same : t ≡ 0 = omega (arith, below) in subst (State t) same (answered_state t caller (subst (λ (n : ℕ). is_idle_book (world_after system n).book ≡ false) (sym same) busy) answered)
  state_run t caller answered (suc u) below busy =
      elim (cases_eq t (suc u)) [
        | inl same ↦ subst (State t) same (answered_state t caller (subst (λ (n : ℕ). is_idle_book (world_after system n).book ≡ false) (sym same) busy) answered)
        | inr other ↦
            let earlier : t ≤ u = omega (arith, below, other) in
            next_state t u earlier busy (state_run t caller answered u earlier (busy_before u busy))
      ]

  -- so it is awaited, or has given or can't
  ended : (t u : ℕ) → t < u → State t u → IsRelieved system t u e ⊎ Waits t u
  ended t u below (Done is) = inl is
  ended t u below (Gone gone) = inl (record { tick = u; later = below; within = omega arith; relieves = ByDeath gone })
  ended t u below (Waiting waits) = inr waits

  awaited : (t u : ℕ) → t < u → IsRelieved system t u e ⊎ Waits t u → IsRelieved system t u e ⊎ IsAwaited system u e
  awaited t u below (inl is) = inl is
  awaited t u below (inr waits) = inr (record { p = waits.owes.p; its = waits.owes.its; later = waits.later below })

  in_two_quanta : (t u : ℕ) → u ≡ bound t → t < u → UnaskedTo u → IsRelieved system t u e ⊎ Waits t u → IsRelieved system t u e
  in_two_quanta t u is below unasked (inl relieved) = relieved
  in_two_quanta t u is below unasked (inr waits) = absurd (omega (arith, is, waits.later below, waits.owes.fair.near unasked))

pub again_is_awaited : MomentsAreInOrder → TimeIsTick → AgainIsAwaited
again_is_awaited moments times system t caller e u answered below busy =
    awaited moments times system e t u below (ended moments times system e t u below (state_run moments times system e t caller answered u (omega (arith, below)) busy))

pub again_helps : MomentsAreInOrder → TimeIsTick → AgainHelps
again_helps moments times system t caller e some answered unasked busy =
    let last = t + 2 * system.image.quantum in
    let below : t < last = omega (arith, some) in
    in_two_quanta moments times system e t last refl below unasked
    (ended moments times system e t last below (state_run moments times system e t caller answered last (omega (arith, below)) busy))
