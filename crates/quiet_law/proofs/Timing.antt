-- The timer of an environment that runs.
use Rattle.std.proofs.Common.{◌≡◌, ◌<◌, ◌≤◌, ◌+◌, ◌-◌, ℕ, List, [], ◌∷◌, ◌++◌, Bool, true, false, Option, None, Some, refl, sym, ◌∙◌, ap, subst, arith}
use Rattle.std.specs.Prelude.{◌==◌, not, nat_lt, if◌then◌else◌}
use Rattle.std.proofs.lemmas.Bool.{eq-eqb, eqb-false, ltb-false}
use Rattle.std.proofs.lemmas.List.{append-nil}
use Rattle.aegis_limits.specs.Limits.{excess_limit}
use Rattle.world_model.specs.declared.slot.Phase.{Phase}
use Rattle.world_model.specs.declared.slot.Phase.TheVariants as phase
use Rattle.world_model.specs.declared.slot.Runner.{Runner}
use Rattle.world_model.specs.declared.timer.Timer.{Timer}
use Rattle.world_model.specs.declared.timer.Timer.TheVariants as answer
use Rattle.world_model.specs.Book.{Book}
use Rattle.world_model.specs.Death.{death, lost_with}
use Rattle.world_model.specs.Item.{Item, End, Killed, absorb_all}
use Rattle.world_model.specs.Solo.{Solo}
use Rattle.world_model.specs.Tick.{clock, count_when, grace_again, grace_of, handles_end, kill, owes_more, slice_end, stop_at_end, timer_now, timer_reply, with_runner}
use Rattle.world_model.specs.Timer.{timer_at_end, timer_of}
use Rattle.world_model.specs.World.{World, Reply, after, in_turn, no_change, only, tells}
use Rattle.quiet_law.specs.Alone.{after_timer, count_alone}
use Rattle.quiet_law.proofs.Clear.{IsClear}
use Rattle.quiet_law.proofs.Nothing.{HasNothing, end_nothing, killed_nothing}
use Rattle.quiet_law.proofs.Others.{death_clear}
use Rattle.quiet_law.proofs.Own.{only_own}
use Rattle.quiet_law.proofs.Rest.{IfRuns, OwesWithin, RunsWithin, alone_after, alone_in, left_of, left_runs, over_counts, phase_of, phase_runs}

-- equal options have equal values
pub some_same : (x y : Runner) → Some x ≡ Some y → x ≡ y
some_same x y is = cc

-- What an answer of the timer leaves of the environment, and what the timer does.
pub record Timed (e : ℕ) (w : World) (told : Timer) (reply : Reply) : Type 0 where
  pub alone : (xs : List Item) → after_timer w.book.quantum told (alone_in e w xs) ≡ alone_in e (after w reply) (xs ++ reply.items e)
  pub clear : IsClear e reply.book
  pub quantum : reply.book.quantum ≡ w.book.quantum
  pub within : IfRuns e (reply.book.excess e) reply.book.runner
  pub nothing : HasNothing (absorb_all (w.solos e) (reply.items e))

pub record Times (e : ℕ) (w : World) (reply : Reply) : Type 0 where
  pub alone : (xs : List Item) → count_alone w.book.quantum (alone_in e w xs) ≡ alone_in e (after w reply) (xs ++ reply.items e)
  pub clear : IsClear e reply.book
  pub quantum : reply.book.quantum ≡ w.book.quantum
  pub within : IfRuns e (reply.book.excess e) reply.book.runner
  pub nothing : HasNothing (absorb_all (w.solos e) (reply.items e))

-- time rises by one
with_clock : (e : ℕ) (w : World) (count : World → Reply) → Times e w (count w) → Times e w (in_turn (count ∷ clock ∷ []) w)
with_clock e w count its =
    let r = count w in
    let reply = in_turn (count ∷ clock ∷ []) w in
    let same : reply.items e ≡ r.items e = append-nil (r.items e) in
    record {
      alone = λ xs. its.alone xs ∙ alone_after e w reply xs (r.items e) (alone_in e (after w r) (xs ++ r.items e)) same refl refl refl refl refl;
      clear = (let c = its.clear in record { owned = c.owned; bound = c.bound; claims = c.claims; lines = c.lines });
      quantum = its.quantum;
      within = its.within;
      nothing = subst (λ xs. HasNothing (absorb_all (w.solos e) xs)) (sym same) its.nothing;
    }

module _ (e : ℕ) (w : World) (clear : IsClear e w.book) (has : HasNothing (w.solos e)) (some : 0 < w.book.quantum) where
  abbrev s : Solo
  s = w.solos e

  abbrev q : ℕ
  q = w.book.quantum

  abbrev owes : ℕ
  owes = w.book.excess e

  same_clear : (b : Book) → b.pages ≡ w.book.pages → b.binds ≡ w.book.binds → b.claims ≡ w.book.claims → b.lines ≡ w.book.lines → IsClear e b
  same_clear b pages binds claims lines = record { owned = rw pages clear.owned; bound = rw binds clear.bound; claims = rw claims clear.claims; lines = rw lines clear.lines }

  -- nobody runs
  idle_times : w.book.runner ≡ None → Times e w (no_change w)
  idle_times none = record {
    alone = λ xs. over_counts q (alone_in e w xs) (ap (left_of e) none) ∙ alone_after e w (no_change w) xs [] (alone_in e w xs) refl (sym (append-nil xs)) refl refl refl refl;
    clear = clear;
    quantum = refl;
    within = λ r is its. (let never : None ≡ Some r = sym none ∙ is in cc);
    nothing = has;
  }

  module _ (r : Runner) (runs : w.book.runner ≡ Some r) (its : r.env ≡ e) (within : RunsWithin owes r) where
    -- ticks are left
    goes_on : (r.left == 1) ≡ false → Timed e w answer.Nothing (with_runner (record r { left = r.left - 1 }) w)
    goes_on more =
        let fewer = record r { left = r.left - 1 } in
        record {
          alone = λ xs. alone_after e w (with_runner fewer w) xs [] (after_timer q answer.Nothing (alone_in e w xs)) refl (sym (append-nil xs)) refl
              (ap (λ (n : ℕ). n - 1) (ap (left_of e) runs ∙ left_runs e r its) ∙ sym (left_runs e fewer its))
              (ap (phase_of e) runs ∙ phase_runs e r its ∙ sym (phase_runs e fewer its)) refl;
          clear = same_clear (with_runner fewer w).book refl refl refl refl;
          quantum = refl;
          within = λ x is own. subst (RunsWithin owes) (some_same fewer x is) (record { left = omega (arith, within.left, eqb-false r.left 1 more); owes = within.owes });
          nothing = has;
        }

    stopped : Timed e w answer.Stop (stop_at_end e w)
    stopped = record {
      alone = λ xs. alone_after e w (stop_at_end e w) xs [] (after_timer q answer.Stop (alone_in e w xs)) refl (sym (append-nil xs)) refl refl refl refl;
      clear = same_clear (stop_at_end e w).book refl refl refl refl;
      quantum = refl;
      within = λ x is own. cc;
      nothing = has;
    }

    -- a quantum of grace begins
    grace_within : (excess : ℕ) → excess ≤ excess_limit → IfRuns e excess (Some (grace_of w e))
    grace_within excess few x is own = subst (RunsWithin excess) (some_same (grace_of w e) x is) (record { left = some; owes = few })

    told : r.phase ≡ phase.Own → Timed e w answer.End (slice_end e w)
    told own =
        let free : owes ≡ 0 = subst (OwesWithin owes) own within.owes in
        let items : (slice_end e w).items e ≡ End ∷ [] = only_own e (End ∷ []) in
        record {
          alone = λ xs. alone_after e w (slice_end e w) xs (End ∷ []) (after_timer q answer.End (alone_in e w xs)) items refl refl
              (sym (left_runs e (grace_of w e) refl)) (sym (phase_runs e (grace_of w e) refl)) refl;
          clear = same_clear (slice_end e w).book refl refl refl refl;
          quantum = refl;
          within = grace_within owes (rw free (omega arith));
          nothing = subst (λ xs. HasNothing (absorb_all s xs)) (sym items) (end_nothing s has);
        }

    risen : (owes_more e w).book.excess e ≡ owes + 1
    risen = ap (λ (t : Bool). if t then owes + 1 else owes) (eq-eqb e e refl)

    again : nat_lt excess_limit (owes + 1) ≡ false → Timed e w (answer.Over (owes + 1)) (in_turn (owes_more e ∷ grace_again e ∷ []) w)
    again few =
        let reply = in_turn (owes_more e ∷ grace_again e ∷ []) w in
        record {
          alone = λ xs. alone_after e w reply xs [] (after_timer q (answer.Over (owes + 1)) (alone_in e w xs)) refl (sym (append-nil xs)) refl
              (sym (left_runs e (grace_of w e) refl)) (sym (phase_runs e (grace_of w e) refl)) (sym risen);
          clear = same_clear reply.book refl refl refl refl;
          quantum = refl;
          within = grace_within (reply.book.excess e) (rw risen (ltb-false excess_limit (owes + 1) few));
          nothing = has;
        }

    killed : Timed e w answer.Kill (in_turn (owes_more e ∷ kill e ∷ []) w)
    killed =
        let v = after w (owes_more e w) in
        let u = after v (tells e Killed v) in
        let reply = in_turn (owes_more e ∷ kill e ∷ []) w in
        let dead : (death u e).items e ≡ [] = ap (λ (t : Bool). if t then [] else lost_with u.book e e u.book.page_count) (eq-eqb e e refl) in
        let items : reply.items e ≡ Killed ∷ [] =
        append-nil ((kill e v).items e)
        ∙ ap (λ xs. only e (Killed ∷ []) e ++ (xs ++ [])) dead
        ∙ append-nil (only e (Killed ∷ []) e) ∙ only_own e (Killed ∷ []) in
        let free : reply.book.excess e ≡ 0 = ap (λ (t : Bool). if t then 0 else (owes_more e w).book.excess e) (eq-eqb e e refl) in
        record {
          alone = λ xs. alone_after e w reply xs (Killed ∷ []) (after_timer q answer.Kill (alone_in e w xs)) items refl refl refl refl (sym free);
          clear = death_clear e u (same_clear u.book refl refl refl refl) e;
          quantum = refl;
          within = λ x is own. cc;
          nothing = subst (λ xs. HasNothing (absorb_all s xs)) (sym items) (killed_nothing s has);
        }

    by_phase : (p : Phase) → r.phase ≡ p → Timed e w (timer_at_end p (handles_end w e) owes) (timer_reply r (timer_at_end p (handles_end w e) owes) w)
    by_phase phase.Own own = by_handler ((w.solos e).handlers.end == 0)
      where
        by_handler : (none : Bool) → Timed e w (timer_at_end phase.Own (not none) owes) (timer_reply r (timer_at_end phase.Own (not none) owes) w)
        by_handler true = subst (λ n. Timed e w answer.Stop (stop_at_end n w)) (sym its) stopped
        by_handler false = subst (λ n. Timed e w answer.End (slice_end n w)) (sym its) (told own)
    by_phase phase.Grace grace = by_excess (nat_lt excess_limit (owes + 1)) refl
      where
        by_excess : (over : Bool) → nat_lt excess_limit (owes + 1) ≡ over
            → Timed e w (if over then answer.Kill else answer.Over (owes + 1)) (timer_reply r (if over then answer.Kill else answer.Over (owes + 1)) w)
        by_excess true is = subst (λ n. Timed e w answer.Kill (in_turn (owes_more n ∷ kill n ∷ []) w)) (sym its) killed
        by_excess false is = subst (λ n. Timed e w (answer.Over (owes + 1)) (in_turn (owes_more n ∷ grace_again n ∷ []) w)) (sym its) (again is)

    by_left : (one : Bool) → (r.left == 1) ≡ one
        → Timed e w (if one then timer_at_end r.phase (handles_end w e) owes else answer.Nothing) (timer_reply r (if one then timer_at_end r.phase (handles_end w e) owes else answer.Nothing) w)
    by_left true one = by_phase r.phase refl
    by_left false more = goes_on more

    abbrev says : Timer
    says = timer_of r (handles_end w e) owes

    counts : (xs : List Item) → count_alone q (alone_in e w xs) ≡ after_timer q says (alone_in e w xs)
    counts xs =
        ap (λ (n : ℕ). after_timer q (if n == 1 then timer_at_end (phase_of e w.book.runner) (handles_end w e) owes else answer.Nothing) (alone_in e w xs)) (ap (left_of e) runs ∙ left_runs e r its)
        ∙ ap (λ (p : Phase). after_timer q (if r.left == 1 then timer_at_end p (handles_end w e) owes else answer.Nothing) (alone_in e w xs)) (ap (phase_of e) runs ∙ phase_runs e r its)

    counted : Times e w (timer_reply r says w)
    counted =
        let timed : Timed e w says (timer_reply r says w) = by_left (r.left == 1) refl in
        record { alone = λ xs. counts xs ∙ timed.alone xs; clear = timed.clear; quantum = timed.quantum; within = timed.within; nothing = timed.nothing }

    runner_times : Times e w (timer_reply r (timer_now w r) w)
    runner_times = subst (λ n. Times e w (timer_reply r (timer_of r (handles_end w n) (w.book.excess n)) w)) (sym its) counted

pub own_times : (e : ℕ) (w : World) → IsClear e w.book → HasNothing (w.solos e) → 0 < w.book.quantum → (o : Option Runner) → w.book.runner ≡ o → ((r : Runner) → o ≡ Some r → (r.env ≡ e) × RunsWithin (w.book.excess e) r)
    → Times e w (in_turn (count_when o ∷ clock ∷ []) w)
own_times e w clear has some None runs its = with_clock e w no_change (idle_times e w clear has some runs)
own_times e w clear has some (Some r) runs its = let own = its r refl in with_clock e w (count_when (Some r)) (runner_times e w clear has some r runs own.0 own.1)
