-- Another's step and the end of its slice leave a clear environment aside.
use Rattle.std.proofs.Common.{◌≡◌, ◌≢◌, ◌<◌, ◌+◌, ◌-◌, ℕ, suc, List, [], ◌∷◌, false, Option, None, Some, is_none, refl, sym, ◌∙◌, ap, subst, arith}
use Rattle.std.specs.Prelude.{◌==◌, ◌*◌}
use Rattle.std.proofs.lemmas.Bool.{cond_both, eqb-false, ne_eqb}
use Rattle.aegis_limits.specs.Limits.{environment_numbers}
use Rattle.revocation_book.specs.Richest.{RichestHasMost, AreRichest, richest, revocable_pages}
use Rattle.world_model.specs.declared.call.Call.{Call}
use Rattle.world_model.specs.declared.life.Cause.TheVariants as cause
use Rattle.world_model.specs.declared.slot.Runner.{Runner}
use Rattle.world_model.specs.declared.timer.Timer.{Timer}
use Rattle.world_model.specs.declared.timer.Timer.TheVariants as answer
use Rattle.world_model.specs.declared.verdict.Verdict.{Verdict}
use Rattle.world_model.specs.declared.verdict.Verdict.TheVariants.{Refuse, Again, Grant}
use Rattle.world_model.specs.Book.{Book, is_runner}
use Rattle.world_model.specs.Call.{called}
use Rattle.world_model.specs.Item.{Item, Answer, End, Killed, Step, absorb_all, deed_at}
use Rattle.world_model.specs.PageCalls.{revocations}
use Rattle.world_model.specs.Solo.{Solo}
use Rattle.world_model.specs.Step.{Act, Nothing, Stores, Calls, Raises, Dies}
use Rattle.world_model.specs.Tick.{act_now, act_reply, clock, count_when, grace_again, grace_of, kill, owes_more, slice_end, step_when, stop_at_end, timer_now, timer_reply, with_runner}
use Rattle.world_model.specs.Verdict.{asks_one, done, reply_by_verdict, reply_to, verdict}
use Rattle.world_model.specs.Event.{revokes}
use Rattle.world_model.specs.World.{World, Reply, after, followed, in_turn, no_change, only, tells}
use Rattle.call_verdicts.specs.Granted.{AgainAsks, GrantedMay}
use Rattle.run_model.proofs.Telling.{deed_may, told_named}
use Rattle.quiet_law.proofs.Clear.{IsClear, left_none, nothing_revocable, set_other}
use Rattle.quiet_law.proofs.Others.{Passes, Waits, death_passes, deed_passes, only_other, revokes_waits}

-- whoever is given nothing stays as it is
pub same_solo : (e : ℕ) (w : World) (r : Reply) → r.items e ≡ [] → (after w r).solos e ≡ w.solos e
same_solo e w r nothing = ap (λ (items : List Item). absorb_all (w.solos e) items) nothing

pub both_pass : (e : ℕ) (w : World) (p q : World → Reply) → Passes e w (p w) → (let v = after w (p w) in Passes e v (q v)) → Passes e w (in_turn (p ∷ q ∷ []) w)
both_pass e w p q first next = record {
  aside = record {
    nothing = rw (first.aside.nothing, next.aside.nothing) refl;
    clear = next.aside.clear;
    excess = next.aside.excess ∙ first.aside.excess;
    quantum = next.aside.quantum ∙ first.aside.quantum;
  };
  out = next.out;
}

-- What another is told passes the environment by.
module _ (e : ℕ) (w : World) (clear : IsClear e w.book) (by : ℕ) (other : e ≢ by) (out : is_runner e w.book.runner ≡ false) where
  same_clear : (b : Book) → b.pages ≡ w.book.pages → b.binds ≡ w.book.binds → b.claims ≡ w.book.claims → b.lines ≡ w.book.lines → IsClear e b
  same_clear b pages binds claims lines = record {
    owned = rw pages clear.owned;
    bound = rw binds clear.bound;
    claims = rw claims clear.claims;
    lines = rw lines clear.lines;
  }

  pub told_passes : (item : Item) → Passes e w (tells by item w)
  told_passes item = record { aside = record { nothing = only_other e by (item ∷ []) other; clear = clear; excess = refl; quantum = refl }; out = out }

  pub nothing_passes : Passes e w (no_change w)
  nothing_passes = record { aside = record { nothing = refl; clear = clear; excess = refl; quantum = refl }; out = out }

  -- a book with another runner
  runs_passes : (runner : Option Runner) (items : ℕ → List Item) (rows : _) → items e ≡ [] → is_runner e runner ≡ false → Passes e w (record { book = record w.book { runner = runner }; items = items; rows = rows })
  runs_passes runner items rows nothing out = record {
    aside = record { nothing = nothing; clear = same_clear (record w.book { runner = runner }) refl refl refl refl; excess = refl; quantum = refl };
    out = out;
  }

  is_by : (by == e) ≡ false
  is_by = ne_eqb by e (λ same. other (sym same))

  pub owes_passes : Passes e w (owes_more by w)
  owes_passes = record {
    aside = record { nothing = refl; clear = same_clear (owes_more by w).book refl refl refl refl; excess = set_other e by (w.book.excess by + 1) w.book.excess other; quantum = refl };
    out = out;
  }

  pub grace_passes : Passes e w (grace_again by w)
  grace_passes = runs_passes (Some (grace_of w by)) (λ i. []) [] refl is_by

  pub goes_on_passes : (r : Runner) → r.env ≡ by → Passes e w (with_runner r w)
  goes_on_passes r its = runs_passes (Some r) (λ i. []) [] refl (ap (λ n. n == e) its ∙ is_by)

  pub stop_passes : Passes e w (stop_at_end by w)
  stop_passes = runs_passes None (λ i. []) _ refl refl

  pub end_passes : Passes e w (slice_end by w)
  end_passes = runs_passes (Some (grace_of w by)) (only by (End ∷ [])) _ (only_other e by (End ∷ []) other) is_by

  pub clock_passes : Passes e w (clock w)
  clock_passes = record { aside = record { nothing = refl; clear = same_clear (clock w).book refl refl refl refl; excess = refl; quantum = refl }; out = out }

module _ (granted : GrantedMay) (again : AgainAsks) (rich : RichestHasMost) (e : ℕ) where
  -- Whoever is asked for a page has one to give.
  asked_other : (b : Book) → IsClear e b → (but who : ℕ) → richest (revocations b) but ≡ Some who → e ≢ who
  asked_other b clear but who is same =
      let most : AreRichest (revocations b) but environment_numbers (Some who) = subst (λ (o : Option ℕ). AreRichest (revocations b) but environment_numbers o) is (rich (revocations b) but) in
      let some : 0 < revocable_pages (revocations b) e = subst (λ (n : ℕ). 0 < revocable_pages (revocations b) n) (sym same) most.some in
      omega (arith, nothing_revocable e b clear)

  module _ (w : World) (clear : IsClear e w.book) (deaf : (w.solos e).mask ≡ 0) (by : ℕ) (other : e ≢ by) (out : is_runner e w.book.runner ≡ false) where
    behind_answer : (v : Verdict) (r : Reply) → Passes e w r → Passes e w (followed (tells by (Answer v) w) r)
    behind_answer v r passes = record {
      aside = record {
        nothing = rw (only_other e by (Answer v ∷ []) other) passes.aside.nothing;
        clear = passes.aside.clear;
        excess = passes.aside.excess;
        quantum = passes.aside.quantum;
      };
      out = passes.out;
    }

    asking_passes : (who : ℕ) → e ≢ who → Passes e w (asks_one who w)
    asking_passes who away =
        let until = w.book.time + 2 * w.book.quantum in
        let waits : Waits e w (revokes who 1 until w) = revokes_waits e w clear who 1 until away in
        cond_both (is_none (w.book.pending who)) (revokes who 1 until w) (no_change w) (Passes e w)
        (λ nothing. record { aside = waits.aside; out = ap (is_runner e) waits.runner ∙ out }) (λ pending. nothing_passes e w clear by other out)

    call_passes : (c : Option Call) → called (w.solos by).cpu ≡ c → Passes e w (reply_to w by c)
    call_passes c named = by_verdict (verdict w by c) refl
      where
        by_verdict : (v : Verdict) → verdict w by c ≡ v → Passes e w (reply_by_verdict w by v)
        by_verdict (Refuse code value) is = told_passes e w clear by other out (Answer (Refuse code value))
        by_verdict (Again who) is = behind_answer (Again who) (asks_one who w) (asking_passes who (asked_other w.book clear by who (again w by c who is).richest))
        by_verdict (Grant value) is =
            let d = deed_at (w.solos by) value in
            behind_answer (Grant value) (done w by d) (deed_passes e w clear deaf by other out d (deed_may granted w by c named value is))

    act_passes : (act : Act) → ((c : Option Call) → act ≡ Calls c → called (w.solos by).cpu ≡ c) → Passes e w (act_reply by act w)
    act_passes Nothing named = nothing_passes e w clear by other out
    act_passes (Stores x) named = record { aside = record { nothing = left_none e w.book clear by x; clear = clear; excess = refl; quantum = refl }; out = out }
    act_passes (Calls c) named = call_passes c (named c refl)
    act_passes (Raises exc) named = nothing_passes e w clear by other out
    act_passes (Dies cause) named = death_passes e w clear deaf by other out

  -- a step of another's
  pub step_passes : (w : World) → IsClear e w.book → (w.solos e).mask ≡ 0 → (r : Runner) → e ≢ r.env → is_runner e w.book.runner ≡ false → Passes e w (step_when w (Some r))
  step_passes w clear deaf r other out =
      let act = act_now w r.env in
      let told = told_passes e w clear r.env other out Step in
      let v = after w (tells r.env Step w) in
      both_pass e w (tells r.env Step) (act_reply r.env act) told
      (act_passes v clear (ap (λ (s : Solo). s.mask) (same_solo e w (tells r.env Step w) told.aside.nothing) ∙ deaf) r.env other out act (λ c is. told_named w r.env c is))

-- its timer
module _ (e : ℕ) (w : World) (clear : IsClear e w.book) (deaf : (w.solos e).mask ≡ 0) (r : Runner) (other : e ≢ r.env) (out : is_runner e w.book.runner ≡ false) where
  timed_passes : (what : Timer) → Passes e w (timer_reply r what w)
  timed_passes answer.Nothing = goes_on_passes e w clear r.env other out (record r { left = r.left - 1 }) refl
  timed_passes answer.End = end_passes e w clear r.env other out
  timed_passes answer.Stop = stop_passes e w clear r.env other out
  timed_passes (answer.Over excess) =
      let first = owes_passes e w clear r.env other out in
      both_pass e w (owes_more r.env) (grace_again r.env) first (grace_passes e (after w (owes_more r.env w)) first.aside.clear r.env other first.out)
  timed_passes answer.Kill =
      let first = owes_passes e w clear r.env other out in
      let v = after w (owes_more r.env w) in
      let told = told_passes e v first.aside.clear r.env other first.out Killed in
      let u = after v (tells r.env Killed v) in
      let deaf_u : (u.solos e).mask ≡ 0 = ap (λ (s : Solo). s.mask) (same_solo e v (tells r.env Killed v) told.aside.nothing) ∙ deaf in
      both_pass e w (owes_more r.env) (kill r.env) first
      (both_pass e v (tells r.env Killed) (act_reply r.env (Dies cause.Excess)) told (death_passes e u told.aside.clear deaf_u r.env other told.out))

pub timer_passes : (e : ℕ) (w : World) → IsClear e w.book → (w.solos e).mask ≡ 0 → (runner : Option Runner) → is_runner e w.book.runner ≡ false → is_runner e runner ≡ false
    → Passes e w (in_turn (count_when runner ∷ clock ∷ []) w)
timer_passes e w clear deaf None out away =
    let first = nothing_passes e w clear (suc e) (λ same. omega (arith, same)) out in
    both_pass e w no_change clock first (clock_passes e (after w (no_change w)) clear (suc e) (λ same. omega (arith, same)) out)
timer_passes e w clear deaf (Some r) out away =
    let other : e ≢ r.env = λ same. eqb-false r.env e away (sym same) in
    let count = count_when (Some r) in
    let first : Passes e w (count w) = timed_passes e w clear deaf r other out (timer_now w r) in
    both_pass e w count clock first (clock_passes e (after w (count w)) first.aside.clear r.env other first.out)
