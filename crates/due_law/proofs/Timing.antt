-- The timer.
use Rattle.std.proofs.Common.{◌≡◌, ◌≢◌, ◌+◌, ◌-◌, ℕ, List, [], ◌∷◌, ◌++◌, Bool, true, false, Option, None, Some, inl, inr, refl, sym, ◌∙◌, ap, subst}
use Rattle.std.specs.Prelude.{◌==◌, if◌then◌else◌, nat_lt}
use Rattle.std.proofs.lemmas.Bool.{cases_eq, eq-eqb, ne_eqb}
use Rattle.std.proofs.lemmas.List.{append-nil}
use Rattle.aegis_limits.specs.Limits.{excess_limit}
use Rattle.world_model.specs.declared.slot.Phase.{Phase}
use Rattle.world_model.specs.declared.slot.Phase.TheVariants as phase
use Rattle.world_model.specs.declared.slot.Runner.{Runner}
use Rattle.world_model.specs.declared.timer.Timer.{Timer}
use Rattle.world_model.specs.declared.timer.Timer.TheVariants as answer
use Rattle.world_model.specs.Book.{is_runner}
use Rattle.world_model.specs.Death.{death, lost_with}
use Rattle.world_model.specs.Item.{Item, End, Killed}
use Rattle.world_model.specs.Tick.{count_when, grace_of, handles_end, owes_more, timer, timer_now, timer_reply}
use Rattle.world_model.specs.Timer.{timer_at_end, timer_of}
use Rattle.world_model.specs.World.{World, Reply, after, only, tells}
use Rattle.due_law.specs.Standing.{Dooms, Ends, Runs, Standing, Waits, standing_counted, standing_by}
use Rattle.due_law.proofs.Dues.{AreFurther, Goes, counting, counting_of, counting_out, further_both, goes_as, goes_further, goes_none, standing, standing_of, standing_out}
use Rattle.due_law.proofs.Early.{only_away, only_own}
use Rattle.due_law.proofs.Others.{death_further}

-- one more is owed than was
over_grace : (full : Bool) (x y : ℕ) → (if full then answer.Kill else answer.Over (x + 1)) ≡ answer.Over y → y ≡ x + 1
over_grace true x y is = cc
over_grace false x y is = cc

over_end : (p : Phase) (has : Bool) (x y : ℕ) → timer_at_end p has x ≡ answer.Over y → y ≡ x + 1
over_end phase.Own true x y is = cc
over_end phase.Own false x y is = cc
over_end phase.Grace has x y is = over_grace (nat_lt excess_limit (x + 1)) x y is

over_one : (one : Bool) (p : Phase) (has : Bool) (x y : ℕ) → (if one then timer_at_end p has x else answer.Nothing) ≡ answer.Over y → y ≡ x + 1
over_one true p has x y is = over_end p has x y is
over_one false p has x y is = cc

module _ (e q : ℕ) (w : World) (quantum : w.book.quantum ≡ q) where
  abbrev x : ℕ
  x = w.book.excess e

  -- what a reply leaves
  abbrev left : Reply → Standing
  left r = standing_of e r.book.runner (r.book.excess e)

  -- its own
  module _ (r : Runner) (its : r.env ≡ e) where
    own : (a b : Standing) → (if r.env == e then a else b) ≡ a
    own a b = ap (λ (t : Bool). if t then a else b) (eq-eqb r.env e its)

    graced : (y : ℕ) → standing_of e (Some (grace_of w r.env)) y ≡ Runs q phase.Grace y
    graced y = own (Runs w.book.quantum phase.Grace y) Waits ∙ ap (λ (n : ℕ). Runs n phase.Grace y) quantum

    owed : (owes_more r.env w).book.excess e ≡ x + 1
    owed = ap (λ (t : Bool). if t then w.book.excess r.env + 1 else x) (eq-eqb e r.env (sym its)) ∙ ap (λ (n : ℕ). w.book.excess n + 1) its

    by_what : (what : Timer) → ((y : ℕ) → what ≡ answer.Over y → y ≡ x + 1) → Goes e q w ((timer_reply r what w).items e) (standing_by q r.left r.phase x what) (left (timer_reply r what w))
    by_what answer.Nothing over =
        goes_as e q w [] [] (Runs (r.left - 1) r.phase x) (Runs (r.left - 1) r.phase x) (left (timer_reply r answer.Nothing w)) (Runs (r.left - 1) r.phase x) refl refl
        (own (Runs (r.left - 1) r.phase x) Waits) (goes_none e q w (Runs (r.left - 1) r.phase x))
    by_what answer.End over =
        goes_as e q w (only r.env (End ∷ []) e) (End ∷ []) (Ends x) (Ends x) (left (timer_reply r answer.End w)) (Runs q phase.Grace x)
        (ap (λ (n : ℕ). only n (End ∷ []) e) its ∙ only_own e (End ∷ [])) refl (graced x) (record { due = (refl, tt); leads = refl })
    by_what answer.Stop over = goes_none e q w Waits
    by_what (answer.Over y) over =
        goes_as e q w [] [] (Runs q phase.Grace y) (Runs q phase.Grace (x + 1)) (left (timer_reply r (answer.Over y) w)) (Runs q phase.Grace (x + 1)) refl
        (ap (λ (n : ℕ). Runs q phase.Grace n) (over y refl)) (graced ((owes_more r.env w).book.excess e) ∙ ap (λ (n : ℕ). Runs q phase.Grace n) owed) (goes_none e q w (Runs q phase.Grace (x + 1)))
    by_what answer.Kill over =
        let v = after w (owes_more r.env w) in
        let u = after v (tells r.env Killed v) in
        let dead : (death u r.env).items e ≡ [] = ap (λ (t : Bool). if t then [] else lost_with u.book r.env e u.book.page_count) (eq-eqb e r.env (sym its)) in
        let reply = timer_reply r answer.Kill w in
        let items : reply.items e ≡ Killed ∷ [] =
        append-nil (only r.env (Killed ∷ []) e ++ ((death u r.env).items e ++ []))
        ∙ ap (λ (xs : List Item). only r.env (Killed ∷ []) e ++ (xs ++ [])) dead
        ∙ append-nil (only r.env (Killed ∷ []) e) ∙ ap (λ (n : ℕ). only n (Killed ∷ []) e) its ∙ only_own e (Killed ∷ []) in
        goes_as e q w (reply.items e) (Killed ∷ []) Dooms Dooms (left reply) Waits items refl refl (record { due = (refl, tt); leads = refl })

  -- another's
  module _ (r : Runner) (away : r.env ≢ e) where
    out : is_runner e (Some r) ≡ false
    out = ne_eqb r.env e away

    other : e ≢ r.env
    other same = away (sym same)

    pub record Passes (what : Timer) : Type 0 where
      pub further : AreFurther ((timer_reply r what w).items e)
      pub leaves : left (timer_reply r what w) ≡ Waits

    none_further : (items : List Item) → AreFurther (only r.env items e)
    none_further items = subst AreFurther (sym (only_away e r.env items other)) tt

    passes : (what : Timer) → Passes what
    passes answer.Nothing = record { further = tt; leaves = standing_out e (Some (record r { left = r.left - 1 })) x out }
    passes answer.End = record { further = none_further (End ∷ []); leaves = standing_out e (Some (grace_of w r.env)) x out }
    passes answer.Stop = record { further = tt; leaves = refl }
    passes (answer.Over y) = record { further = tt; leaves = standing_out e (Some (grace_of w r.env)) _ out }
    passes answer.Kill =
        let v = after w (owes_more r.env w) in
        let u = after v (tells r.env Killed v) in
        let lost = (death u r.env).items e in
        record {
          further = further_both (only r.env (Killed ∷ []) e ++ (lost ++ [])) []
              (further_both (only r.env (Killed ∷ []) e) (lost ++ []) (none_further (Killed ∷ [])) (further_both lost [] (death_further e r.env u) tt)) tt;
          leaves = refl;
        }

  by_runner : (o : Option Runner) → w.book.runner ≡ o → Goes e q w ((count_when o w).items e) (counting e q w) (left (count_when o w))
  by_runner None nobody =
      goes_as e q w [] [] (counting e q w) Waits (left (count_when None w)) Waits refl
      (ap (λ (o : Option Runner). counting_of e q o x (w.solos e)) nobody) (ap (λ (o : Option Runner). standing_of e o x) nobody) (goes_none e q w Waits)
  by_runner (Some r) runs = elim (cases_eq r.env e) [ inl its ↦ by_own its | inr away ↦ by_other away ]
    where
      by_own : r.env ≡ e → Goes e q w ((timer_reply r (timer_now w r) w).items e) (counting e q w) (left (timer_reply r (timer_now w r) w))
      by_own its =
          let what = timer_now w r in
          let same : what ≡ timer_of r (handles_end w e) x = ap (λ (n : ℕ). timer_of r (handles_end w n) (w.book.excess n)) its in
          goes_as e q w ((timer_reply r what w).items e) ((timer_reply r what w).items e) (counting e q w) (standing_by q r.left r.phase x what) (left (timer_reply r what w)) (left (timer_reply r what w)) refl
          (ap (λ (o : Option Runner). counting_of e q o x (w.solos e)) runs
          ∙ own r its (standing_counted q r.left r.phase x (w.solos e)) Waits
          ∙ ap (standing_by q r.left r.phase x) (sym same)) refl
          (by_what r its what (λ y is. over_one (r.left == 1) r.phase (handles_end w e) x y (sym same ∙ is)))

      by_other : r.env ≢ e → Goes e q w ((timer_reply r (timer_now w r) w).items e) (counting e q w) (left (timer_reply r (timer_now w r) w))
      by_other away =
          let what = timer_now w r in
          let its = passes r away what in
          goes_as e q w ((timer_reply r what w).items e) ((timer_reply r what w).items e) (counting e q w) Waits (left (timer_reply r what w)) Waits refl
          (counting_out e q w.book.runner x (w.solos e) (ap (is_runner e) runs ∙ out r away)) its.leaves
          (goes_further e q w ((timer_reply r what w).items e) Waits its.further)

  pub timer_goes : Goes e q w ((timer w).items e) (counting e q w) (standing e (after w (timer w)))
  timer_goes =
      let r = count_when w.book.runner w in
      goes_as e q w ((timer w).items e) (r.items e) (counting e q w) (counting e q w) (standing e (after w (timer w))) (left r) (append-nil (r.items e)) refl refl (by_runner w.book.runner refl)

timed_quantum : (w : World) (r : Runner) (what : Timer) → (timer_reply r what w).book.quantum ≡ w.book.quantum
timed_quantum w r answer.Nothing = refl
timed_quantum w r answer.End = refl
timed_quantum w r answer.Stop = refl
timed_quantum w r (answer.Over y) = refl
timed_quantum w r answer.Kill = refl

counted_quantum : (w : World) (o : Option Runner) → (count_when o w).book.quantum ≡ w.book.quantum
counted_quantum w None = refl
counted_quantum w (Some r) = timed_quantum w r (timer_now w r)

pub timer_quantum : (w : World) → (timer w).book.quantum ≡ w.book.quantum
timer_quantum w = counted_quantum w w.book.runner
