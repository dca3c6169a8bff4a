-- The step.
use Rattle.std.proofs.Common.{◌≡◌, ◌≢◌, ℕ, List, [], ◌∷◌, ◌++◌, Bool, false, Option, None, Some, inl, inr, refl, sym, ◌∙◌, ap, subst}
use Rattle.std.specs.Prelude.{if◌then◌else◌}
use Rattle.std.proofs.lemmas.Bool.{cases_eq, eq-eqb, ne_eqb}
use Rattle.call_verdicts.specs.Granted.{GrantedMay}
use Rattle.world_model.specs.declared.call.Call.{Call}
use Rattle.world_model.specs.declared.slot.Runner.{Runner}
use Rattle.world_model.specs.Book.{is_runner, sees}
use Rattle.world_model.specs.Call.{called}
use Rattle.world_model.specs.Death.{death, lost_with}
use Rattle.world_model.specs.Item.{Item, Step, absorb, absorb_all}
use Rattle.world_model.specs.PageCalls.{left_at, left_by, left_if}
use Rattle.world_model.specs.Solo.{Key, Kept, Physical, Solo, Store}
use Rattle.world_model.specs.Step.{Act, Nothing, Stores, Calls, Raises, Dies}
use Rattle.world_model.specs.Tick.{act_now, act_reply, step, step_when}
use Rattle.world_model.specs.Verdict.{verdict}
use Rattle.world_model.specs.World.{World, Reply, after, in_turn, no_change, only, tells}
use Rattle.run_model.proofs.Phases.{in_turn_is_each}
use Rattle.run_model.proofs.Telling.{deed_may, told_named, told_own}
use Rattle.due_law.specs.Standing.{Runs, Waits, standing_after_act, standing_counted}
use Rattle.due_law.proofs.Dues.{Goes, counting, counting_of, counting_out, further_both, goes_as, goes_further, goes_none, goes_on, standing, standing_of, standing_out}
use Rattle.due_law.proofs.Early.{only_away, only_own}
use Rattle.due_law.proofs.Others.{act_out}
use Rattle.due_law.proofs.Own.{verdict_so}

pub record Steps (e q : ℕ) (w : World) (r : Reply) : Type 0 where
  pub goes : Goes e q w (r.items e) (standing e w) (counting e q (after w r))
  pub quantum : r.book.quantum ≡ w.book.quantum

-- a store of its own is left to others alone
at_own : (e : ℕ) (w : World) (x : Store) (key : Key) → left_at w.book e x key e ≡ []
at_own e w x (Kept vpn) = refl
at_own e w x (Physical page) = ap (λ (b : Bool). if b then [] else left_if (sees w.book e page) page x) (eq-eqb e e refl)

left_own : (e : ℕ) (w : World) (x : Store) → left_by w.book e x e ≡ []
left_own e w x = at_own e w x x.key

module _ (granted : GrantedMay) (e q : ℕ) where
  -- What its own act brings, in the world in which it made the step.
  module _ (w : World) (r : Runner) (runs : w.book.runner ≡ Some r) (its : r.env ≡ e) where
    abbrev s : Solo
    s = w.solos e

    abbrev x : ℕ
    x = w.book.excess e

    pub record Acts_so (act : Act) : Type 0 where
      pub goes : Goes e q w ((act_reply e act w).items e) (standing_after_act q r.left r.phase x act s) (counting e q (after w (act_reply e act w)))
      pub quantum : (act_reply e act w).book.quantum ≡ w.book.quantum

    counts : (t : Solo) → counting_of e q w.book.runner x t ≡ standing_counted q r.left r.phase x t
    counts t =
        ap (λ (o : Option Runner). counting_of e q o x t) runs ∙ ap (λ (b : Bool). if b then standing_counted q r.left r.phase x t else Waits) (eq-eqb r.env e its)

    act_so : (act : Act) → ((c : Option Call) → act ≡ Calls c → called s.cpu ≡ c) → Acts_so act
    act_so Nothing named = record { goes = goes_as e q w [] [] _ _ _ _ refl refl (counts s) (goes_none e q w (standing_counted q r.left r.phase x s)); quantum = refl }
    act_so (Stores y) named =
        let none = left_own e w y in
        record {
          goes = goes_as e q w (left_by w.book e y e) [] (standing_counted q r.left r.phase x s) (standing_counted q r.left r.phase x s) (counting_of e q w.book.runner x (absorb_all s (left_by w.book e y e))) (standing_counted q r.left r.phase x s)
              none refl (ap (λ (xs : List Item). counting_of e q w.book.runner x (absorb_all s xs)) none ∙ counts s) (goes_none e q w (standing_counted q r.left r.phase x s));
          quantum = refl;
        }
    act_so (Calls c) named =
        let so = verdict_so e w q r runs its granted (verdict w e c) (λ value is. deed_may granted w e c (named c refl) value is) in
        record { goes = so.goes; quantum = so.quantum }
    act_so (Raises exc) named = record { goes = goes_as e q w [] [] _ _ _ _ refl refl (counts s) (goes_none e q w (standing_counted q r.left r.phase x s)); quantum = refl }
    act_so (Dies cause) named =
        let none : (death w e).items e ≡ [] = ap (λ (t : Bool). if t then [] else lost_with w.book e e w.book.page_count) (eq-eqb e e refl) in
        record { goes = goes_as e q w ((death w e).items e) [] Waits Waits Waits Waits none refl refl (goes_none e q w Waits); quantum = refl }

  -- its own step
  own_steps : (w : World) (r : Runner) → w.book.runner ≡ Some r → r.env ≡ e → Steps e q w (in_turn (tells e Step ∷ act_reply e (act_now w e) ∷ []) w)
  own_steps w r runs its =
      let s = w.solos e in
      let act = act_now w e in
      let v = after w (tells e Step w) in
      let u = after v (act_reply e act v) in
      let x = w.book.excess e in
      let from = standing e w in
      let mid = standing_after_act q r.left r.phase x act (v.solos e) in
      let so = act_so v r runs its act (λ c is. told_named w e c is) in
      let first : Goes e q w ((tells e Step w).items e) from mid =
      goes_as e q w (only e (Step ∷ []) e) (Step ∷ []) from (Runs r.left r.phase x) mid (standing_after_act q r.left r.phase x act (absorb s Step))
      (only_own e (Step ∷ []))
      (ap (λ (o : Option Runner). standing_of e o x) runs ∙ ap (λ (b : Bool). if b then Runs r.left r.phase x else Waits) (eq-eqb r.env e its))
      (ap (standing_after_act q r.left r.phase x act) (told_own w e Step))
      (record { due = (refl, tt); leads = refl }) in
      let last : counting e q (after w (in_turn (tells e Step ∷ act_reply e act ∷ []) w)) ≡ counting e q u = ap (counting e q) (in_turn_is_each w (tells e Step ∷ act_reply e act ∷ [])) in
      record {
        goes = goes_as e q w _ _ from from _ (counting e q u) refl refl last
            (goes_on e q w (tells e Step) (act_reply e act ∷ []) from mid (counting e q u) first
            (goes_on e q v (act_reply e act) [] mid (counting e q u) (counting e q u) so.goes (goes_none e q u (counting e q u))));
        quantum = so.quantum;
      }

  -- another's
  other_steps : (w : World) → (w.solos e).mask ≡ 0 → (r : Runner) → w.book.runner ≡ Some r → r.env ≢ e → Steps e q w (in_turn (tells r.env Step ∷ act_reply r.env (act_now w r.env) ∷ []) w)
  other_steps w deaf r runs away =
      let by = r.env in
      let act = act_now w by in
      let v = after w (tells by Step w) in
      let other : e ≢ by = λ same. away (sym same) in
      let none = only_away e by (Step ∷ []) other in
      let out : is_runner e w.book.runner ≡ false = ap (is_runner e) runs ∙ ne_eqb by e away in
      let deaf_v : (v.solos e).mask ≡ 0 = ap (λ (xs : List Item). (absorb_all (w.solos e) xs).mask) none ∙ deaf in
      let its = act_out e v deaf_v by other out granted act (λ c is. told_named w by c is) in
      let reply = in_turn (tells by Step ∷ act_reply by act ∷ []) w in
      let more = (act_reply by act v).items e in
      let items : reply.items e ≡ more ++ [] = ap (λ (xs : List Item). xs ++ (more ++ [])) none in
      record {
        goes = goes_as e q w (reply.items e) (more ++ []) (standing e w) Waits (counting e q (after w reply)) Waits items (standing_out e w.book.runner (w.book.excess e) out)
            (counting_out e q reply.book.runner (reply.book.excess e) ((after w reply).solos e) its.out)
            (goes_further e q w (more ++ []) Waits (further_both more [] its.further tt));
        quantum = its.quantum;
      }

  by_runner : (w : World) → (w.solos e).mask ≡ 0 → (o : Option Runner) → w.book.runner ≡ o → Steps e q w (step_when w o)
  by_runner w deaf None nobody = record {
    goes = goes_as e q w [] [] (standing e w) Waits (counting e q (after w (no_change w))) Waits refl
        (ap (λ (o : Option Runner). standing_of e o (w.book.excess e)) nobody) (ap (λ (o : Option Runner). counting_of e q o (w.book.excess e) (w.solos e)) nobody) (goes_none e q w Waits);
    quantum = refl;
  }
  by_runner w deaf (Some r) runs = elim (cases_eq r.env e) [
    | inl its ↦ subst (λ (n : ℕ). Steps e q w (in_turn (tells n Step ∷ act_reply n (act_now w n) ∷ []) w)) (sym its) (own_steps w r runs its)
    | inr away ↦ other_steps w deaf r runs away
  ]

  pub steps : (w : World) → (w.solos e).mask ≡ 0 → Steps e q w (step w)
  steps w deaf = by_runner w deaf w.book.runner refl
