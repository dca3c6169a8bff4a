-- What the step and the timer give, by who runs.
use Rattle.std.proofs.Common.{◌≡◌, ℕ, List, [], ◌∷◌, ◌++◌, Option, Some, None, refl, sym, ◌∙◌, ap, subst}
use Rattle.world_model.specs.declared.call.Call.{Call}
use Rattle.world_model.specs.declared.call.Deed.{Deed}
use Rattle.world_model.specs.declared.slot.Runner.{Runner}
use Rattle.world_model.specs.declared.verdict.Verdict.{Verdict}
use Rattle.world_model.specs.declared.verdict.Verdict.TheVariants.{Grant}
use Rattle.world_model.specs.Book.{running}
use Rattle.world_model.specs.Call.{deed_of}
use Rattle.world_model.specs.Item.{Item, Step, Answer, deed_at}
use Rattle.world_model.specs.Step.{Act, Calls}
use Rattle.world_model.specs.Tick.{act_now, act_reply, count_when, step, step_when, timer, timer_now, timer_reply}
use Rattle.world_model.specs.Verdict.{done, reply_by_verdict, reply_to, verdict}
use Rattle.world_model.specs.World.{World, after, only, tells}
use Rattle.run_model.specs.Acting.{Acts, Does}
use Rattle.run_model.proofs.Telling.{call_named, call_stands}
use Rattle.giving_law.proofs.Places.{Has, has_first, has_second}

-- who runs
pub runner_of : (o : Option Runner) (e : ℕ) → running o ≡ Some e → (r : Runner) × (o ≡ Some r) × (r.env ≡ e)
runner_of None e runs = cc
runner_of (Some r) e runs = (r, refl, cc)

-- what the step of an environment gives, if it runs
abbrev pub step_items : World → ℕ → ℕ → List Item
step_items w e i = only e (Step ∷ []) i ++ ((act_reply e (act_now w e) (after w (tells e Step w))).items i ++ [])

pub step_gives : (w : World) (e i : ℕ) → running w.book.runner ≡ Some e → (step w).items i ≡ step_items w e i
step_gives w e i runs =
    let its = runner_of w.book.runner e runs in
    ap (λ (o : Option Runner). (step_when w o).items i) its.1 ∙ ap (λ (n : ℕ). step_items w n i) its.2

-- what its act brings is given
pub act_given : (w : World) (e i : ℕ) (act : Act) (item : Item) → Acts w e act → Has ((act_reply e act (after w (tells e Step w))).items i) item → Has ((step w).items i) item
act_given w e i act item acts has =
    let v = after w (tells e Step w) in
    let items = (act_reply e (act_now w e) v).items i in
    let its : Has items item = subst (λ (a : Act). Has ((act_reply e a v).items i) item) (sym acts.comes) has in
    subst (λ xs. Has xs item) (sym (step_gives w e i acts.runs))
    (has_second (only e (Step ∷ []) i) (items ++ []) item (has_first items [] item its))

pub call_given : (w : World) (e i : ℕ) (c : Option Call) (v : Verdict) (item : Item) → Acts w e (Calls c) → verdict w e c ≡ v → Has ((reply_by_verdict w e v).items i) item → Has ((step w).items i) item
call_given w e i c v item acts is has =
    let its : Has ((reply_to w e c).items i) item = subst (λ (u : Verdict). Has ((reply_by_verdict w e u).items i) item) (sym is) has in
    act_given w e i (Calls c) item acts (subst (λ (u : World). Has ((reply_to u e c).items i) item) (sym (call_stands w e c acts.comes)) its)

-- what a granted call does, by the registers at the call
pub deed_here : (w : World) (e : ℕ) (d : Deed) → (does : Does w e d) → deed_at (w.solos e) does.value ≡ d
deed_here w e d does =
    ap (λ (c : Option Call). deed_of c does.value (w.solos e).cpu) (call_named w e does.call does.acts.comes) ∙ does.done

pub deed_given : (w : World) (e i : ℕ) (d : Deed) (item : Item) → Does w e d → Has ((done w e d).items i) item → Has ((step w).items i) item
deed_given w e i d item does has =
    let own = only e (Answer (Grant does.value) ∷ []) i in
    let here = deed_at (w.solos e) does.value in
    let its : Has ((done w e here).items i) item = subst (λ (x : Deed). Has ((done w e x).items i) item) (sym (deed_here w e d does)) has in
    call_given w e i does.call (Grant does.value) item does.acts does.granted (has_second own ((done w e here).items i) item its)

-- The timer of a runner.
pub timer_gives : (w : World) (r : Runner) (i : ℕ) → w.book.runner ≡ Some r → (timer w).items i ≡ (timer_reply r (timer_now w r) w).items i ++ []
timer_gives w r i runs = ap (λ (o : Option Runner). (count_when o w).items i ++ []) runs
