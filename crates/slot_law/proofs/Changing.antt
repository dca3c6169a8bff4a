-- Why a slot changes in a tick.
use Rattle.std.proofs.Common.{refl, sym, ◌∙◌, ap, subst, ◌≡◌, inl, inr, ℕ, suc, [], ◌∷◌, Bool, true, false, Option, None, Some}
use Rattle.std.specs.Prelude.{◌==◌, ◌⊎◌, if◌then◌else◌}
use Rattle.std.proofs.lemmas.Bool.{cases_eq, eq-eqb, eqb-true, ne_eqb}
use Rattle.env_frames.specs.declared.transfer.TransferKind.TheVariants as kind
use Rattle.world_model.specs.declared.call.Call.{Call}
use Rattle.world_model.specs.declared.call.Deed.{Deed}
use Rattle.world_model.specs.declared.call.Deed.TheVariants.{Answers, Own, Stops, Gives, Allocates, Frees, Recaps, Binds, Unbinds, Transfers, TakesSlot, DropsSlot, TakesLine, DropsLine, Claims, Unclaims, Downloads, Loads}
use Rattle.world_model.specs.declared.code.Code.TheVariants as code
use Rattle.world_model.specs.declared.hold.Hold.{Hold}
use Rattle.world_model.specs.declared.life.Cause.TheVariants as cause
use Rattle.world_model.specs.declared.life.Life.TheVariants.{Live}
use Rattle.world_model.specs.declared.slot.Runner.{Runner}
use Rattle.world_model.specs.declared.timer.Timer.{Timer}
use Rattle.world_model.specs.declared.timer.Timer.TheVariants as answer
use Rattle.world_model.specs.declared.verdict.Verdict.{Verdict}
use Rattle.world_model.specs.declared.verdict.Verdict.TheVariants.{Refuse, Again, Grant}
use Rattle.world_model.specs.Book.{hold_without, is_idle_book, own_hold, running}
use Rattle.world_model.specs.Death.{death}
use Rattle.world_model.specs.Item.{Killed, Step, deed_at}
use Rattle.world_model.specs.May.{May}
use Rattle.world_model.specs.SlotCalls.{gift_refusal, holds, in_grace, turn_slot}
use Rattle.world_model.specs.Solo.{Solo}
use Rattle.world_model.specs.Step.{Act, Nothing, Stores, Calls, Raises, Dies}
use Rattle.world_model.specs.Table.{set_at}
use Rattle.world_model.specs.Tick.{act_now, act_reply, clock, count_when, kill, owes_more, step, step_when, timer, timer_now, timer_reply}
use Rattle.world_model.specs.Verdict.{done, reply_by_verdict, verdict}
use Rattle.world_model.specs.World.{World, after, run_phases, tells}
use Rattle.call_verdicts.specs.Granted.{GrantedMay}
use Rattle.run_model.specs.Acting.{Does}
use Rattle.run_model.specs.Excess.{Lives}
use Rattle.run_model.specs.Run.{System, at_step, at_timer, at_turn, next_phases, world_after}
use Rattle.run_model.proofs.Phases.{in_turn_is_each, next_after_timer, step_after_turn, timer_after_step}
use Rattle.run_model.proofs.Telling.{call_does, call_named, call_stands, deed_may, told_own}
use Rattle.ledger_law.proofs.Told.{Core, lives_before}
use Rattle.ledger_law.proofs.Events.{asking_early}
use Rattle.slot_law.specs.SlotChange.{HasSlotCause, SlotsHaveCauses}
use Rattle.slot_law.proofs.Owning.{killed_not, stepped_dies, turn_core, turn_slots}

-- a slot once an environment is gone, which had a part of it or not
released : (gone : ℕ) (o : Option Hold) → (hold_without gone o ≡ o) ⊎ ((hold : Hold) × (o ≡ Some hold) × ((hold.owner ≡ gone) ⊎ (hold.holder ≡ gone)))
released gone None = inl refl
released gone (Some hold) = by_owner (hold.owner == gone) refl
  where
    by_holder : (b : Bool) → (hold.holder == gone) ≡ b → ((if b then Some (own_hold hold.owner) else Some hold) ≡ Some hold) ⊎ ((h : Hold) × (Some hold ≡ Some h) × ((h.owner ≡ gone) ⊎ (h.holder ≡ gone)))
    by_holder true is = inr (hold, refl, inr (eqb-true hold.holder gone is))
    by_holder false is = inl refl

    by_owner : (b : Bool) → (hold.owner == gone) ≡ b
        → ((if b then None else (if hold.holder == gone then Some (own_hold hold.owner) else Some hold)) ≡ Some hold) ⊎ ((h : Hold) × (Some hold ≡ Some h) × ((h.owner ≡ gone) ⊎ (h.holder ≡ gone)))
    by_owner true is = inr (hold, refl, inl (eqb-true hold.owner gone is))
    by_owner false is = by_holder (hold.holder == gone) refl

-- who hands on a slot holds it
may_hand : (o : Option Runner) (slot : Option Hold) (who : ℕ) → running o ≡ Some who → gift_refusal true o slot ≡ None → (hold : Hold) × (slot ≡ Some hold) × (hold.holder ≡ who)
may_hand None slot who runs gift = cc
may_hand (Some r) slot who runs gift = by_grace (in_grace r.phase) gift
  where
    by_slot : (s : Option Hold) → holds r.env s ≡ true → (hold : Hold) × (s ≡ Some hold) × (hold.holder ≡ who)
    by_slot None has = cc
    by_slot (Some hold) has = let same : r.env ≡ who = cc in (hold, refl, eqb-true hold.holder r.env has ∙ same)

    by_test : (b : Bool) → holds r.env slot ≡ b → (if b then None else Some code.NotHolder) ≡ None → (hold : Hold) × (slot ≡ Some hold) × (hold.holder ≡ who)
    by_test true has none = by_slot slot has
    by_test false has none = cc

    by_grace : (b : Bool) → (if b then Some code.NoSlice else (if holds r.env slot then None else Some code.NotHolder)) ≡ None → (hold : Hold) × (slot ≡ Some hold) × (hold.holder ≡ who)
    by_grace true none = cc
    by_grace false none = by_test (holds r.env slot) refl none

module _ (granted : GrantedMay) (system : System) (t slot : ℕ) (busy : is_idle_book (world_after system t).book ≡ false) where
  abbrev was : Option Hold
  was = (world_after system t).book.slots slot

  abbrev w : World
  w = at_step system t

  abbrev Caused : Option Hold → Type 0
  Caused now = (now ≡ was) ⊎ HasSlotCause system t slot was

  same : w.book.slots slot ≡ was
  same =
      let v = at_turn system t in
      ap (λ (y : World). y.book.slots slot) (step_after_turn system t) ∙ ap (λ (slots : ℕ → Option Hold). slots slot) (turn_slots v v.book.runner) ∙ ap (λ (c : Core). c.slots slot) (turn_core system t)

  -- who lives after the tick lived after its step
  lives_then : (e : ℕ) → Lives (world_after system (suc t)) e → Lives (after w (step w)) e
  lives_then e lives =
      let x = at_timer system t in
      subst (λ (y : World). Lives y e) (timer_after_step system t) (lives_before x (timer x) e (subst (λ (y : World). Lives y e) (next_after_timer system t busy) lives))

  -- a death
  by_death : (gone : ℕ) (o : Option Hold) → o ≡ was → (Lives (world_after system (suc t)) gone → ⊥) → Caused (hold_without gone o)
  by_death gone o is dies = elim (released gone o) [
    | inl stays ↦ inl (stays ∙ is)
    | inr part ↦ inr (inr (inr (inr (record { hold = part.0; stood = sym is ∙ part.1; gone = gone; part = part.2; dies = dies }))))
  ]

  -- the runner's deed
  module _ (who : ℕ) (runs : running w.book.runner ≡ Some who) where
    set : (k : ℕ) (hold : Option Hold) → (slot ≡ k → Caused hold) → Caused (set_at k hold w.book.slots slot)
    set k hold here =
        elim (cases_eq slot k) [
          | inl its ↦ subst Caused (sym (ap (λ (b : Bool). if b then hold else w.book.slots slot) (eq-eqb slot k its))) (here its)
          | inr other ↦ inl (ap (λ (b : Bool). if b then hold else w.book.slots slot) (ne_eqb slot k other) ∙ same)
        ]

    deed_change : (d : Deed) → May w who d → Does w who d → Caused ((done w who d).book.slots slot)
    deed_change (Transfers target kind.Synchronous) may does =
        let its = may_hand w.book.runner (turn_slot w.book) who runs may.reach.gift in
        set w.book.cursor _ (λ here. inr (inr (inr (inl (record {
          hold = its.0;
          stood = sym same ∙ ap w.book.slots here ∙ its.1;
          target = target;
          enters = subst (λ (n : ℕ). Does w n (Transfers target kind.Synchronous)) (sym its.2) does;
          here = sym here;
        })))))
    deed_change (TakesSlot k) may does =
        set k _ (λ here. inr (inl (record { taker = who; takes = subst (λ (n : ℕ). Does w who (TakesSlot n)) (sym here) does; empty = sym same ∙ ap w.book.slots here ∙ may.empty })))
    deed_change (DropsSlot k) may does =
        set k _ (λ here. inr (inr (inl (record {
          hold = may.hold;
          stood = sym same ∙ ap w.book.slots here ∙ may.stands;
          drops = subst (λ (n : ℕ). Does w n (DropsSlot slot)) (sym may.holder) (subst (λ (n : ℕ). Does w who (DropsSlot n)) (sym here) does);
        }))))
    deed_change (Transfers target kind.Asynchronous) may does = inl same
    deed_change Answers may does = inl same
    deed_change (Own own) may does = inl same
    deed_change Stops may does = inl same
    deed_change (Gives target) may does = inl same
    deed_change (Allocates page words) may does = inl same
    deed_change (Frees page) may does = inl same
    deed_change (Recaps page words) may does = inl same
    deed_change (Binds binding word) may does = inl same
    deed_change (Unbinds vpn) may does = inl same
    deed_change (TakesLine line) may does = inl same
    deed_change (DropsLine line) may does = inl same
    deed_change (Claims claim address atoms page) may does = inl same
    deed_change (Unclaims claim) may does = inl same
    deed_change (Downloads claim address words) may does = inl same
    deed_change (Loads page) may does = inl same

    call_change : (c : Option Call) → act_now w who ≡ Calls c → (v : Verdict) → verdict w who c ≡ v → Caused ((reply_by_verdict w who v).book.slots slot)
    call_change c comes (Refuse code value) is = inl same
    call_change c comes (Again other) is = inl (ap (λ (b : Core). b.slots slot) (asking_early other w).same ∙ same)
    call_change c comes (Grant value) is =
        deed_change (deed_at (w.solos who) value) (deed_may granted w who c (call_named w who c comes) value is) (call_does w who c (record { runs = runs; comes = comes }) value is)

  -- the step
  abbrev told : ℕ → World
  told who = after w (tells who Step w)

  act_change : (r : Runner) → w.book.runner ≡ Some r → (act : Act) → act_now w r.env ≡ act
      → (Lives (world_after system (suc t)) r.env → Lives (after (told r.env) (act_reply r.env act (told r.env))) r.env) → Caused ((act_reply r.env act (told r.env)).book.slots slot)
  act_change r is Nothing acts lived = inl same
  act_change r is (Stores x) acts lived = inl same
  act_change r is (Raises exc) acts lived = inl same
  act_change r is (Calls c) acts lived =
      subst (λ (v : World). Caused ((act_reply r.env (Calls c) v).book.slots slot)) (sym (call_stands w r.env c acts)) (call_change r.env (ap running is) c acts (verdict w r.env c) refl)
  act_change r is (Dies cause) acts lived =
      by_death r.env (w.book.slots slot) same (λ lives.
      let before = lives_before (told r.env) (death (told r.env) r.env) r.env (lived lives) in
      stepped_dies (w.solos r.env) cause acts (subst (λ (s : Solo). s.life ≡ Live) (told_own w r.env Step) before))

  step_change : (o : Option Runner) → w.book.runner ≡ o → ((e : ℕ) → Lives (world_after system (suc t)) e → Lives (after w (step_when w o)) e) → Caused ((step_when w o).book.slots slot)
  step_change None is lived = inl same
  step_change (Some r) is lived =
      let act = act_now w r.env in
      act_change r is act refl (λ lives. subst (λ (v : World). Lives v r.env) (in_turn_is_each w (tells r.env Step ∷ act_reply r.env act ∷ [])) (lived r.env lives))

  -- the timer
  module _ (x : World) (stands : x.book.slots slot ≡ was) where
    answer_change : (r : Runner) (what : Timer) → (Lives (world_after system (suc t)) r.env → Lives (after x (timer_reply r what x)) r.env) → Caused ((timer_reply r what x).book.slots slot)
    answer_change r answer.Nothing lived = inl stands
    answer_change r answer.End lived = inl stands
    answer_change r answer.Stop lived = inl stands
    answer_change r (answer.Over excess) lived = inl stands
    answer_change r answer.Kill lived =
        by_death r.env (x.book.slots slot) stands (λ lives.
        let v = after x (owes_more r.env x) in
        let u = after v (tells r.env Killed v) in
        let owed = subst (λ (y : World). Lives y r.env) (in_turn_is_each x (owes_more r.env ∷ kill r.env ∷ [])) (lived lives) in
        let killed = subst (λ (y : World). Lives y r.env) (in_turn_is_each v (tells r.env Killed ∷ act_reply r.env (Dies cause.Excess) ∷ [])) owed in
        let before = lives_before u (death u r.env) r.env killed in
        killed_not (v.solos r.env) (subst (λ (s : Solo). s.life ≡ Live) (told_own v r.env Killed) before))

    count_change : (o : Option Runner) → ((e : ℕ) → Lives (world_after system (suc t)) e → Lives (after x (count_when o x)) e) → Caused ((count_when o x).book.slots slot)
    count_change None lived = inl stands
    count_change (Some r) lived = answer_change r (timer_now x r) (lived r.env)

  timer_change : (x : World) → Caused (x.book.slots slot) → ((e : ℕ) → Lives (world_after system (suc t)) e → Lives (after x (timer x)) e) → Caused ((timer x).book.slots slot)
  timer_change x (inr caused) lived = inr caused
  timer_change x (inl stands) lived =
      let v = after x (count_when x.book.runner x) in
      count_change x stands x.book.runner (λ e lives. lives_before v (clock v) e (subst (λ (y : World). Lives y e) (in_turn_is_each x (count_when x.book.runner ∷ clock ∷ [])) (lived e lives)))

  tick_change : Caused ((world_after system (suc t)).book.slots slot)
  tick_change =
      let x = at_timer system t in
      let stepped : Caused (x.book.slots slot) = subst (λ (y : World). Caused (y.book.slots slot)) (sym (timer_after_step system t)) (step_change w.book.runner refl lives_then) in
      subst (λ (y : World). Caused (y.book.slots slot)) (sym (next_after_timer system t busy))
      (timer_change x stepped (λ e lives. subst (λ (y : World). Lives y e) (next_after_timer system t busy) lives))

pub slots_have_causes : GrantedMay → SlotsHaveCauses
slots_have_causes granted system t slot = by_idle (is_idle_book (world_after system t).book) refl
  where
    w : World
    w = world_after system t

    by_idle : (b : Bool) → is_idle_book (world_after system t).book ≡ b
        → ((world_after system (suc t)).book.slots slot ≡ (world_after system t).book.slots slot) ⊎ HasSlotCause system t slot ((world_after system t).book.slots slot)
    by_idle true idle = inl (ap (λ (b : Bool). (if b then w else run_phases w (next_phases system.schedule w)).book.slots slot) idle)
    by_idle false busy = tick_change granted system t slot busy
