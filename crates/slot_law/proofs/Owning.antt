-- What each phase of a tick leaves of a slot's owner.
use Rattle.std.proofs.Common.{arith, refl, sym, ◌∙◌, ap, subst, ◌≡◌, ◌≤◌, inl, inr, ℕ, zero, suc, List, [], ◌∷◌, map, Bool, true, false, Option, None, Some}
use Rattle.std.specs.Prelude.{◌==◌, if◌then◌else◌}
use Rattle.std.specs.Option.{option_map}
use Rattle.std.proofs.lemmas.Bool.{cases_eq, cases_lt, cond_both, eq-eqb, ne_eqb}
use Rattle.external_event.specs.declared.event.Occurrence.{Occurrence}
use Rattle.env_frames.specs.declared.transfer.TransferKind.TheVariants as kind
use Rattle.revocation_book.specs.declared.revocation.Taking.{Taking}
use Rattle.world_model.specs.declared.call.Call.{Call}
use Rattle.world_model.specs.declared.call.Deed.{Deed}
use Rattle.world_model.specs.declared.call.Deed.TheVariants.{Answers, Own, Stops, Gives, Allocates, Frees, Recaps, Binds, Unbinds, Transfers, TakesSlot, DropsSlot, TakesLine, DropsLine, Claims, Unclaims, Downloads, Loads}
use Rattle.world_model.specs.declared.hold.Hold.{Hold}
use Rattle.world_model.specs.declared.life.Cause.{Cause}
use Rattle.world_model.specs.declared.life.Cause.TheVariants as cause
use Rattle.world_model.specs.declared.life.Life.TheVariants.{Live, Dead}
use Rattle.world_model.specs.declared.slot.Runner.{Runner}
use Rattle.world_model.specs.declared.slot.Turn.{Turn}
use Rattle.world_model.specs.declared.timer.Timer.{Timer}
use Rattle.world_model.specs.declared.timer.Timer.TheVariants as answer
use Rattle.world_model.specs.declared.verdict.Verdict.{Verdict}
use Rattle.world_model.specs.declared.verdict.Verdict.TheVariants.{Refuse, Again, Grant}
use Rattle.world_model.specs.Book.{hold_without, is_idle_book, own_hold, running, whole_turn}
use Rattle.world_model.specs.Death.{death}
use Rattle.world_model.specs.Deadlines.{takes, takings}
use Rattle.world_model.specs.Event.{happen}
use Rattle.world_model.specs.Item.{Killed, Step, absorb, deed_at}
use Rattle.world_model.specs.May.{May}
use Rattle.world_model.specs.SlotCalls.{dropped, held_by, turn_slot}
use Rattle.world_model.specs.Solo.{Solo, dead, is_dead}
use Rattle.world_model.specs.Step.{Act, Nothing, Stores, Calls, Raises, Dies, act_of, acted, step_alone, stepped}
use Rattle.world_model.specs.Table.{set_at}
use Rattle.world_model.specs.Tick.{act_now, act_reply, clock, count_when, kill, owes_more, serve_phases, served, step, step_when, take_turn, timer, timer_now, timer_reply, turn_when}
use Rattle.world_model.specs.Verdict.{done, reply_by_verdict, verdict}
use Rattle.world_model.specs.World.{World, after, run_phases, tells}
use Rattle.mips_exec.specs.Step.{cpu_after}
use Rattle.call_verdicts.specs.Granted.{GrantedMay}
use Rattle.run_model.specs.Acting.{Does}
use Rattle.run_model.specs.Excess.{Lives}
use Rattle.run_model.specs.Run.{System, at_step, at_timer, at_turn, happens_in, next_phases, once_happened, world_after}
use Rattle.run_model.proofs.Phases.{deadlines_after_events, in_turn_is_each, next_after_timer, step_after_turn, timer_after_step, turn_after_serving}
use Rattle.run_model.proofs.Telling.{call_does, call_named, call_stands, deed_may, told_own}
use Rattle.ledger_law.proofs.Told.{Core, core, lives_before}
use Rattle.ledger_law.proofs.Events.{asking_early, happen_early}
use Rattle.slot_law.specs.SlotLaw.{KeepsSlot, OwnedSlotStays, owner_of}

-- before the turn
events_core : (happens : List Occurrence) (v : World) → core (run_phases v (map happen happens)).book ≡ core v.book
events_core [] v = refl
events_core (what ∷ happens) v = events_core happens (after v (happen what v)) ∙ (happen_early what v).same

serving_core : (xs : List Taking) (v : World) → core (run_phases v (serve_phases xs)).book ≡ core v.book
serving_core [] v = refl
serving_core (x ∷ xs) v = serving_core xs (after v (takes x v))

pub turn_core : (system : System) (t : ℕ) → core (at_turn system t).book ≡ core (world_after system t).book
turn_core system t =
    let w = world_after system t in
    let v = once_happened system.schedule w in
    ap (λ (u : World). core u.book) (turn_after_serving system t ∙ ap served (deadlines_after_events system t)) ∙ serving_core (takings v) v ∙ events_core (happens_in system.schedule w) w

-- the turn
taken_slots : (v : World) (o : Option Turn) → (take_turn v (whole_turn v.book) o).book.slots ≡ v.book.slots
taken_slots v None = refl
taken_slots v (Some t) = refl

pub turn_slots : (v : World) (o : Option Runner) → (turn_when v o).book.slots ≡ v.book.slots
turn_slots v (Some r) = refl
turn_slots v None = taken_slots v (whole_turn v.book).runs

-- deaths of others
without_owner : (gone e : ℕ) (o : Option Hold) → (gone ≡ e → ⊥) → owner_of o ≡ Some e → owner_of (hold_without gone o) ≡ Some e
without_owner gone e None other owns = cc
without_owner gone e (Some hold) other owns =
    let is : hold.owner ≡ e = cc in
    let spared : (hold.owner == gone) ≡ false = ne_eqb hold.owner gone (λ (same : hold.owner ≡ gone). other (sym same ∙ is)) in
    let rest = if hold.holder == gone then Some (own_hold hold.owner) else Some hold in
    ap (λ (b : Bool). owner_of (if b then None else rest)) spared
    ∙ cond_both (hold.holder == gone) (Some (own_hold hold.owner)) (Some hold) (λ (o : Option Hold). owner_of o ≡ Some e) (λ gives. owns) (λ stays. owns)

pub stepped_dies : (s : Solo) (cause : Cause) → act_of s (step_alone s) ≡ Dies cause → (absorb s Step).life ≡ Live → ⊥
stepped_dies s cause is =
    cond_both (is_dead s.life) s (stepped s (step_alone s)) (λ (t : Solo). t.life ≡ Live → ⊥)
    (λ gone lives. let never : true ≡ false = sym gone ∙ ap is_dead lives in cc)
    (λ alive lives. let never : Dead cause ≡ Live = sym (ap (λ (act : Act). (acted act (record s { cpu = cpu_after s.cpu (step_alone s) })).life) is) ∙ lives in cc)

pub killed_not : (s : Solo) → (absorb s Killed).life ≡ Live → ⊥
killed_not s =
    cond_both (is_dead s.life) s (dead cause.Excess s) (λ (t : Solo). t.life ≡ Live → ⊥) (λ gone lives. let never : true ≡ false = sym gone ∙ ap is_dead lives in cc) (λ alive lives. cc)

handed_owner : (to : ℕ) (o : Option Hold) → owner_of (option_map (held_by to) o) ≡ owner_of o
handed_owner to None = refl
handed_owner to (Some hold) = refl

-- a slot that is set
set_owner : (slot k e : ℕ) (hold : Option Hold) (slots : ℕ → Option Hold) → owner_of (slots slot) ≡ Some e → (slot ≡ k → owner_of hold ≡ Some e) → owner_of (set_at k hold slots slot) ≡ Some e
set_owner slot k e hold slots owns here =
    elim (cases_eq slot k) [
      | inl same ↦ ap (λ (b : Bool). owner_of (if b then hold else slots slot)) (eq-eqb slot k same) ∙ here same
      | inr other ↦ ap (λ (b : Bool). owner_of (if b then hold else slots slot)) (ne_eqb slot k other) ∙ owns
    ]

-- The runner's deed.
module _ (w : World) (who slot e : ℕ) (owns : owner_of (w.book.slots slot) ≡ Some e) where
  taken_owner : (k : ℕ) → w.book.slots k ≡ None → slot ≡ k → owner_of (Some (own_hold who)) ≡ Some e
  taken_owner k empty same = let never : None ≡ Some e = sym (ap owner_of (ap w.book.slots same ∙ empty)) ∙ owns in cc

  dropped_owner : (o : Option Hold) → owner_of o ≡ Some e → (who ≡ e → ⊥) → owner_of (dropped who o) ≡ Some e
  dropped_owner None is other = cc
  dropped_owner (Some hold) is other =
      let same : hold.owner ≡ e = cc in
      ap (λ (b : Bool). owner_of (if b then None else Some (own_hold hold.owner))) (ne_eqb hold.owner who (λ (mine : hold.owner ≡ who). other (sym mine ∙ same))) ∙ is

  deed_owner : (d : Deed) → May w who d → (d ≡ DropsSlot slot → who ≡ e → ⊥) → owner_of ((done w who d).book.slots slot) ≡ Some e
  deed_owner Answers may keeps = owns
  deed_owner (Own own) may keeps = owns
  deed_owner Stops may keeps = owns
  deed_owner (Gives target) may keeps = owns
  deed_owner (Allocates page words) may keeps = owns
  deed_owner (Frees page) may keeps = owns
  deed_owner (Recaps page words) may keeps = owns
  deed_owner (Binds binding word) may keeps = owns
  deed_owner (Unbinds vpn) may keeps = owns
  deed_owner (Transfers target kind.Asynchronous) may keeps = owns
  deed_owner (Transfers target kind.Synchronous) may keeps =
      set_owner slot w.book.cursor e (option_map (held_by target) (turn_slot w.book)) w.book.slots owns
      (λ same. handed_owner target (turn_slot w.book) ∙ ap (λ (k : ℕ). owner_of (w.book.slots k)) (sym same) ∙ owns)
  deed_owner (TakesSlot k) may keeps = set_owner slot k e (Some (own_hold who)) w.book.slots owns (taken_owner k may.empty)
  deed_owner (DropsSlot k) may keeps =
      set_owner slot k e (dropped who (w.book.slots k)) w.book.slots owns
      (λ same. dropped_owner (w.book.slots k) (ap (λ (n : ℕ). owner_of (w.book.slots n)) (sym same) ∙ owns) (λ (mine : who ≡ e). keeps (ap (λ (n : ℕ). DropsSlot n) (sym same)) mine))
  deed_owner (TakesLine line) may keeps = owns
  deed_owner (DropsLine line) may keeps = owns
  deed_owner (Claims claim address atoms page) may keeps = owns
  deed_owner (Unclaims claim) may keeps = owns
  deed_owner (Downloads claim address words) may keeps = owns
  deed_owner (Loads page) may keeps = owns

  verdict_owner : (v : Verdict) → ((value : ℕ) → v ≡ Grant value → May w who (deed_at (w.solos who) value) × (deed_at (w.solos who) value ≡ DropsSlot slot → who ≡ e → ⊥))
      → owner_of ((reply_by_verdict w who v).book.slots slot) ≡ Some e
  verdict_owner (Refuse code value) may = owns
  verdict_owner (Again other) may = ap (λ (c : Core). owner_of (c.slots slot)) (asking_early other w).same ∙ owns
  verdict_owner (Grant value) may = let granted = may value refl in deed_owner (deed_at (w.solos who) value) granted.0 granted.1

-- The step.
module _ (granted : GrantedMay) (w : World) (slot e : ℕ) (owns : owner_of (w.book.slots slot) ≡ Some e) (keeps : Does w e (DropsSlot slot) → ⊥) where
  does : (r : Runner) → w.book.runner ≡ Some r → (call : Option Call) → act_now w r.env ≡ Calls call → (value : ℕ) → verdict w r.env call ≡ Grant value → Does w r.env (deed_at (w.solos r.env) value)
  does r is call acts value grants = call_does w r.env call (record { runs = ap running is; comes = acts }) value grants

  calls : (r : Runner) → w.book.runner ≡ Some r → (call : Option Call) → act_now w r.env ≡ Calls call → owner_of ((act_reply r.env (Calls call) w).book.slots slot) ≡ Some e
  calls r is call acts =
      verdict_owner w r.env slot e owns (verdict w r.env call)
      (λ value grants. (deed_may granted w r.env call (call_named w r.env call acts) value grants, λ drops mine. keeps (its drops mine (does r is call acts value grants))))
    where
      its : {d : Deed} → d ≡ DropsSlot slot → r.env ≡ e → Does w r.env d → Does w e (DropsSlot slot)
      its drops mine given = subst (λ (n : ℕ). Does w n (DropsSlot slot)) mine (subst (Does w r.env) drops given)

  abbrev told : ℕ → World
  told who = after w (tells who Step w)

  act_owner : (r : Runner) → w.book.runner ≡ Some r → (act : Act) → act_now w r.env ≡ act → (Lives (after (told r.env) (act_reply r.env act (told r.env))) e) → owner_of ((act_reply r.env act (told r.env)).book.slots slot) ≡ Some e
  act_owner r is Nothing acts lives = owns
  act_owner r is (Stores x) acts lives = owns
  act_owner r is (Calls call) acts lives = subst (λ (v : World). owner_of ((act_reply r.env (Calls call) v).book.slots slot) ≡ Some e) (sym (call_stands w r.env call acts)) (calls r is call acts)
  act_owner r is (Raises exc) acts lives = owns
  act_owner r is (Dies cause) acts lives =
      without_owner r.env e (w.book.slots slot)
      (λ (mine : r.env ≡ e).
      let before = lives_before (told r.env) (death (told r.env) r.env) e lives in
      let own : Lives (told r.env) r.env = subst (Lives (told r.env)) (sym mine) before in
      stepped_dies (w.solos r.env) cause acts (subst (λ (s : Solo). s.life ≡ Live) (told_own w r.env Step) own)) owns

  step_by : (o : Option Runner) → w.book.runner ≡ o → Lives (after w (step_when w o)) e → owner_of ((step_when w o).book.slots slot) ≡ Some e
  step_by None is lives = owns
  step_by (Some r) is lives =
      let act = act_now w r.env in
      act_owner r is act refl (subst (λ (v : World). Lives v e) (in_turn_is_each w (tells r.env Step ∷ act_reply r.env act ∷ [])) lives)

  pub step_owner : Lives (after w (step w)) e → owner_of ((step w).book.slots slot) ≡ Some e
  step_owner lives = step_by w.book.runner refl lives

-- The timer.
module _ (w : World) (slot e : ℕ) (owns : owner_of (w.book.slots slot) ≡ Some e) where
  kill_owner : (r : Runner) → Lives (after w (timer_reply r answer.Kill w)) e → owner_of ((timer_reply r answer.Kill w).book.slots slot) ≡ Some e
  kill_owner r lives =
      let v = after w (owes_more r.env w) in
      let u = after v (tells r.env Killed v) in
      let owed = subst (λ (x : World). Lives x e) (in_turn_is_each w (owes_more r.env ∷ kill r.env ∷ [])) lives in
      let killed = subst (λ (x : World). Lives x e) (in_turn_is_each v (tells r.env Killed ∷ act_reply r.env (Dies cause.Excess) ∷ [])) owed in
      let before = lives_before u (death u r.env) e killed in
      without_owner r.env e (w.book.slots slot)
      (λ (mine : r.env ≡ e). killed_not (v.solos r.env) (subst (λ (s : Solo). s.life ≡ Live) (told_own v r.env Killed) (subst (Lives u) (sym mine) before))) owns

  answer_owner : (r : Runner) (what : Timer) → Lives (after w (timer_reply r what w)) e → owner_of ((timer_reply r what w).book.slots slot) ≡ Some e
  answer_owner r answer.Nothing lives = owns
  answer_owner r answer.End lives = owns
  answer_owner r answer.Stop lives = owns
  answer_owner r (answer.Over excess) lives = owns
  answer_owner r answer.Kill lives = kill_owner r lives

  count_owner : (o : Option Runner) → Lives (after w (count_when o w)) e → owner_of ((count_when o w).book.slots slot) ≡ Some e
  count_owner None lives = owns
  count_owner (Some r) lives = answer_owner r (timer_now w r) lives

  pub timer_owner : Lives (after w (timer w)) e → owner_of ((timer w).book.slots slot) ≡ Some e
  timer_owner lives =
      let v = after w (count_when w.book.runner w) in
      let counted = subst (λ (x : World). Lives x e) (in_turn_is_each w (count_when w.book.runner ∷ clock ∷ [])) lives in
      count_owner w.book.runner (lives_before v (clock v) e counted)

-- A tick, and ticks.
tick_owner : GrantedMay → (system : System) (slot e t : ℕ) → is_idle_book (world_after system t).book ≡ false → owner_of ((world_after system t).book.slots slot) ≡ Some e → KeepsSlot system slot e t
    → owner_of ((world_after system (suc t)).book.slots slot) ≡ Some e
tick_owner granted system slot e t busy owns keeps =
    let v = at_turn system t in
    let u = at_step system t in
    let x = at_timer system t in
    let early : owner_of (v.book.slots slot) ≡ Some e = ap (λ (c : Core). owner_of (c.slots slot)) (turn_core system t) ∙ owns in
    let turned : owner_of (u.book.slots slot) ≡ Some e =
    ap (λ (y : World). owner_of (y.book.slots slot)) (step_after_turn system t) ∙ ap (λ (slots : ℕ → Option Hold). owner_of (slots slot)) (turn_slots v v.book.runner) ∙ early in
    let lives : Lives (after x (timer x)) e = subst (λ (y : World). Lives y e) (next_after_timer system t busy) keeps.lives in
    let before : Lives (after u (step u)) e = subst (λ (y : World). Lives y e) (timer_after_step system t) (lives_before x (timer x) e lives) in
    let stepped : owner_of (x.book.slots slot) ≡ Some e =
    ap (λ (y : World). owner_of (y.book.slots slot)) (timer_after_step system t) ∙ step_owner granted u slot e turned keeps.drops_not before in
    ap (λ (y : World). owner_of (y.book.slots slot)) (next_after_timer system t busy) ∙ timer_owner x slot e stepped lives

next_owner : GrantedMay → (system : System) (slot e t : ℕ) → owner_of ((world_after system t).book.slots slot) ≡ Some e → KeepsSlot system slot e t → owner_of ((world_after system (suc t)).book.slots slot) ≡ Some e
next_owner granted system slot e t owns keeps = by_idle (is_idle_book (world_after system t).book) refl
  where
    w : World
    w = world_after system t

    by_idle : (b : Bool) → is_idle_book w.book ≡ b → owner_of ((world_after system (suc t)).book.slots slot) ≡ Some e
    by_idle true idle = ap (λ (b : Bool). owner_of ((if b then w else run_phases w (next_phases system.schedule w)).book.slots slot)) idle ∙ owns
    by_idle false busy = tick_owner granted system slot e t busy owns keeps

same_tick : (t u : ℕ) → t ≤ u → u ≤ t → t ≡ u
same_tick t u less more = omega (arith, less, more)

pub owned_slot_stays : GrantedMay → OwnedSlotStays
owned_slot_stays granted system slot e t zero less owns keeps = ap (λ (n : ℕ). owner_of ((world_after system n).book.slots slot)) (sym (same_tick t zero less (omega arith))) ∙ owns
owned_slot_stays granted system slot e t (suc u) less owns keeps =
    elim (cases_lt t (suc u)) [
      | inl below ↦
          let was = owned_slot_stays granted system slot e t u (omega (arith, below)) owns (λ n since until. keeps n since (omega (arith, until))) in
          next_owner granted system slot e u was (keeps u (omega (arith, below)) (omega arith))
      | inr past ↦ ap (λ (n : ℕ). owner_of ((world_after system n).book.slots slot)) (sym (same_tick t (suc u) less past)) ∙ owns
    ]
