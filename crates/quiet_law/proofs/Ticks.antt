-- A tick of a world in which an environment is quiet.
use Rattle.std.proofs.Common.{◌≡◌, ◌<◌, ℕ, List, [], ◌∷◌, ◌++◌, map, Bool, true, false, Option, None, Some, inl, inr, refl, sym, ◌∙◌, ap, subst, append_assoc}
use Rattle.std.specs.Prelude.{◌+◌, ◌*◌, if◌then◌else◌}
use Rattle.std.specs.List.{list_any}
use Rattle.std.proofs.lemmas.Bool.{eq-eqb, eqb-true, eqb-false}
use Rattle.std.proofs.lemmas.List.{append-nil}
use Rattle.aegis_limits.specs.Limits.{excess_limit}
use Rattle.external_event.specs.declared.event.Occurrence.{Occurrence}
use Rattle.revocation_book.specs.Richest.{RichestHasMost}
use Rattle.revocation_book.specs.Takings.{AreTakable}
use Rattle.revocation_book.specs.declared.revocation.Taking.{Taking}
use Rattle.call_verdicts.specs.Granted.{AgainAsks, GrantedMay}
use Rattle.world_model.specs.declared.call.Call.{Call}
use Rattle.world_model.specs.declared.life.Life.{Life}
use Rattle.world_model.specs.declared.slot.Phase.TheVariants as phase
use Rattle.world_model.specs.declared.slot.Runner.{Runner}
use Rattle.world_model.specs.Book.{is_runner, running}
use Rattle.world_model.specs.Deadlines.{settles, takes}
use Rattle.world_model.specs.Event.{happen}
use Rattle.world_model.specs.Item.{Item, Start, Step, absorb, absorb_all}
use Rattle.world_model.specs.PageCalls.{revocations}
use Rattle.world_model.specs.Solo.{Solo, is_dead}
use Rattle.world_model.specs.Step.{Calls}
use Rattle.world_model.specs.Tick.{act_now, act_reply, phases_after, serve_phases, step, step_when, timer, turn}
use Rattle.world_model.specs.World.{World, Reply, after, in_turn, run_phases, tells}
use Rattle.run_model.specs.Acting.{Acts}
use Rattle.run_model.specs.Excess.{IsAccounted}
use Rattle.run_model.proofs.Balance.{happen_accounts, taking_accounts}
use Rattle.run_model.proofs.Lives.{keep_none}
use Rattle.run_model.proofs.Phases.{run_append}
use Rattle.run_model.proofs.Replies.{still_accounts}
use Rattle.quiet_law.specs.Alone.{Alone, count_alone, is_quiet_call, quiet_slice, tick_alone, ticks_alone, with_item}
use Rattle.quiet_law.specs.Quiet.{is_asking}
use Rattle.run_model.specs.Slices.{begins_slice}
use Rattle.quiet_law.proofs.Clear.{IsClear}
use Rattle.quiet_law.proofs.Early.{IsAsBefore, Leads, events_lead, leads_both, takings_lead}
use Rattle.quiet_law.proofs.Nothing.{HasNothing, start_nothing}
use Rattle.quiet_law.proofs.Others.{IsAside, Passes, Waits}
use Rattle.quiet_law.proofs.Own.{Steps, own_steps}
use Rattle.quiet_law.proofs.Passing.{same_solo, step_passes, timer_passes}
use Rattle.quiet_law.proofs.Rest.{IfRuns, OwesWithin, RunsWithin, alone_in, left_of, left_runs, phase_of, phase_runs, same_alone, ten_quanta, tick_to_end, to_end}
use Rattle.quiet_law.proofs.Timing.{Times, own_times, some_same}
use Rattle.quiet_law.proofs.Turning.{Another, Itself, RunsOn, Starts, StartsOther, Turns, turn_told}

-- Nothing in the world reaches the environment, and where it runs its slice is one of its own.
pub record IsStill (e : ℕ) (w : World) : Type 0 where
  pub clear : IsClear e w.book
  pub nothing : HasNothing (w.solos e)
  pub within : IfRuns e (w.book.excess e) w.book.runner

-- the end of its slice, if it was given these items
abbrev pub rest_at : ℕ → ℕ → World → List Item → Alone
rest_at e quantum w items = to_end quantum (alone_in e w items)

-- From one world to another, by these items: where it runs, its slice has the same end with them; else it is given
-- nothing, and doesn't run.
pub record Goes (e : ℕ) (w v : World) (items : List Item) : Type 0 where
  pub still : IsStill e v
  pub quantum : v.book.quantum ≡ w.book.quantum
  pub course : is_runner e w.book.runner ≡ true → (xs : List Item) → rest_at e w.book.quantum w xs ≡ rest_at e w.book.quantum v (xs ++ items)
  pub out : is_runner e w.book.runner ≡ false → (items ≡ []) × (is_runner e v.book.runner ≡ false)

-- The step and the timer.
module _ (granted : GrantedMay) (again : AgainAsks) (rich : RichestHasMost) (e : ℕ) (w : World) (still : IsStill e w) (some : 0 < w.book.quantum) (quiet : (c : Option Call) → Acts w e (Calls c) → is_quiet_call (w.solos e).cpu c ≡ true) where
  abbrev u : World
  u = after w (step w)

  abbrev v : World
  v = after u (timer u)

  abbrev given : List Item
  given = (in_turn (step ∷ timer ∷ []) w).items e

  abbrev q : ℕ
  q = w.book.quantum

  -- it runs
  module _ (r : Runner) (runs : w.book.runner ≡ Some r) (its : r.env ≡ e) where
    abbrev within : RunsWithin (w.book.excess e) r
    within = still.within r runs its

    is_own : step w ≡ in_turn (tells e Step ∷ act_reply e (act_now w e) ∷ []) w
    is_own = ap (step_when w) runs ∙ ap (λ n. in_turn (tells n Step ∷ act_reply n (act_now w n) ∷ []) w) its

    steps : Steps e w r (step w)
    steps = subst (Steps e w r) (sym is_own)
        (own_steps e w still.clear still.nothing r runs (λ c is. quiet c (record { runs = ap running runs ∙ ap (λ n. Some n) its; comes = is })))

    runs_still : (x : Runner) → u.book.runner ≡ Some x → (x.env ≡ e) × RunsWithin (u.book.excess e) x
    runs_still x is = elim steps.runner [
      | inl (stays, owes) ↦ subst (λ (y : Runner). (y.env ≡ e) × RunsWithin (u.book.excess e) y) (some_same r x (sym stays ∙ is)) (its, subst (λ n. RunsWithin n r) (sym owes) within)
      | inr none ↦ let never : None ≡ Some x = sym none ∙ is in cc
    ]

    times : Times e u (timer u)
    times = own_times e u steps.clear steps.nothing (subst (λ n. 0 < n) (sym steps.quantum) some) u.book.runner refl runs_still

    ticked : (xs : List Item) → tick_alone q (alone_in e w xs) ≡ alone_in e v (xs ++ given)
    unfolding tick_alone
    ticked xs =
        let ys = (step w).items e in
        let zs = (timer u).items e in
        ap (count_alone q) (steps.alone xs)
        ∙ ap (λ (n : ℕ). count_alone n (alone_in e u (xs ++ ys))) (sym steps.quantum)
        ∙ times.alone (xs ++ ys)
        ∙ ap (alone_in e v) (append_assoc xs ys zs ∙ ap (λ (more : List Item). xs ++ (ys ++ more)) (sym (append-nil zs)))

    its_left : left_of e w.book.runner ≡ r.left
    its_left = ap (left_of e) runs ∙ left_runs e r its

    its_phase : phase_of e w.book.runner ≡ r.phase
    its_phase = ap (phase_of e) runs ∙ phase_runs e r its

    runner_goes : Goes e w v given
    runner_goes = record {
      still = record { clear = times.clear; nothing = times.nothing; within = times.within };
      quantum = times.quantum ∙ steps.quantum;
      course = λ own xs.
          tick_to_end q (alone_in e w xs) (subst (λ (n : ℕ). 0 < n) (sym its_left) within.left) (subst (OwesWithin (w.book.excess e)) (sym its_phase) within.owes)
          ∙ ap (to_end q) (ticked xs);
      out = λ other. (let clash : true ≡ false = sym (eq-eqb r.env e its) ∙ ap (is_runner e) (sym runs) ∙ other in cc);
    }

  -- it doesn't
  module _ (out : is_runner e w.book.runner ≡ false) where
    stepped : (o : Option Runner) → w.book.runner ≡ o → Passes e w (step_when w o)
    stepped None is = record { aside = record { nothing = refl; clear = still.clear; excess = refl; quantum = refl }; out = out }
    stepped (Some r) is = step_passes granted again rich e w still.clear still.nothing.deaf r (λ same. eqb-false r.env e (ap (is_runner e) (sym is) ∙ out) (sym same)) out

    first : Passes e w (step w)
    first = stepped w.book.runner refl

    solo_u : u.solos e ≡ w.solos e
    solo_u = same_solo e w (step w) first.aside.nothing

    next : Passes e u (timer u)
    next = timer_passes e u first.aside.clear (ap (λ (s : Solo). s.mask) solo_u ∙ still.nothing.deaf) u.book.runner first.out first.out

    solo_v : v.solos e ≡ w.solos e
    solo_v = same_solo e u (timer u) next.aside.nothing ∙ solo_u

    other_goes : Goes e w v given
    other_goes = record {
      still = record {
        clear = next.aside.clear;
        nothing = subst HasNothing (sym solo_v) still.nothing;
        within = λ r is its. (let clash : true ≡ false = sym (eq-eqb r.env e its) ∙ ap (is_runner e) (sym is) ∙ next.out in cc);
      };
      quantum = next.aside.quantum ∙ first.aside.quantum;
      course = λ own xs. (let clash : true ≡ false = sym own ∙ out in cc);
      out = λ other. (ap (λ (xs : List Item). xs ++ ((timer u).items e ++ [])) first.aside.nothing ∙ ap (λ (xs : List Item). xs ++ []) next.aside.nothing, next.out);
    }

  by_runner : (o : Option Runner) → w.book.runner ≡ o → (own : Bool) → is_runner e o ≡ own → Goes e w v given
  by_runner None is own its = other_goes (ap (is_runner e) is)
  by_runner (Some r) is true its = runner_goes r is (eqb-true r.env e its)
  by_runner (Some r) is false its = other_goes (ap (is_runner e) is ∙ its)

  pub step_goes : Goes e w v given
  step_goes = by_runner w.book.runner refl (is_runner e w.book.runner) refl

-- A tick, or its phases from the turn on: the environment's slice goes on, or one begins, or it is given nothing and
-- doesn't run behind it.
pub data Told (e : ℕ) (w v : World) (items : List Item) : Type 0 where
  GoesOn : is_runner e w.book.runner ≡ true → ((xs : List Item) → rest_at e w.book.quantum w xs ≡ rest_at e w.book.quantum v (xs ++ items)) → Told e w v items
  Begins : is_runner e w.book.runner ≡ false → list_any begins_slice items ≡ true → ((xs : List Item) → quiet_slice w.book.quantum (alone_in e w xs) ≡ rest_at e w.book.quantum v (xs ++ items)) → Told e w v items
  Out : is_runner e w.book.runner ≡ false → items ≡ [] → is_runner e v.book.runner ≡ false → Told e w v items

pub record Tells (e : ℕ) (w v : World) (items : List Item) : Type 0 where
  pub still : IsStill e v
  pub quantum : v.book.quantum ≡ w.book.quantum
  pub told : Told e w v items

-- who doesn't run, and isn't in a slice
aside_within : (e excess : ℕ) (runner : Option Runner) → is_runner e runner ≡ false → IfRuns e excess runner
aside_within e excess runner out r is its = let clash : true ≡ false = sym (eq-eqb r.env e its) ∙ ap (is_runner e) (sym is) ∙ out in cc

-- The turn, the step and the timer.
module _ (granted : GrantedMay) (again : AgainAsks) (rich : RichestHasMost) (e : ℕ) (w : World) (still : IsStill e w) (accounted : IsAccounted w) (some : 0 < w.book.quantum)
    (quiet : (let x = after w (turn w) in (c : Option Call) → Acts x e (Calls c) → is_quiet_call (x.solos e).cpu c ≡ true)) where
  abbrev turned : World
  turned = after w (turn w)

  abbrev behind : World
  behind = let x = after turned (step turned) in after x (timer x)

  abbrev given_behind : List Item
  given_behind = (in_turn (step ∷ timer ∷ []) turned).items e

  abbrev all_given : List Item
  all_given = (in_turn (turn ∷ step ∷ timer ∷ []) w).items e

  goes : IsStill e turned → turned.book.quantum ≡ w.book.quantum → Goes e turned behind given_behind
  goes ready same = step_goes granted again rich e turned ready (subst (λ n. 0 < n) (sym same) some) quiet

  -- as it was
  module _ (waits : Waits e w (turn w)) where
    abbrev a : IsAside e w (turn w)
    a = waits.aside

    same : turned.solos e ≡ w.solos e
    same = same_solo e w (turn w) a.nothing

    on_ready : IsStill e turned
    on_ready = record {
      clear = a.clear;
      nothing = subst HasNothing (sym same) still.nothing;
      within = λ r is own. subst (λ n. RunsWithin n r) (sym a.excess) (still.within r (sym waits.runner ∙ is) own);
    }

    on_goes : Goes e turned behind given_behind
    on_goes = goes on_ready a.quantum

    on_items : all_given ≡ given_behind
    on_items = ap (λ (xs : List Item). xs ++ given_behind) a.nothing

    by_own : (own : Bool) → is_runner e w.book.runner ≡ own → Told e w behind all_given
    by_own true own = GoesOn own (λ xs.
        ap (to_end w.book.quantum) (same_alone (alone_in e w xs) (alone_in e turned xs) refl (sym same) (ap (left_of e) (sym waits.runner)) (ap (phase_of e) (sym waits.runner)) (sym a.excess))
        ∙ ap (λ (n : ℕ). rest_at e n turned xs) (sym a.quantum)
        ∙ on_goes.course (ap (is_runner e) waits.runner ∙ own) xs
        ∙ ap (λ (n : ℕ). rest_at e n behind (xs ++ given_behind)) a.quantum
        ∙ ap (λ (ys : List Item). rest_at e w.book.quantum behind (xs ++ ys)) (sym on_items))
    by_own false own = let away = on_goes.out (ap (is_runner e) waits.runner ∙ own) in Out own (on_items ∙ away.0) away.1

    runs_on : Tells e w behind all_given
    runs_on = record { still = on_goes.still; quantum = on_goes.quantum ∙ a.quantum; told = by_own (is_runner e w.book.runner) refl }

  -- it starts
  module _ (nobody : w.book.runner ≡ None) (begins : Starts e w (turn w)) where
    abbrev runner : Runner
    runner = record { env = e; left = w.book.quantum; phase = phase.Own }

    started : turned.solos e ≡ absorb (w.solos e) Start
    started = ap (absorb_all (w.solos e)) begins.items

    start_ready : IsStill e turned
    start_ready = record {
      clear = begins.clear;
      nothing = subst HasNothing (sym started) (start_nothing (w.solos e) still.nothing);
      within = λ r is own. subst (RunsWithin (turned.book.excess e)) (some_same runner r (sym begins.runs ∙ is)) (record { left = some; owes = begins.free });
    }

    start_goes : Goes e turned behind given_behind
    start_goes = goes start_ready begins.quantum

    start_items : all_given ≡ Start ∷ given_behind
    start_items = ap (λ (xs : List Item). xs ++ given_behind) begins.items

    start_course : (xs : List Item) → quiet_slice w.book.quantum (alone_in e w xs) ≡ rest_at e w.book.quantum behind (xs ++ all_given)
    start_course xs =
        let q = w.book.quantum in
        let a = with_item Start (record (alone_in e w xs) { left = q; phase = phase.Own; excess = 0 }) in
        let ys = xs ++ Start ∷ [] in
        ap (λ (life : Life). if is_dead life then record (alone_in e w xs) { excess = 0 } else ticks_alone q ((2 + excess_limit) * q) a) begins.lives
        ∙ ap (λ (n : ℕ). ticks_alone q n a) (ten_quanta q)
        ∙ ap (to_end q) (same_alone a (alone_in e turned ys) refl (sym started)
        (sym (ap (left_of e) begins.runs ∙ left_runs e runner refl)) (sym (ap (phase_of e) begins.runs ∙ phase_runs e runner refl)) (sym begins.free))
        ∙ ap (λ (n : ℕ). rest_at e n turned ys) (sym begins.quantum)
        ∙ start_goes.course (ap (is_runner e) begins.runs ∙ eq-eqb e e refl) ys
        ∙ ap (λ (n : ℕ). rest_at e n behind (ys ++ given_behind)) begins.quantum
        ∙ ap (rest_at e q behind) (append_assoc xs (Start ∷ []) given_behind ∙ ap (λ (zs : List Item). xs ++ zs) (sym start_items))

    itself : Tells e w behind all_given
    itself = record {
      still = start_goes.still;
      quantum = start_goes.quantum ∙ begins.quantum;
      told = Begins (ap (is_runner e) nobody) (ap (list_any begins_slice) start_items) start_course;
    }

  -- another does
  another : w.book.runner ≡ None → StartsOther e w (turn w) → Tells e w behind all_given
  another nobody other =
      let same : turned.solos e ≡ w.solos e = same_solo e w (turn w) other.items in
      let ready : IsStill e turned = record { clear = other.clear; nothing = subst HasNothing (sym same) still.nothing; within = aside_within e (turned.book.excess e) turned.book.runner other.out } in
      let its = goes ready other.quantum in
      let away = its.out other.out in
      record { still = its.still; quantum = its.quantum ∙ other.quantum; told = Out (ap (is_runner e) nobody) (ap (λ (xs : List Item). xs ++ given_behind) other.items ∙ away.0) away.1 }

  by_turn : Turns e w (turn w) → Tells e w behind all_given
  by_turn (RunsOn waits) = runs_on waits
  by_turn (Itself nobody begins) = itself nobody begins
  by_turn (Another nobody other) = another nobody other

  pub turn_tells : Tells e w behind all_given
  turn_tells = by_turn (turn_told e w still.clear accounted.slots_live w.book.runner refl)

-- Before the turn the accounts stay in order.
pub events_account : (happens : List Occurrence) (w : World) → IsAccounted w → IsAccounted (run_phases w (map happen happens))
events_account [] w good = good
events_account (what ∷ happens) w good = events_account happens (after w (happen what w)) (happen_accounts what w good)

pub takings_account : (xs : List Taking) (w : World) → IsAccounted w → IsAccounted (run_phases w (map takes xs ++ settles ∷ []))
takings_account [] w good = still_accounts w (settles w) good refl tt (λ i. keep_none)
takings_account (x ∷ xs) w good = takings_account xs (after w (takes x w)) (taking_accounts x w good)

-- A whole tick, in which this happens, and this is taken.
module _ (granted : GrantedMay) (again : AgainAsks) (rich : RichestHasMost) (e : ℕ) (w : World) (still : IsStill e w) (accounted : IsAccounted w) (some : 0 < w.book.quantum)
    (happens : List Occurrence) (unasked : list_any (is_asking e) happens ≡ false) (xs : List Taking)
    (may : (let x = run_phases w (map happen happens) in AreTakable (revocations x.book) x.book.time xs)) where
  abbrev happened : World
  happened = run_phases w (map happen happens)

  abbrev served : World
  served = run_phases happened (serve_phases xs)

  abbrev early : List (World → Reply)
  early = map happen happens ++ serve_phases xs

  abbrev late : List (World → Reply)
  late = turn ∷ step ∷ timer ∷ []

  events : Leads e w (map happen happens)
  events = events_lead e happens w still.clear unasked

  leads : Leads e w early
  leads = leads_both e (map happen happens) (serve_phases xs) w events (takings_lead e xs happened events.before.clear may)
      (run_append w (map happen happens) (serve_phases xs)) (append_assoc (map happen happens) (serve_phases xs))

  at_turn : run_phases w early ≡ served
  at_turn = run_append w (map happen happens) (serve_phases xs)

  in_two : phases_after happens xs ≡ early ++ late
  in_two = ap (λ (ys : List (World → Reply)). map happen happens ++ ys) (sym (append_assoc (map takes xs) (settles ∷ []) late)) ∙ sym (append_assoc (map happen happens) (serve_phases xs) late)

  before : IsAsBefore e w served
  before = subst (IsAsBefore e w) at_turn leads.before

  ready : IsStill e served
  ready = record {
    clear = before.clear;
    nothing = subst HasNothing (sym before.solo) still.nothing;
    within = λ r is own. subst (λ n. RunsWithin n r) (sym before.excess) (still.within r (sym before.runner ∙ is) own);
  }

  module _ (quiet : (let x = after served (turn served) in (c : Option Call) → Acts x e (Calls c) → is_quiet_call (x.solos e).cpu c ≡ true)) where
    abbrev ended : World
    ended = run_phases served late

    from_turn : Tells e served ended ((in_turn late served).items e)
    from_turn = turn_tells granted again rich e served ready (takings_account xs happened (events_account happens w accounted)) (subst (λ n. 0 < n) (sym before.quantum) some) quiet

    same_before : (xs : List Item) → alone_in e served xs ≡ alone_in e w xs
    same_before xs = same_alone (alone_in e served xs) (alone_in e w xs) refl before.solo (ap (left_of e) before.runner) (ap (phase_of e) before.runner) before.excess

    from_start : {items : List Item} → Told e served ended items → Told e w ended items
    from_start {items} (GoesOn own course) = GoesOn (ap (is_runner e) (sym before.runner) ∙ own) (λ xs.
        ap (to_end w.book.quantum) (sym (same_before xs)) ∙ ap (λ (n : ℕ). rest_at e n served xs) (sym before.quantum)
        ∙ course xs ∙ ap (λ (n : ℕ). rest_at e n ended (xs ++ items)) before.quantum)
    from_start {items} (Begins other begins course) = Begins (ap (is_runner e) (sym before.runner) ∙ other) begins (λ xs.
        ap (quiet_slice w.book.quantum) (sym (same_before xs)) ∙ ap (λ (n : ℕ). quiet_slice n (alone_in e served xs)) (sym before.quantum)
        ∙ course xs ∙ ap (λ (n : ℕ). rest_at e n ended (xs ++ items)) before.quantum)
    from_start {items} (Out other none out) = Out (ap (is_runner e) (sym before.runner) ∙ other) none out

    here : Tells e w ended ((in_turn late served).items e)
    here = record { still = from_turn.still; quantum = from_turn.quantum ∙ before.quantum; told = from_start from_turn.told }

    all_items : (in_turn (phases_after happens xs) w).items e ≡ (in_turn late served).items e
    all_items = ap (λ phases. (in_turn phases w).items e) in_two ∙ leads.items late ∙ ap (λ (x : World). (in_turn late x).items e) at_turn

    all_run : run_phases w (phases_after happens xs) ≡ ended
    all_run = ap (run_phases w) in_two ∙ run_append w early late ∙ ap (λ (x : World). run_phases x late) at_turn

    pub tick_tells : Tells e w (run_phases w (phases_after happens xs)) ((in_turn (phases_after happens xs) w).items e)
    tick_tells = subst (λ (x : World). Tells e w x ((in_turn (phases_after happens xs) w).items e)) (sym all_run) (subst (Tells e w ended) (sym all_items) here)
