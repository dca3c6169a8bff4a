-- Tick by tick nothing reaches a bare environment.
use Rattle.std.proofs.Common.{◌≡◌, ◌<◌, ℕ, zero, suc, List, [], ◌∷◌, ◌++◌, map, Bool, true, false, Option, None, Some, inl, inr, refl, sym, ◌∙◌, ap, subst, append_assoc, arith}
use Rattle.std.specs.Prelude.{if◌then◌else◌}
use Rattle.std.specs.List.{list_any}
use Rattle.std.proofs.lemmas.Bool.{cases_eq, eq-eqb, ne_eqb}
use Rattle.std.proofs.lemmas.List.{append-nil}
use Rattle.call_verdicts.specs.Granted.{AgainAsks, GrantedMay}
use Rattle.external_event.specs.declared.event.Occurrence.{Occurrence}
use Rattle.revocation_book.specs.Richest.{RichestHasMost}
use Rattle.revocation_book.specs.Takings.{AreTakable, TakingsAreTakable}
use Rattle.revocation_book.specs.declared.revocation.Taking.{Taking}
use Rattle.world_model.specs.declared.call.Call.{Call}
use Rattle.world_model.specs.declared.slot.Runner.{Runner}
use Rattle.world_model.specs.declared.timer.Timer.{Timer}
use Rattle.world_model.specs.declared.timer.Timer.TheVariants as answer
use Rattle.world_model.specs.Book.{Book, is_idle_book, is_runner, running}
use Rattle.world_model.specs.Deadlines.{settles, takes}
use Rattle.world_model.specs.Death.{death, lost_with}
use Rattle.world_model.specs.Event.{happen}
use Rattle.world_model.specs.Item.{Item, End, Killed, Start, Step, absorb, absorb_all}
use Rattle.world_model.specs.PageCalls.{revocations}
use Rattle.world_model.specs.Solo.{Solo, absent}
use Rattle.world_model.specs.Step.{Calls}
use Rattle.world_model.specs.Tick.{act_now, act_reply, clock, count_when, owes_more, phases_after, serve_phases, served, step, step_when, timer, timer_now, timer_reply, turn}
use Rattle.world_model.specs.World.{World, Reply, after, in_turn, no_change, only, run_phases, tells}
use Rattle.run_model.specs.Acting.{Acts}
use Rattle.run_model.specs.Boot.{boot_items, boot_world}
use Rattle.run_model.specs.Excess.{IsAccounted}
use Rattle.run_model.specs.Run.{IsFoldOfFeed, System, TimeIsTick, after_phase, at_step, feed, happens_in, items_in, next_phases, once_happened, takings_next, world_after}
use Rattle.run_model.proofs.Balance.{boots_accounted, ticks_keep_accounts}
use Rattle.run_model.proofs.Phases.{absorb-append, moments_in_order, run_append}
use Rattle.run_model.proofs.Telling.{call_stands, told_named, told_own}
use Rattle.quiet_law.specs.Quiet.{is_asking}
use Rattle.quiet_law.proofs.Booting.{boot_imaged, boot_still}
use Rattle.quiet_law.proofs.Clear.{IsClear}
use Rattle.quiet_law.proofs.Early.{IsAsBefore, Leads, events_lead, leads_both, takings_lead}
use Rattle.quiet_law.proofs.Nothing.{HasNothing, end_nothing, killed_nothing, start_nothing, step_nothing}
use Rattle.quiet_law.proofs.Others.{Passes, death_clear}
use Rattle.quiet_law.proofs.Passing.{step_passes, timer_passes}
use Rattle.quiet_law.proofs.Ticks.{events_account, takings_account}
use Rattle.quiet_law.proofs.Turning.{Another, Itself, RunsOn, Turns, turn_told}
use Rattle.due_law.specs.Bare.{BareIsPrivate, BareIsTold, IsBare, is_bare_call}
use Rattle.due_law.specs.Private.{IsPrivate, PrivateIsTold}
use Rattle.due_law.proofs.Early.{only_own}
use Rattle.due_law.proofs.Plain.{ArePlain, Keeps, act_keeps, keeps_none, keeps_one, plain_both, plain_private}

-- Nothing in the world reaches the environment.
pub record IsApart (e : ℕ) (w : World) : Type 0 where
  pub clear : IsClear e w.book
  pub nothing : HasNothing (w.solos e)

-- A reply leaves it so, with plain items.
apart_after : (e : ℕ) (w : World) (r : Reply) → Keeps e w r → IsApart e (after w r)
apart_after e w r keeps = record { clear = keeps.clear; nothing = keeps.nothing }

-- what passes it by
passed : (e : ℕ) (w : World) (r : Reply) → IsApart e w → Passes e w r → Keeps e w r
passed e w r apart passes = keeps_none e w r passes.aside.nothing passes.aside.clear apart.nothing

-- the turn
turned : (e : ℕ) (w : World) → IsApart e w → Turns e w (turn w) → Keeps e w (turn w)
turned e w apart (RunsOn waits) = keeps_none e w (turn w) waits.aside.nothing waits.aside.clear apart.nothing
turned e w apart (Itself nobody begins) = keeps_one e w (turn w) Start begins.items refl refl begins.clear (start_nothing (w.solos e) apart.nothing)
turned e w apart (Another nobody other) = keeps_none e w (turn w) other.items other.clear apart.nothing

module _ (granted : GrantedMay) (again : AgainAsks) (rich : RichestHasMost) (e : ℕ) where
  -- the step
  own_step : (w : World) → IsApart e w → ((c : Option Call) → act_now w e ≡ Calls c → is_bare_call (w.solos e).cpu c ≡ true) → Keeps e w (in_turn (tells e Step ∷ act_reply e (act_now w e) ∷ []) w)
  own_step w apart bare =
      let s = w.solos e in
      let act = act_now w e in
      let v = after w (tells e Step w) in
      let stepped : v.solos e ≡ absorb s Step = told_own w e Step in
      let its = act_keeps e v apart.clear (subst HasNothing (sym stepped) (step_nothing s apart.nothing)) granted again act
      (λ c is. (told_named w e c is, subst (λ (u : World). is_bare_call (u.solos e).cpu c ≡ true) (sym (call_stands w e c is)) (bare c is))) in
      let more = (act_reply e act v).items e in
      let reply = in_turn (tells e Step ∷ act_reply e act ∷ []) w in
      let items : reply.items e ≡ Step ∷ more = ap (λ first. first ++ (more ++ [])) (only_own e (Step ∷ [])) ∙ ap (λ xs. Step ∷ xs) (append-nil more) in
      record {
        clear = its.clear;
        nothing = subst (λ (xs : List Item). HasNothing (absorb_all s xs)) (sym items) (subst (λ (t : Solo). HasNothing (absorb_all t more)) stepped its.nothing);
        plain = subst (ArePlain s) (sym items) (refl, refl, subst (λ (t : Solo). ArePlain t more) stepped its.plain);
      }

  stepped_by : (w : World) → IsApart e w → ((c : Option Call) → Acts w e (Calls c) → is_bare_call (w.solos e).cpu c ≡ true) → (o : Option Runner) → w.book.runner ≡ o → Keeps e w (step_when w o)
  stepped_by w apart bare None nobody = keeps_none e w (no_change w) refl apart.clear apart.nothing
  stepped_by w apart bare (Some r) runs = elim (cases_eq r.env e) [
    | inl its ↦
        subst (λ (n : ℕ). Keeps e w (in_turn (tells n Step ∷ act_reply n (act_now w n) ∷ []) w)) (sym its)
        (own_step w apart (λ c is. bare c (record { runs = ap running runs ∙ ap (λ n. Some n) its; comes = is })))
    | inr away ↦
        passed e w (step_when w (Some r)) apart
        (step_passes granted again rich e w apart.clear apart.nothing.deaf r (λ same. away (sym same)) (ap (is_runner e) runs ∙ ne_eqb r.env e away))
  ]

  -- the timer
  module _ (w : World) (apart : IsApart e w) (r : Runner) (its : r.env ≡ e) where
    abbrev s : Solo
    s = w.solos e

    as_clear : (b : Book) → b.pages ≡ w.book.pages → b.binds ≡ w.book.binds → b.claims ≡ w.book.claims → b.lines ≡ w.book.lines → IsClear e b
    as_clear b pages binds claims lines = record { owned = rw pages apart.clear.owned; bound = rw binds apart.clear.bound; claims = rw claims apart.clear.claims; lines = rw lines apart.clear.lines }

    timed : (what : Timer) → Keeps e w (timer_reply r what w)
    timed answer.Nothing = keeps_none e w (timer_reply r answer.Nothing w) refl (as_clear (timer_reply r answer.Nothing w).book refl refl refl refl) apart.nothing
    timed answer.End =
        keeps_one e w (timer_reply r answer.End w) End (ap (λ (n : ℕ). only n (End ∷ []) e) its ∙ only_own e (End ∷ [])) refl refl (as_clear (timer_reply r answer.End w).book refl refl refl refl) (end_nothing s apart.nothing)
    timed answer.Stop = keeps_none e w (timer_reply r answer.Stop w) refl (as_clear (timer_reply r answer.Stop w).book refl refl refl refl) apart.nothing
    timed (answer.Over x) = keeps_none e w (timer_reply r (answer.Over x) w) refl (as_clear (timer_reply r (answer.Over x) w).book refl refl refl refl) apart.nothing
    timed answer.Kill =
        let v = after w (owes_more r.env w) in
        let u = after v (tells r.env Killed v) in
        let dead : (death u r.env).items e ≡ [] = ap (λ (t : Bool). if t then [] else lost_with u.book r.env e u.book.page_count) (eq-eqb e r.env (sym its)) in
        let reply = timer_reply r answer.Kill w in
        let items : reply.items e ≡ Killed ∷ [] =
        append-nil (only r.env (Killed ∷ []) e ++ ((death u r.env).items e ++ []))
        ∙ ap (λ (xs : List Item). only r.env (Killed ∷ []) e ++ (xs ++ [])) dead
        ∙ append-nil (only r.env (Killed ∷ []) e) ∙ ap (λ (n : ℕ). only n (Killed ∷ []) e) its ∙ only_own e (Killed ∷ []) in
        keeps_one e w reply Killed items refl refl (death_clear e u (as_clear u.book refl refl refl refl) r.env) (killed_nothing s apart.nothing)

  with_clock : (w : World) (count : World → Reply) → Keeps e w (count w) → Keeps e w (in_turn (count ∷ clock ∷ []) w)
  with_clock w count its =
      let same : (in_turn (count ∷ clock ∷ []) w).items e ≡ (count w).items e = append-nil ((count w).items e) in
      record {
        clear = (let c = its.clear in record { owned = c.owned; bound = c.bound; claims = c.claims; lines = c.lines });
        nothing = subst (λ (xs : List Item). HasNothing (absorb_all (w.solos e) xs)) (sym same) its.nothing;
        plain = subst (ArePlain (w.solos e)) (sym same) its.plain;
      }

  timed_by : (w : World) → IsApart e w → (o : Option Runner) → w.book.runner ≡ o → Keeps e w (in_turn (count_when o ∷ clock ∷ []) w)
  timed_by w apart None nobody = with_clock w (count_when None) (keeps_none e w (no_change w) refl apart.clear apart.nothing)
  timed_by w apart (Some r) runs = elim (cases_eq r.env e) [
    | inl its ↦ with_clock w (count_when (Some r)) (timed w apart r its (timer_now w r))
    | inr away ↦
        (let out = ne_eqb r.env e away in
        passed e w (in_turn (count_when (Some r) ∷ clock ∷ []) w) apart (timer_passes e w apart.clear apart.nothing.deaf (Some r) (ap (is_runner e) runs ∙ out) out))
  ]

  -- From one world to another it stays apart, and is given plain items.
  pub record Stays (w v : World) (items : List Item) : Type 0 where
    pub apart : IsApart e v
    pub plain : ArePlain (w.solos e) items

  late_stays : (w : World) → IsApart e w → IsAccounted w → (let x = after w (turn w) in (c : Option Call) → Acts x e (Calls c) → is_bare_call (x.solos e).cpu c ≡ true)
      → Stays w (run_phases w (turn ∷ step ∷ timer ∷ [])) ((in_turn (turn ∷ step ∷ timer ∷ []) w).items e)
  late_stays w apart accounted bare =
      let t = after w (turn w) in
      let u = after t (step t) in
      let first = turned e w apart (turn_told e w apart.clear accounted.slots_live w.book.runner refl) in
      let at_step = apart_after e w (turn w) first in
      let next = stepped_by t at_step bare t.book.runner refl in
      let at_timer = apart_after e t (step t) next in
      let last = timed_by u at_timer u.book.runner refl in
      let xs = (turn w).items e in
      let ys = (step t).items e in
      let zs = (timer u).items e in
      record {
        apart = apart_after e u (timer u) last;
        plain = plain_both (w.solos e) xs (ys ++ (zs ++ [])) first.plain
            (plain_both (t.solos e) ys (zs ++ []) next.plain (subst (ArePlain (u.solos e)) (sym (append-nil zs)) last.plain));
      }

  -- before the turn
  module _ (w : World) (apart : IsApart e w) (happens : List Occurrence) (unasked : list_any (is_asking e) happens ≡ false) (xs : List Taking)
      (may : (let x = run_phases w (map happen happens) in AreTakable (revocations x.book) x.book.time xs)) where
    abbrev events : List (World → Reply)
    events = map happen happens

    abbrev early : List (World → Reply)
    early = events ++ serve_phases xs

    abbrev z : World
    z = run_phases (run_phases w events) (serve_phases xs)

    at_turn : run_phases w early ≡ z
    at_turn = run_append w events (serve_phases xs)

    lead : Leads e w events
    lead = events_lead e happens w apart.clear unasked

    leads : Leads e w early
    leads = leads_both e events (serve_phases xs) w lead (takings_lead e xs (run_phases w events) lead.before.clear may) (run_append w events (serve_phases xs)) (append_assoc events (serve_phases xs))

    before : IsAsBefore e w z
    before = subst (IsAsBefore e w) at_turn leads.before

    pub early_apart : IsApart e z
    early_apart = record { clear = before.clear; nothing = subst HasNothing (sym before.solo) apart.nothing }

    abbrev late : List (World → Reply)
    late = turn ∷ step ∷ timer ∷ []

    pub whole_stays : IsAccounted w → (let x = after z (turn z) in (c : Option Call) → Acts x e (Calls c) → is_bare_call (x.solos e).cpu c ≡ true)
        → Stays w (run_phases w (phases_after happens xs)) ((in_turn (phases_after happens xs) w).items e)
    whole_stays accounted bare =
        let rest = late_stays z early_apart (takings_account xs (run_phases w events) (events_account happens w accounted)) bare in
        let in_two : phases_after happens xs ≡ early ++ late =
        ap (λ (ps : List (World → Reply)). events ++ ps) (sym (append_assoc (map takes xs) (settles ∷ []) late)) ∙ sym (append_assoc events (serve_phases xs) late) in
        let items : (in_turn (phases_after happens xs) w).items e ≡ (in_turn late z).items e =
        ap (λ (ps : List (World → Reply)). (in_turn ps w).items e) in_two ∙ leads.items late ∙ ap (λ (x : World). (in_turn late x).items e) at_turn in
        let run : run_phases w (phases_after happens xs) ≡ run_phases z late =
        ap (run_phases w) in_two ∙ run_append w early late ∙ ap (λ (x : World). run_phases x late) at_turn in
        record {
          apart = subst (IsApart e) (sym run) rest.apart;
          plain = subst (ArePlain (w.solos e)) (sym items) (subst (λ (t : Solo). ArePlain t ((in_turn late z).items e)) before.solo rest.plain);
        }

module _ (granted : GrantedMay) (again : AgainAsks) (rich : RichestHasMost) (takable : TakingsAreTakable) (time : TimeIsTick) (fold : IsFoldOfFeed) (system : System) (e most : ℕ) (bare : IsBare system e most) where
  -- In a tick at which it is apart.
  module _ (t : ℕ) (below : t < most) (apart : IsApart e (world_after system t)) where
    abbrev w : World
    w = world_after system t

    at_turned : at_step system t ≡ after_phase turn (served (once_happened system.schedule w))
    at_turned = let order = moments_in_order system t in order.turned ∙ ap (after_phase turn) (order.served ∙ ap served order.happened)

    accounted : IsAccounted w
    accounted = ticks_keep_accounts granted system.schedule (boot_world system.image) (boots_accounted system.image) t

    unasked_now : is_idle_book w.book ≡ false → list_any (is_asking e) (happens_in system.schedule w) ≡ false
    unasked_now busy =
        subst (λ (u : ℕ). list_any (is_asking e) (system.schedule u) ≡ false) (sym (time system.schedule (boot_world system.image) t (boot_imaged system.image).time busy)) (bare.unasked t below)

    by_idle : (idle : Bool) → is_idle_book w.book ≡ idle
        → Stays granted again rich e w (if idle then w else run_phases w (next_phases system.schedule w)) (if idle then [] else (in_turn (next_phases system.schedule w) w).items e)
    by_idle true idle = record { apart = apart; plain = tt }
    by_idle false busy =
        let v = once_happened system.schedule w in
        whole_stays granted again rich e w apart (happens_in system.schedule w) (unasked_now busy) (takings_next system.schedule w) (takable (revocations v.book) v.book.time v.count) accounted
        (subst (λ (x : World). (c : Option Call) → Acts x e (Calls c) → is_bare_call (x.solos e).cpu c ≡ true) at_turned (λ c acts. bare.calls t c below acts))

    stays : Stays granted again rich e w (world_after system (suc t)) (items_in system t e)
    stays = by_idle (is_idle_book w.book) refl

  -- what it was given is plain
  pub record SoFar (t : ℕ) : Type 0 where
    pub more : List Item
    pub is : boot_items system.image e ++ more ≡ feed system e t
    pub plain : ArePlain (absorb_all (absent e) (boot_items system.image e)) more
    pub apart : IsApart e (world_after system t)

  so_far : (t : ℕ) → t < suc most → SoFar t
  so_far zero below =
      let still = boot_still system.image e bare.accepts_nobody in
      record { more = []; is = append-nil (boot_items system.image e); plain = tt; apart = record { clear = still.clear; nothing = still.nothing } }
  so_far (suc t) below =
      let before = so_far t (omega (arith, below)) in
      let its = stays t (omega (arith, below)) before.apart in
      let boot = boot_items system.image e in
      let s = absorb_all (absent e) boot in
      let now = items_in system t e in
      let solo : absorb_all s before.more ≡ (world_after system t).solos e =
      sym (absorb-append (absent e) boot before.more) ∙ ap (absorb_all (absent e)) before.is ∙ sym (fold system t e) in
      record {
        more = before.more ++ now;
        is = sym (append_assoc boot before.more now) ∙ ap (λ (xs : List Item). xs ++ now) before.is;
        plain = plain_both s before.more now before.plain (subst (λ (z : Solo). ArePlain z now) (sym solo) its.plain);
        apart = its.apart;
      }

  pub private : IsPrivate system e most
  private =
      let its = so_far most (omega arith) in
      record { more = its.more; is = its.is; private = plain_private (absorb_all (absent e) (boot_items system.image e)) its.more its.plain }

  -- and it accepts nobody at its steps
  pub deaf_at : (t : ℕ) → t < most → is_idle_book (world_after system t).book ≡ false → ((at_step system t).solos e).mask ≡ 0
  deaf_at t below busy =
      let before = so_far t (omega (arith, below)) in
      let v = once_happened system.schedule (world_after system t) in
      let xs = takings_next system.schedule (world_after system t) in
      let z = early_apart granted again rich e (world_after system t) before.apart (happens_in system.schedule (world_after system t)) (unasked_now t below before.apart busy) xs (takable (revocations v.book) v.book.time v.count) in
      subst (λ (x : World). (x.solos e).mask ≡ 0) (sym (at_turned t below before.apart))
      (turned e (served v) z (turn_told e (served v) z.clear (takings_account xs v (events_account (happens_in system.schedule (world_after system t)) (world_after system t) (accounted t below before.apart))).slots_live (served v).book.runner refl)).nothing.deaf

pub bare_is_private : GrantedMay → AgainAsks → RichestHasMost → TakingsAreTakable → TimeIsTick → IsFoldOfFeed → BareIsPrivate
bare_is_private granted again rich takable time fold system e t bare =
    (λ u below busy. deaf_at granted again rich takable time fold system e t bare u below busy, private granted again rich takable time fold system e t bare)

pub bare_is_told : BareIsPrivate → PrivateIsTold → BareIsTold
bare_is_told bared told left right e t u records quanta left_bare right_bare never =
    let one = bared left e t left_bare in
    let other = bared right e u right_bare in
    told left right e t u (record { record_same = records; quantum_same = quanta; left_nobody = one.0; right_nobody = other.0 }) one.1 other.1 never
