-- Tick by tick: what a quiet environment was given, and the rest of its slice, are what it makes alone.
use Rattle.std.proofs.Common.{◌≡◌, ◌<◌, ◌≤◌, ◌+◌, ℕ, zero, suc, List, [], ◌++◌, Bool, true, false, Option, None, Some, refl, sym, ◌∙◌, ap, subst, arith}
use Rattle.std.specs.Prelude.{◌||◌, ◌&&◌, not, if◌then◌else◌, is_none}
use Rattle.std.specs.List.{list_any}
use Rattle.std.proofs.lemmas.Bool.{and_parts, or_parts}
use Rattle.std.proofs.lemmas.List.{append-nil}
use Rattle.revocation_book.specs.Richest.{RichestHasMost}
use Rattle.revocation_book.specs.Takings.{TakingsAreTakable}
use Rattle.call_verdicts.specs.Granted.{AgainAsks, GrantedMay}
use Rattle.world_model.specs.declared.call.Call.{Call}
use Rattle.world_model.specs.declared.slot.Phase.TheVariants as phase
use Rattle.world_model.specs.declared.slot.Runner.{Runner}
use Rattle.world_model.specs.Book.{is_idle_book, is_runner, next_held_turn}
use Rattle.world_model.specs.Item.{Item, absorb_all}
use Rattle.world_model.specs.PageCalls.{revocations}
use Rattle.world_model.specs.Solo.{absent}
use Rattle.world_model.specs.Step.{Calls}
use Rattle.world_model.specs.Tick.{served, turn}
use Rattle.world_model.specs.World.{World, in_turn, run_phases}
use Rattle.run_model.specs.Acting.{Acts}
use Rattle.run_model.specs.Boot.{boot_items, boot_world}
use Rattle.run_model.specs.Excess.{IsAccounted}
use Rattle.run_model.specs.Run.{IsFoldOfFeed, System, TimeIsTick, after_phase, feed, happens_in, items_in, next_phases, once_happened, takings_next, world_after}
use Rattle.run_model.proofs.Balance.{boots_accounted, ticks_keep_accounts}
use Rattle.run_model.proofs.Phases.{moments_in_order}
use Rattle.quiet_law.specs.Alone.{Alone, is_quiet_call, quiet_course, quiet_slice}
use Rattle.quiet_law.specs.Beginning.{IsBeginning}
use Rattle.quiet_law.specs.Quiet.{IsQuiet, is_asking}
use Rattle.run_model.specs.Slices.{IsEndOf, SlicesEndLast, SlicesEndStopped, begins_in, begins_slice, ends_in, runs_after, slices}
use Rattle.quiet_law.proofs.Beginnings.{begins_more, begins_same}
use Rattle.quiet_law.proofs.Booting.{boot_imaged, boot_still}
use Rattle.quiet_law.proofs.Rest.{alone_in, end_over, left_of, phase_of, same_alone}
use Rattle.quiet_law.proofs.Ticks.{Begins, GoesOn, IsStill, Out, Tells, Told, rest_at, tick_tells}

-- a board on which nobody runs and no slot is held stays as it is
idle_runs : (e : ℕ) (o : Option Runner) (none : Bool) → (is_none o && none) ≡ true → is_runner e o ≡ false
idle_runs e None none idle = refl
idle_runs e (Some r) none idle = cc

-- an environment that doesn't run has no tick left
left_out : (e : ℕ) (o : Option Runner) → is_runner e o ≡ false → left_of e o ≡ 0
left_out e None out = refl
left_out e (Some r) out = ap (λ (t : Bool). if t then r.left else 0) out

phase_out : (e : ℕ) (o : Option Runner) → is_runner e o ≡ false → phase_of e o ≡ phase.Own
phase_out e None out = refl
phase_out e (Some r) out = ap (λ (t : Bool). if t then r.phase else phase.Own) out

rest_out : (e q : ℕ) (w : World) (items : List Item) → is_runner e w.book.runner ≡ false → rest_at e q w items ≡ alone_in e w items
rest_out e q w items out = end_over q (alone_in e w items) (left_out e w.book.runner out)

-- between slices it may be forgiven what it owes
abbrev free : Alone → Alone
free a = record a { excess = 0 }

module _ (granted : GrantedMay) (again : AgainAsks) (rich : RichestHasMost) (takable : TakingsAreTakable) (time : TimeIsTick) (system : System) (e most : ℕ) (some : 0 < system.image.quantum) (quiet : IsQuiet system e most) where
  abbrev q : ℕ
  q = system.image.quantum

  -- Before a tick nothing in the world reaches it.
  pub record IsReady (t : ℕ) : Type 0 where
    pub still : IsStill e (world_after system t)
    pub quantum : (world_after system t).book.quantum ≡ q

  accounted : (t : ℕ) → IsAccounted (world_after system t)
  accounted t = ticks_keep_accounts granted system.schedule (boot_world system.image) (boots_accounted system.image) t

  -- its calls in a tick are quiet
  quiet_now : (t : ℕ) → t < most → let w = world_after system t in let x = after_phase turn (served (once_happened system.schedule w)) in (c : Option Call) → Acts x e (Calls c) → is_quiet_call (x.solos e).cpu c ≡ true
  quiet_now t below =
      let order = moments_in_order system t in
      subst (λ (x : World). (c : Option Call) → Acts x e (Calls c) → is_quiet_call (x.solos e).cpu c ≡ true)
      (order.turned ∙ ap (after_phase turn) (order.served ∙ ap served order.happened)) (λ c acts. quiet.calls t c below acts)

  -- and it isn't asked for pages
  unasked_now : (t : ℕ) → t < most → is_idle_book (world_after system t).book ≡ false → list_any (is_asking e) (happens_in system.schedule (world_after system t)) ≡ false
  unasked_now t below busy =
      subst (λ (u : ℕ). list_any (is_asking e) (system.schedule u) ≡ false) (sym (time system.schedule (boot_world system.image) t (boot_imaged system.image).time busy)) (quiet.unasked t below)

  tick_told : (t : ℕ) → t < most → IsReady t → Tells e (world_after system t) (world_after system (suc t)) (items_in system t e)
  tick_told t below ready = by_idle (is_idle_book (world_after system t).book) refl
    where
      by_idle : (idle : Bool) → is_idle_book (world_after system t).book ≡ idle
          → (let x = world_after system t in Tells e x (if idle then x else run_phases x (next_phases system.schedule x)) (if idle then [] else (in_turn (next_phases system.schedule x) x).items e))
      by_idle true idle =
          let x = world_after system t in
          let out = idle_runs e x.book.runner (is_none (next_held_turn x.book)) idle in
          record { still = ready.still; quantum = refl; told = Out out refl out }
      by_idle false busy =
          let x = world_after system t in
          let v = once_happened system.schedule x in
          tick_tells granted again rich e x ready.still (accounted t) (subst (λ n. 0 < n) (sym ready.quantum) some)
          (happens_in system.schedule x) (unasked_now t below busy) (takings_next system.schedule x) (takable (revocations v.book) v.book.time v.count) (quiet_now t below)

  pub ready : (t : ℕ) → t ≤ most → IsReady t
  ready zero below = record { still = boot_still system.image e quiet.accepts_nobody; quantum = (boot_imaged system.image).quantum }
  ready (suc t) below =
      let before = ready t (omega (arith, below)) in
      let tells = tick_told t (omega (arith, below)) before in
      record { still = tells.still; quantum = tells.quantum ∙ before.quantum }

  -- The end of its slice where it runs, and else itself, is what it makes alone.
  abbrev course : ℕ → Alone
  course n = quiet_course e (boot_items system.image e) q n

  abbrev here : ℕ → Alone
  here t = alone_in e (world_after system t) (feed system e t)

  abbrev so_far : ℕ → Alone
  so_far t = rest_at e q (world_after system t) (feed system e t)

  pub record IsAlone (t : ℕ) : Type 0 where
    pub runs : runs_after system e t ≡ true → so_far t ≡ course (suc (slices system e t))
    pub waits : runs_after system e t ≡ false → free (here t) ≡ free (course (slices system e t))
    pub since : IsBeginning (course (slices system e t)).items (feed system e t)

  -- so it has its whole slices where it doesn't run
  since_waits : (t : ℕ) → free (here t) ≡ free (course (slices system e t)) → IsBeginning (course (slices system e t)).items (feed system e t)
  since_waits t is = begins_same (course (slices system e t)).items (feed system e t) (ap (λ (a : Alone). a.items) (sym is))

  -- behind a tick in which it runs, or in which its slice begins
  one_more : (n : ℕ) → n + 1 ≡ suc n
  one_more n = omega arith

  nothing_more : (n : ℕ) → n + 0 ≡ n
  nothing_more n = omega arith

  goes_on : (t : ℕ) → IsAlone t → (runs_after system e t || begins_in system e t) ≡ true → so_far (suc t) ≡ course (suc (slices system e t)) → IsAlone (suc t)
  goes_on t before in_slice is = record { runs = λ on. is ∙ ap (λ n. course (suc n)) (sym (same on)); waits = at_end; since = by_runs (runs_after system e (suc t)) refl }
    where
      counted : (runs ends : Bool) → runs_after system e (suc t) ≡ runs → ((runs_after system e t || begins_in system e t) && not runs) ≡ ends → slices system e (suc t) ≡ slices system e t + (if ends then 1 else 0)
      counted runs ends is ended = ap (λ (r : Bool). slices system e t + (if (runs_after system e t || begins_in system e t) && not r then 1 else 0)) is ∙ ap (λ (b : Bool). slices system e t + (if b then 1 else 0)) ended

      same : runs_after system e (suc t) ≡ true → slices system e (suc t) ≡ slices system e t
      same on = counted true false on (ap (λ (own : Bool). own && not true) in_slice) ∙ nothing_more (slices system e t)

      at_end : runs_after system e (suc t) ≡ false → free (here (suc t)) ≡ free (course (slices system e (suc t)))
      at_end off =
          ap free (sym (rest_out e q (world_after system (suc t)) (feed system e (suc t)) off) ∙ is)
          ∙ ap (λ n. free (course n)) (sym (counted false true off (ap (λ (own : Bool). own && not false) in_slice) ∙ one_more (slices system e t)))

      by_runs : (runs : Bool) → runs_after system e (suc t) ≡ runs → IsBeginning (course (slices system e (suc t))).items (feed system e (suc t))
      by_runs true on = subst (λ n. IsBeginning (course n).items (feed system e (suc t))) (sym (same on)) (begins_more (course (slices system e t)).items (feed system e t) before.since (items_in system t e))
      by_runs false off = since_waits (suc t) (at_end off)

  module _ (fold : IsFoldOfFeed) where
    in_slice : (t : ℕ) → t < most → IsAlone t → (runs_after system e t || begins_in system e t) ≡ true → so_far (suc t) ≡ course (suc (slices system e t))
    in_slice t below alone active = by_told (tick_told t below before).told
      where
        before : IsReady t
        before = ready t (omega (arith, below))

        -- the quantum is the image's
        told : (before_it : ℕ → Alone) → before_it (world_after system t).book.quantum ≡ rest_at e (world_after system t).book.quantum (world_after system (suc t)) (feed system e (suc t)) → before_it q ≡ so_far (suc t)
        told before_it is = subst (λ n. before_it n ≡ rest_at e n (world_after system (suc t)) (feed system e (suc t))) before.quantum is

        by_told : Told e (world_after system t) (world_after system (suc t)) (items_in system t e) → so_far (suc t) ≡ course (suc (slices system e t))
        by_told (GoesOn own is) = sym (told (λ n. rest_at e n (world_after system t) (feed system e t)) (is (feed system e t))) ∙ alone.runs own
        by_told (Begins other begins is) = sym (told (λ n. quiet_slice n (here t)) (is (feed system e t))) ∙ ap (quiet_slice q) (alone.waits other)
        by_told (Out other none out) =
            let clash : false ≡ true = sym (ap (λ (own : Bool). own || begins_in system e t) other ∙ ap (list_any begins_slice) none) ∙ active in cc

    -- or given nothing
    waits_on : (t : ℕ) → (runs_after system e t || begins_in system e t) ≡ false → items_in system t e ≡ [] → runs_after system e (suc t) ≡ false → IsAlone t → IsAlone (suc t)
    waits_on t idle none out alone =
        let parts = or_parts (runs_after system e t) (begins_in system e t) idle in
        let no_end : ends_in system e t ≡ false = ap (λ (active : Bool). active && not (runs_after system e (suc t))) idle in
        let same : slices system e (suc t) ≡ slices system e t = ap (λ (ends : Bool). slices system e t + (if ends then 1 else 0)) no_end ∙ omega arith in
        let items : feed system e (suc t) ≡ feed system e t = ap (λ items. feed system e t ++ items) none ∙ append-nil (feed system e t) in
        let v = world_after system (suc t) in
        let w = world_after system t in
        let stays : free (here (suc t)) ≡ free (here t) =
        same_alone (free (here (suc t))) (free (here t)) items (fold system (suc t) e ∙ ap (absorb_all (absent e)) items ∙ sym (fold system t e))
        (left_out e v.book.runner out ∙ sym (left_out e w.book.runner parts.0)) (phase_out e v.book.runner out ∙ sym (phase_out e w.book.runner parts.0)) refl in
        let still : free (here (suc t)) ≡ free (course (slices system e (suc t))) = stays ∙ alone.waits parts.0 ∙ ap (λ n. free (course n)) (sym same) in
        record { runs = λ on. (let clash : true ≡ false = sym on ∙ out in cc); waits = λ off. still; since = since_waits (suc t) still }

    module _ (t : ℕ) (few : t < most) (before : IsAlone t) where
      by_told : (runs_after system e t || begins_in system e t) ≡ false → Told e (world_after system t) (world_after system (suc t)) (items_in system t e) → IsAlone (suc t)
      by_told idle (GoesOn own is) = let clash : true ≡ false = sym own ∙ (or_parts (runs_after system e t) (begins_in system e t) idle).0 in cc
      by_told idle (Begins other begins is) = let clash : true ≡ false = sym begins ∙ (or_parts (runs_after system e t) (begins_in system e t) idle).1 in cc
      by_told idle (Out other none out) = waits_on t idle none out before

      by_active : (active : Bool) → (runs_after system e t || begins_in system e t) ≡ active → IsAlone (suc t)
      by_active true active = goes_on t before active (in_slice t few before active)
      by_active false idle = by_told idle (tick_told t few (ready t (omega (arith, few)))).told

    at_boot : (excess : ℕ → ℕ) → excess ≡ (λ i. 0) → record (here 0) { excess = excess e } ≡ course 0
    at_boot excess none =
        let nobody = (boot_imaged system.image).runner in
        same_alone (record (here 0) { excess = excess e }) (course 0) refl refl (ap (left_of e) nobody) (ap (phase_of e) nobody) (ap (λ (f : ℕ → ℕ). f e) none)

    pub alone : (t : ℕ) → t ≤ most → IsAlone t
    alone zero below = record {
      runs = λ on. (let clash : true ≡ false = sym on ∙ ap (is_runner e) (boot_imaged system.image).runner in cc);
      waits = λ off. at_boot (λ i. 0) refl;
      since = since_waits 0 (at_boot (λ i. 0) refl);
    }
    alone (suc t) below = by_active t (omega (arith, below)) (alone t (omega (arith, below))) (runs_after system e t || begins_in system e t) refl

    -- At the end of a slice it is what it makes alone.
    pub at_slice_end : SlicesEndStopped → SlicesEndLast → (n t : ℕ) → t ≤ most → IsEndOf system e n t → here t ≡ course n
    at_slice_end stopped last n zero below ends = at_boot (boot_world system.image).book.excess (boot_imaged system.image).excess ∙ ap course ends.reached
    at_slice_end stopped last n (suc t) below ends =
        let ended = last system e n t ends in
        let active = (and_parts (runs_after system e t || begins_in system e t) (not (runs_after system e (suc t))) ended).0 in
        let number : suc (slices system e t) ≡ n = sym (one_more (slices system e t)) ∙ ap (λ (b : Bool). slices system e t + (if b then 1 else 0)) (sym ended) ∙ ends.reached in
        sym (rest_out e q (world_after system (suc t)) (feed system e (suc t)) (stopped system e n (suc t) ends))
        ∙ in_slice t (omega (arith, below)) (alone t (omega (arith, below))) active
        ∙ ap course number
