-- The TLB from tick to tick: its shape stays, and its rows are those of mappings that the book has.
use Rattle.std.proofs.Common.{◌≡◌, ◌<◌, ◌≤◌, ℕ, zero, suc, List, [], ◌∷◌, length, map, Bool, true, false, Option, Some, None, ◌+◌, inl, inr, refl, sym, ◌∙◌, ap, subst, arith}
use Rattle.std.proofs.lemmas.Bool.{cases_lt}
use Rattle.std.proofs.lemmas.List.Elements.{All-replicate, All-set, All-weaker}
use Rattle.std.specs.Prelude.{if◌then◌else◌}
use Rattle.aegis_limits.specs.Limits.{environment_numbers, vpn_end}
use Rattle.aegis_limits.specs.VersionLimits.{most_environments_of}
use Rattle.aegis_limits.specs.declared.version.Version.{Version}
use Rattle.aegis_limits.specs.declared.version.Version.TheVariants.{One, Two}
use Rattle.boot_image.specs.Accepted.{IsAccepted}
use Rattle.env_frames.specs.declared.mapping.Mapping.{Mapping}
use Rattle.external_event.specs.declared.event.Occurrence.{Occurrence}
use Rattle.mips_exec.specs.Step.{Step}
use Rattle.r3k_tlb.specs.declared.row.Row.{Row}
use Rattle.r3k_tlb.specs.Row.{emptied_row}
use Rattle.r3k_tlb.specs.Rows.{row_count}
use Rattle.revocation_book.specs.declared.revocation.Taking.{Taking}
use Rattle.revocation_book.specs.Takings.{TakingsAreTakable}
use Rattle.call_verdicts.specs.Granted.{AgainAsks, GrantedMay}
use Rattle.tlb_model.specs.Cache.{Cache, boot_cache, refilled, row_for, with_forwarded, with_random_fallen}
use Rattle.tlb_model.specs.Coherence.{AreCoherent, Emptied, Held, IsCoherent}
use Rattle.tlb_model.specs.Flushes.{Flush, flushed_all}
use Rattle.tlb_model.specs.Lookups.{attempted, first_missing, has_no_row, is_missed, next_refill, settled}
use Rattle.tlb_model.proofs.Emptying.{emptied}
use Rattle.tlb_course.specs.Accesses.{is_kept, mapping_for, step_vpns}
use Rattle.tlb_course.specs.Course.{cache_after, cache_finished, cache_looked, cache_served, cache_stepped, cache_stepped_by, cache_ticked, cache_timed, next_cache}
use Rattle.tlb_course.specs.Emptying.{act_flushes, count_flushes, taking_flush}
use Rattle.world_model.specs.declared.call.Call.{Call}
use Rattle.world_model.specs.declared.slot.Runner.{Runner}
use Rattle.world_model.specs.Book.{is_idle_book, running}
use Rattle.world_model.specs.Deadlines.{settles, takes, takings}
use Rattle.world_model.specs.Event.{happen}
use Rattle.world_model.specs.Step.{Calls, step_alone}
use Rattle.world_model.specs.Tick.{act_now, serve_phases, served, step, step_when, timer, turn}
use Rattle.world_model.specs.World.{World, after, run_phases}
use Rattle.run_model.specs.Licensed.{GivenIsLicensed}
use Rattle.run_model.specs.Run.{System, after_phase, at_step, before_turn, happens_in, moment, once_happened, world_after}
use Rattle.run_model.proofs.Phases.{moments_in_order}
use Rattle.sharing_law.specs.Kept.{KeptAgree}
use Rattle.sharing_law.specs.Versions.{VersionsAgree}
use Rattle.sharing_law.proofs.Absent.{absent_calls}
use Rattle.sharing_law.proofs.Happening.{happen_lists}
use Rattle.sharing_law.proofs.Listing.{settled_alike}
use Rattle.sharing_law.proofs.Moments.{stays_idle}
use Rattle.sharing_law.proofs.Turning.{turn_alike}
use Rattle.coherence_law.specs.Coherence.{CourseIsCoherent, IsRowOfLiving}
use Rattle.coherence_law.specs.Coherence.{Emptied as NoMapping, Held as Living}
use Rattle.coherence_law.proofs.Accesses.{found_users, step_users}
use Rattle.coherence_law.proofs.Leading.{safe}
use Rattle.coherence_law.proofs.Leaving.{LeadsSame, Leaves, act_leaves, by_lists, count_leaves, same_leaves, taking_leaves}
use Rattle.coherence_law.proofs.Shape.{IsShaped, attempted_shape, boot_shape, flushed_shape, found_true, missed_at, refilled_shape, settled_keeps}

-- what is kept from tick to tick
pub record IsOnCourse (w : World) (c : Cache) : Type 0 where
  pub shaped : IsShaped c
  pub sound : AreCoherent (mapping_for w.book) w.book.page_count c.rows

same_course : (w v : World) (c : Cache) → LeadsSame w.book v.book → IsOnCourse w c → IsOnCourse v c
same_course w v c same course =
    let leaves = same_leaves [] w.book v.book same in
    record {
      shaped = course.shaped;
      sound = subst (λ (n : ℕ). AreCoherent (mapping_for v.book) n c.rows) (sym leaves.count)
          (emptied (mapping_for w.book) (mapping_for v.book) [] w.book.page_count c.rows course.sound leaves.mappings);
    }

flushed_course : (fs : List Flush) (w v : World) (c : Cache) → Leaves fs w.book v.book → IsOnCourse w c → IsOnCourse v (flushed_all fs c)
flushed_course fs w v c leaves course = record {
  shaped = flushed_shape fs c course.shaped;
  sound = subst (λ (n : ℕ). AreCoherent (mapping_for v.book) n (flushed_all fs c).rows) (sym leaves.count)
      (emptied (mapping_for w.book) (mapping_for v.book) fs w.book.page_count c.rows course.sound leaves.mappings);
}

-- ---- up to the step

events_course : (happens : List Occurrence) (w : World) (c : Cache) → IsOnCourse w c → IsOnCourse (run_phases w (map happen happens)) c
events_course [] w c course = course
events_course (what ∷ happens) w c course =
    let v = after w (happen what w) in
    events_course happens v c (same_course w v c (by_lists w.book v.book (happen_lists what w)) course)

served_course : (xs : List Taking) (w : World) (c : Cache) → IsOnCourse w c → IsOnCourse (run_phases w (serve_phases xs)) (flushed_all (map taking_flush xs) c)
served_course [] w c course = let v = after w (settles w) in same_course w v c (by_lists w.book v.book (settled_alike w).lists) course
served_course (x ∷ xs) w c course =
    let v = after w (takes x w) in
    served_course xs v (flushed_all (taking_flush x ∷ []) c) (flushed_course (taking_flush x ∷ []) w v c (taking_leaves x w) course)

turned_course : (w : World) (c : Cache) → IsOnCourse w c → IsOnCourse (after_phase turn w) c
turned_course w c course = let v = after_phase turn w in same_course w v c (by_lists w.book v.book (turn_alike w).lists) course

-- ---- behind it

timed_course : (w : World) (c : Cache) → IsOnCourse w c → IsOnCourse (after_phase timer w) (cache_timed w c)
timed_course w c course =
    let leaves = count_leaves w w.book.runner in
    flushed_course (count_flushes w w.book.runner) w (after_phase timer w) c (record { mappings = leaves.mappings; count = leaves.count }) course

pub attempt_rows : (P : List Row → Type 0) (e : ℕ) (s : Step) (c : Cache) → P c.rows → P (attempted e s c).rows
attempt_rows P e s c has = by_miss (is_missed s)
  where
    by_miss : (b : Bool) → P (with_random_fallen (if b then with_forwarded e c else c)).rows
    by_miss true = has
    by_miss false = has

pub most_fit : (v : Version) (n e : ℕ) → n ≤ most_environments_of v → e < n → e < environment_numbers
most_fit One n e most less = omega (arith, most, less)
most_fit Two n e most less = omega (arith, most, less)

module _ (granted : GrantedMay) (again : AgainAsks) (takable : TakingsAreTakable) (licensed : GivenIsLicensed) (maps : KeptAgree) (versions : VersionsAgree)
    (system : System) (accepted : IsAccepted system.image) where
  -- ---- the step, at a moment

  module _ (t k : ℕ) where
    abbrev m : World
    m = moment system t k

    pub refill_course : (e : ℕ) (c : Cache) (n : Mapping) → IsOnCourse m c → next_refill (mapping_for m.book e) e (step_vpns (m.solos e)) c.rows ≡ Some n
        → IsOnCourse m (refilled (is_kept m.book e n.vpn) e n c)
    refill_course e c n course is =
        let vpns = step_vpns (m.solos e) in
        let miss = missed_at (mapping_for m.book e) (first_missing c.rows e vpns) n is in
        let at = safe granted again takable licensed maps system accepted.room t k e miss.0 n miss.2 in
        let small : e < environment_numbers = most_fit system.image.version (length system.image.programs) e accepted.programs_most at.has in
        let below : n.vpn < vpn_end = subst (λ (v : ℕ). v < vpn_end) (sym at.number) (found_users (has_no_row c.rows e) vpns miss.0 (step_users (m.solos e)) miss.1) in
        let missing : has_no_row c.rows e n.vpn ≡ true = ap (has_no_row c.rows e) at.number ∙ found_true (has_no_row c.rows e) vpns miss.0 miss.1 in
        record {
          shaped = refilled_shape (is_kept m.book e n.vpn) e n c course.shaped small below missing;
          sound = All-set (IsCoherent (mapping_for m.book) m.book.page_count) c.rows c.random (row_for e n)
              (Held (record {
                env = e;
                numbered = small;
                mapping = n;
                below = below;
                there = at.there;
                mapped = ap (mapping_for m.book e) at.number ∙ miss.2;
                words = refl;
              })) course.sound;
        }

    looked_course : (e : ℕ) (c : Cache) → IsOnCourse m c → IsOnCourse m (cache_looked m e c)
    looked_course e c course =
        let s = m.solos e in
        let d = settled 2 (is_kept m.book e) (mapping_for m.book e) e (step_vpns s) c in
        let settled_well = settled_keeps (IsOnCourse m) (is_kept m.book e) (mapping_for m.book e) e (step_vpns s) (refill_course e) 2 c course in
        record {
          shaped = attempted_shape e (step_alone s) d settled_well.shaped;
          sound = attempt_rows (AreCoherent (mapping_for m.book) m.book.page_count) e (step_alone s) d settled_well.sound;
        }

    -- who calls is of the image, so it has the book's version
    caller_version : (e : ℕ) → running m.book.runner ≡ Some e → (call : Option Call) → act_now m e ≡ Calls call → (m.solos e).version ≡ m.book.version
    caller_version e runs call is = elim (cases_lt e (length system.image.programs)) [
      | inl has ↦ (versions system t k).solos e has ∙ sym (versions system t k).book
      | inr lacks ↦ absurd (absent_calls licensed system e lacks t k call (record { runs = runs; comes = is }))
    ]

    stepped_course : (c : Cache) → IsOnCourse m c → IsOnCourse (after_phase step m) (cache_stepped m c)
    stepped_course c course = by_runner m.book.runner refl
      where
        by_runner : (o : Option Runner) → m.book.runner ≡ o → IsOnCourse (after m (step_when m o)) (cache_stepped_by m o c)
        by_runner None is = same_course m (after m (step_when m None)) c (record { version = refl; kept = refl; binds = refl; count = refl }) course
        by_runner (Some r) is =
            let act = act_now m r.env in
            let leaves = act_leaves m r.env act refl (λ call comes. caller_version r.env (ap running is) call comes) in
            flushed_course (act_flushes m r.env act) m (after m (step_when m (Some r))) (cache_looked m r.env c)
            (record { mappings = leaves.mappings; count = leaves.count }) (looked_course r.env c course)

  -- ---- a tick

  module _ (t : ℕ) where
    abbrev start : World
    start = world_after system t

    abbrev happened : World
    happened = once_happened system.schedule start

    abbrev turned : World
    turned = after_phase turn (served happened)

    step_at : at_step system t ≡ turned
    step_at = let order = moments_in_order system t in order.turned ∙ ap (after_phase turn) (order.served ∙ ap served order.happened)

    pub early : (c : Cache) → IsOnCourse start c → IsOnCourse (at_step system t) (cache_served happened c)
    early c course =
        subst (λ (w : World). IsOnCourse w (cache_served happened c)) (sym step_at)
        (turned_course (served happened) (cache_served happened c) (served_course (takings happened) happened c (events_course (happens_in system.schedule start) start c course)))

    late : (c : Cache) → IsOnCourse (at_step system t) c → IsOnCourse (after_phase timer (after_phase step (at_step system t))) (cache_finished (at_step system t) c)
    late c course =
        let w = at_step system t in
        timed_course (after_phase step w) (cache_stepped w c) (stepped_course t (before_turn system t + 1) c course)

    made : (c : Cache) → IsOnCourse start c → IsOnCourse (after_phase timer (after_phase step turned)) (cache_ticked happened c)
    made c course =
        let d = cache_served happened c in
        subst (λ (w : World). IsOnCourse (after_phase timer (after_phase step w)) (cache_finished w d)) step_at (late d (early c course))

    made_world : is_idle_book start.book ≡ false → world_after system (suc t) ≡ after_phase timer (after_phase step turned)
    made_world busy =
        let order = moments_in_order system t in
        order.timed busy ∙ ap (after_phase timer) (order.stepped ∙ ap (after_phase step) step_at)

    next_course : (c : Cache) → IsOnCourse start c → IsOnCourse (world_after system (suc t)) (next_cache system.schedule start c)
    next_course c course = by_idle (is_idle_book start.book) refl
      where
        by_idle : (idle : Bool) → is_idle_book start.book ≡ idle → IsOnCourse (world_after system (suc t)) (if idle then c else cache_ticked happened c)
        by_idle true idle = subst (λ (w : World). IsOnCourse w c) (sym (stays_idle system t idle)) course
        by_idle false busy = subst (λ (w : World). IsOnCourse w (cache_ticked happened c)) (sym (made_world busy)) (made c course)

  boots : IsOnCourse (world_after system 0) boot_cache
  boots = record {
    shaped = boot_shape;
    sound = let w = world_after system 0 in All-replicate (IsCoherent (mapping_for w.book) w.book.page_count) row_count emptied_row (Emptied refl);
  }

  pub on_course : (t : ℕ) → IsOnCourse (world_after system t) (cache_after system t)
  on_course zero = boots
  on_course (suc t) = next_course t (cache_after system t) (on_course t)

  living_row : (t : ℕ) (row : Row) → (let w = world_after system t in IsCoherent (mapping_for w.book) w.book.page_count row → IsRowOfLiving w row)
  living_row t row (Emptied is) = NoMapping is
  living_row t row (Held x) =
      let at = safe granted again takable licensed maps system accepted.room t 0 x.env x.mapping.vpn x.mapping x.mapped in
      Living (record { env = x.env; lives = at.lives; mapping = x.mapping; mapped = x.mapped; there = at.there; words = x.words })

pub coherent : GrantedMay → AgainAsks → TakingsAreTakable → GivenIsLicensed → KeptAgree → VersionsAgree → CourseIsCoherent
coherent granted again takable licensed maps versions system t accepted =
    let w = world_after system t in
    let c = cache_after system t in
    let course = on_course granted again takable licensed maps versions system accepted t in
    record {
      count = course.shaped.count;
      random = course.shaped.random;
      living = All-weaker (IsCoherent (mapping_for w.book) w.book.page_count) (IsRowOfLiving w) (living_row granted again takable licensed maps versions system accepted t) c.rows course.sound;
      apart = course.shaped.apart;
    }
