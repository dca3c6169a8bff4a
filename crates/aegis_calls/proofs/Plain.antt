-- What plain ticks make of the TLB is what the model says: every access finds its row, and Random falls once a tick.
use Rattle.std.proofs.Common.{◌≡◌, ◌<◌, ℕ, zero, suc, ◌+◌, List, [], Bool, false, Option, Some, None, refl, sym, ◌∙◌, ap, subst, arith, rules}
use Rattle.std.specs.Prelude.{map}
use Rattle.std.proofs.lemmas.Bool.{ne_eqb}
use Rattle.mips_exec.specs.Access.{Write}
use Rattle.env_frames.specs.declared.mapping.Mapping.{Mapping}
use Rattle.mips_exec.specs.declared.registers.Cpu.{Cpu}
use Rattle.mips_exec.specs.declared.exception.Outcome.TheVariants as outcome
use Rattle.mips_exec.specs.Step.{Step, Retired, outcome_of}
use Rattle.external_event.specs.declared.event.Occurrence.{Occurrence}
use Rattle.revocation_book.specs.RevocationBook.{is_any_due}
use Rattle.slot_vector.specs.Slices.{left_of}
use Rattle.world_model.specs.declared.slot.Runner.{Runner}
use Rattle.world_model.specs.Book.{is_idle_book}
use Rattle.world_model.specs.Event.{Schedule, happen}
use Rattle.world_model.specs.Tick.{served, step, turn}
use Rattle.world_model.specs.World.{World, run_phases}
use Rattle.run_model.specs.Run.{after_phase, world_after_ticks}
use Rattle.board_model.specs.Doing.{after_machine_step, after_runner_step, lookup_of, step_seen}
use Rattle.board_model.specs.Refilling.{is_kept_by, refill_of, settled_of, vpns_of, with_lookups, with_refilled}
use Rattle.board_model.specs.Shown.{Shown, mappings_of}
use Rattle.board_model.specs.Showing.{world_of}
use Rattle.board_model.specs.Sound.{HasRunner}
use Rattle.board_model.specs.Stretch.{ArePlain, IsAtStep, IsQuiet, StretchIsSteady, StretchShowsModel, stretched}
use Rattle.board_model.proofs.Repossessing.{nothing_due}
use Rattle.board_model.proofs.Seen.{runner_runs}
use Rattle.board_model.proofs.Stepping.{retired_step}
use Rattle.tlb_model.specs.Cache.{Cache, with_random_fallen}
use Rattle.tlb_model.specs.Lookups.{attempted, first_missing, mapping_of_miss, settled, settled_by}
use Rattle.tlb_course.specs.Course.{cache_after_ticks, cache_finished, cache_served, cache_stepped, cache_ticked, cache_timed, next_cache}
use Rattle.tlb_course.specs.Emptying.{count_flushes}
use Rattle.tlb_model.specs.Flushes.{flushed_all}
use Rattle.aegis_calls.specs.Cached.{FindRows}
use Rattle.aegis_calls.proofs.Emptying.{served_empties}
use Rattle.aegis_calls.proofs.Looking.{stepped_course}
use Rattle.aegis_calls.proofs.Stretched.{busy, fewer_plain, left_on, none_due, runs_on, stretch_sound}

-- what a step is that retires
retires : (st : Step) → outcome_of st ≡ outcome.Retired → (cpu : Cpu) × (w : Option Write) × (st ≡ Retired cpu w)
retires st is = search rules

-- the timer of a runner that has ticks left behind this one empties nothing
counts_nothing : (w : World) (o : Option Runner) → 1 < left_of o → count_flushes w o ≡ []
counts_nothing w o more = search (rules, ne_eqb)

-- where each access finds its row, nothing is refilled
still : (n : ℕ) (kept : ℕ → Bool) (leads : ℕ → Option Mapping) (e : ℕ) (vpns : List ℕ) (c : Cache) → first_missing c.rows e vpns ≡ None → settled n kept leads e vpns c ≡ c
still zero kept leads e vpns c found = refl
still (suc n) kept leads e vpns c found = ap (λ o. settled_by (settled n kept leads e vpns) kept e (mapping_of_miss leads o) c) found

settled_still : (b : Shown) (e : ℕ) → first_missing b.tlb.rows e (vpns_of b e) ≡ None → settled_of b e ≡ b.tlb
settled_still b e found = still 2 (is_kept_by (mappings_of b.roster.list e)) (lookup_of b e) e (vpns_of b e) b.tlb found

-- where the first miss is refilled, and then each finds it, that is all
settled_once : (b : Shown) (e : ℕ) (m : Mapping) → refill_of b e ≡ Some m → first_missing (with_refilled b e m).tlb.rows e (vpns_of b e) ≡ None → settled_of b e ≡ (with_refilled b e m).tlb
settled_once b e m next found =
    ap (λ o. settled_by (settled 1 (is_kept_by (mappings_of b.roster.list e)) (lookup_of b e) e (vpns_of b e)) (is_kept_by (mappings_of b.roster.list e)) e o b.tlb) next
    ∙ still 1 (is_kept_by (mappings_of b.roster.list e)) (lookup_of b e) e (vpns_of b e) (with_refilled b e m).tlb found

-- A step that retires once its accesses are looked up: Random falls.
module _ (b : Shown) (e : ℕ) (c : Cache) (looked : settled_of b e ≡ c) (has : HasRunner b e) (retired : outcome_of (step_seen b e) ≡ outcome.Retired) where
  step_retires : (cpu : Cpu) × (w : Option Write) × (step_seen b e ≡ Retired cpu w)
  step_retires = retires (step_seen b e) retired

  step_falls : cache_stepped (world_of b) b.tlb ≡ with_random_fallen c
  step_falls =
      sym (stepped_course b e has b.slots.runner has.runs)
      ∙ ap (λ st. (after_runner_step (with_lookups b e) e st).tlb) step_retires.2
      ∙ ap (λ st. attempted e st (settled_of b e)) step_retires.2
      ∙ ap with_random_fallen looked

  step_world : after_phase step (world_of b) ≡ world_of (after_machine_step b e (step_seen b e))
  step_world =
      let x = runner_runs b e has.sound has.runs in
      sym (retired_step b e x.0 x.1 has.sound b.slots.runner has.runs step_retires.0 step_retires.1 step_retires.2)

  -- where no deadline has come, and the slice goes on, that is the tick
  tick_falls : 1 < left_of b.slots.runner → is_any_due b.revocations b.time ≡ false → IsAtStep (world_of b) → cache_ticked (world_of b) b.tlb ≡ with_random_fallen c
  tick_falls more none at =
      let w = world_of b in
      let now = world_of (after_machine_step b e (step_seen b e)) in
      let kept : cache_served w b.tlb ≡ b.tlb = sym (served_empties b) ∙ ap (λ (s : Shown). s.tlb) (sym (nothing_due b none)) in
      ap (cache_finished (after_phase turn (served w))) kept
      ∙ ap (λ u. cache_finished u b.tlb) at
      ∙ ap (cache_timed (after_phase step w)) step_falls
      ∙ ap (λ u. cache_timed u (with_random_fallen c)) step_world
      ∙ ap (λ fs. flushed_all fs (with_random_fallen c)) (counts_nothing now b.slots.runner more)

-- a tick of a run in which nothing happens from outside
quiet_tick : (schedule : Schedule) (w : World) (c : Cache) → is_idle_book w.book ≡ false → schedule w.book.time ≡ [] → cache_ticked w c ≡ next_cache schedule w c
quiet_tick schedule w c goes nothing =
    rw goes (ap (λ (happens : List Occurrence). cache_ticked (run_phases w (map happen happens)) c) (sym nothing))

module _ (world : StretchShowsModel) (steady : StretchIsSteady) where
  pub stretch_falls : (b : Shown) (e ticks : ℕ) (schedule : Schedule) → HasRunner b e → ArePlain b e ticks → FindRows b e ticks → IsQuiet schedule b.time (b.time + ticks)
      → (stretched b e ticks).tlb ≡ cache_after_ticks schedule (world_of b) ticks b.tlb
  stretch_falls b e zero schedule has plain finds quiet = refl
  stretch_falls b e (suc k) schedule has plain finds quiet =
      let v = stretched b e k in
      let left = plain.left in
      let early = plain.early in
      let fewer = fewer_plain b e k plain in
      let calm : IsQuiet schedule b.time (b.time + k) = record { nothing = λ t from until. quiet.nothing t from (omega arith) } in
      let at : world_of v ≡ world_after_ticks schedule (world_of b) k = world b e k schedule has fewer calm in
      let goes = runs_on k b.slots.runner ∙ has.runs in
      let at_step : IsAtStep (world_of v) = subst IsAtStep (sym at) ((steady b e (suc k) schedule has plain quiet).at_step k (omega arith)) in
      sym (tick_falls v e v.tlb (settled_still v e (finds.each k (omega arith))) (record { sound = stretch_sound b e k has.sound (omega arith); runs = goes }) (plain.retire.each k (omega arith))
      (omega (arith, left_on k b.slots.runner)) (none_due b.revocations (b.time + k) (omega arith)) at_step)
      ∙ quiet_tick schedule (world_of v) v.tlb (busy v.slots.runner _ e goes) (quiet.nothing (b.time + k) (omega arith) (omega arith))
      ∙ ap (λ u. next_cache schedule u v.tlb) at
      ∙ ap (next_cache schedule (world_after_ticks schedule (world_of b) k)) (stretch_falls b e k schedule has fewer (record { each = λ j less. finds.each j (omega arith) }) calm)

  -- ---- plain ticks, for the first of which a row is refilled

  module _ (b : Shown) (e k : ℕ) (m : Mapping) (schedule : Schedule) (has : HasRunner b e) (has_now : HasRunner (with_refilled b e m) e) (plain : ArePlain b e (suc k))
      (next : refill_of b e ≡ Some m) (finds : FindRows (with_refilled b e m) e (suc k)) (quiet : IsQuiet schedule b.time (b.time + suc k)) where
    abbrev now : Shown
    now = with_refilled b e m

    abbrev w : World
    w = world_of b

    goes : is_idle_book w.book ≡ false
    goes = busy b.slots.runner _ e has.runs

    at_step : IsAtStep w
    at_step = (steady b e (suc k) schedule has plain quiet).at_step 0 (omega arith)

    none : is_any_due b.revocations b.time ≡ false
    none = none_due b.revocations b.time (omega (arith, plain.early))

    nothing : schedule b.time ≡ []
    nothing = quiet.nothing b.time (omega arith) (omega arith)

    -- once the row is refilled, the first tick makes the same of the TLB
    first_tick : cache_ticked w now.tlb ≡ cache_ticked w b.tlb
    first_tick =
        let more : 1 < left_of b.slots.runner = omega (arith, plain.left) in
        let found : first_missing now.tlb.rows e (vpns_of b e) ≡ None = finds.each 0 (omega arith) in
        let retired : outcome_of (step_seen b e) ≡ outcome.Retired = plain.retire.each 0 (omega arith) in
        tick_falls now e now.tlb (settled_still now e found) has_now retired more none at_step
        ∙ sym (tick_falls b e now.tlb (settled_once b e m next found) has retired more none at_step)

    same_after : (j : ℕ) → cache_after_ticks schedule w (suc j) now.tlb ≡ cache_after_ticks schedule w (suc j) b.tlb
    same_after zero = sym (quiet_tick schedule w now.tlb goes nothing) ∙ first_tick ∙ quiet_tick schedule w b.tlb goes nothing
    same_after (suc j) = ap (next_cache schedule (world_after_ticks schedule w (suc j))) (same_after j)

    pub refilled_falls : (stretched now e (suc k)).tlb ≡ cache_after_ticks schedule w (suc k) b.tlb
    refilled_falls =
        stretch_falls now e (suc k) schedule has_now (record { retire = plain.retire; left = plain.left; early = plain.early }) finds quiet
        ∙ same_after k
