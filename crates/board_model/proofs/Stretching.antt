-- Plain ticks of a board are ticks of the model.
use Rattle.std.proofs.Common.{◌≡◌, ◌<◌, ◌≤◌, ℕ, zero, suc, ◌+◌, ◌-◌, List, [], length, length-set, Bool, false, Option, Some, refl, sym, ◌∙◌, ap, subst, add-zero, arith, rules}
use Rattle.std.specs.Prelude.{◌&&◌, is_none, map, slice_get, unwrap_or}
use Rattle.std.specs.Option.{option_map}
use Rattle.std.proofs.lemmas.Bool.{ne_eqb}
use Rattle.mips_exec.specs.Access.{Write}
use Rattle.mips_exec.specs.declared.registers.Cpu.{Cpu}
use Rattle.mips_exec.specs.declared.exception.Outcome.TheVariants as outcome
use Rattle.mips_exec.specs.Step.{Step, Retired, Called, Trapped, outcome_of, write_after}
use Rattle.env_frames.specs.declared.mapping.Mapping.{Mapping}
use Rattle.external_event.specs.declared.event.Occurrence.{Occurrence}
use Rattle.guest_memory.specs.Look.{frames_after}
use Rattle.guest_memory.specs.Steps.{Machine, after_steps, next_step}
use Rattle.revocation_book.specs.Pending.{earliest_in}
use Rattle.revocation_book.specs.RevocationBook.{RevocationBook, is_any_due, next_deadline}
use Rattle.revocation_book.proofs.Earliest.{due_by_earliest, has_come}
use Rattle.r3k_cp0.specs.Random.{fallen_times}
use Rattle.slot_vector.specs.Slices.{Slices, after_ticks, left_of}
use Rattle.world_model.specs.declared.slot.Runner.{Runner}
use Rattle.world_model.specs.Book.{is_idle_book, running}
use Rattle.world_model.specs.Deadlines.{takings}
use Rattle.world_model.specs.Event.{Schedule, happen}
use Rattle.world_model.specs.Solo.{Solo, Store, store_of}
use Rattle.world_model.specs.Step.{act_of, step_alone, store_act}
use Rattle.world_model.specs.Tick.{act_now, phases_after, served, step, tick_step, timer, turn, turn_when}
use Rattle.world_model.specs.World.{World, after, run_phases}
use Rattle.run_model.specs.Run.{after_phase, next_world, world_after_ticks}
use Rattle.run_model.proofs.Phases.{tick_in_parts}
use Rattle.board_model.specs.Doing.{after_count_down, lookup_of, after_machine_step, step_seen, with_next_time}
use Rattle.board_model.specs.Laws.{ServingShowsModel, TimerShowsModel}
use Rattle.board_model.specs.Shown.{Environments, Shown}
use Rattle.board_model.specs.Showing.{solo_or_absent, world_of}
use Rattle.board_model.specs.declared.roster.Environment.{Environment}
use Rattle.board_model.specs.Sound.{HasRunner, SlotsAgree, IsSoundBoard}
use Rattle.board_model.specs.Stretch.{ArePlain, AreSteady, IsAtStep, IsOwnAct, IsOwnTick, IsQuiet, IsSteady, RunnersAreAtSteps, StretchIsSteady, StretchShowsModel, machine_of, stretched}
use Rattle.board_model.proofs.Phases.{quiet_world}
use Rattle.board_model.proofs.Repossessing.{nothing_due}
use Rattle.board_model.proofs.Seen.{its_step, runner_runs, runner_seen, runner_solo}
use Rattle.board_model.proofs.Stepping.{retired_step}
use Rattle.board_model.proofs.Staying.{sound_frames, sound_machine, sound_slots, sound_tlb}

step_size : (frames : List (List ℕ)) (lookup : ℕ → Option Mapping) (w : Option Write) → length (frames_after frames lookup w) ≡ length frames
step_size frames lookup w = search (rules, length-set)

steps_size : (lookup : ℕ → Option Mapping) (m : Machine) (k : ℕ) → length (after_steps lookup m k).frames ≡ length m.frames
steps_size lookup m zero = refl
steps_size lookup m (suc k) = let n = after_steps lookup m k in step_size n.frames lookup (write_after (next_step lookup n)) ∙ steps_size lookup m k

-- The runner has so many ticks fewer.
abbrev passed : ℕ → Option Runner → Option Runner
passed k o = option_map (λ (r : Runner). record r { left = r.left - k }) o

none_passed : (o : Option Runner) → passed 0 o ≡ o
none_passed o = search rules

one_passed : (k : ℕ) (o : Option Runner) → passed (suc k) o ≡ passed 1 (passed k o)
one_passed k o = search rules

runs_on : (k : ℕ) (o : Option Runner) → running (passed k o) ≡ running o
runs_on k o = search rules

left_on : (k : ℕ) (o : Option Runner) → left_of (passed k o) ≡ left_of o - k
left_on k o = search rules

pub passed_manned : (v : Slices) (r : Environments) (k : ℕ) → SlotsAgree v r → k < left_of v.runner → SlotsAgree (after_ticks k v) r
passed_manned v r k manned some = search rules

pub stretch_sound : (b : Shown) (e k : ℕ) → IsSoundBoard b → k < left_of b.slots.runner → IsSoundBoard (stretched b e k)
stretch_sound b e k sound some =
    sound_machine (sound_slots _ (passed_manned b.slots b.roster k sound.book some) (sound_frames _ (steps_size (lookup_of b e) (machine_of b) k) (sound_tlb (record b.tlb { random = fallen_times b.tlb.random k }) sound.rows sound)))

-- fewer ticks are plain too
fewer_plain : (b : Shown) (e k ticks : ℕ) → ArePlain b e ticks → k ≤ ticks → ArePlain b e k
fewer_plain b e k ticks plain fewer =
    let left = plain.left in
    let early = plain.early in
    record { retire = record { each = λ i less. plain.retire.each i (omega arith) }; left = omega arith; early = omega arith }

-- and nothing happens from outside in them
fewer_quiet : (schedule : Schedule) (from k ticks : ℕ) → IsQuiet schedule from (from + ticks) → k ≤ ticks → IsQuiet schedule from (from + k)
fewer_quiet schedule from k ticks quiet fewer = record { nothing = λ t above below. quiet.nothing t above (omega arith) }

-- the runner goes on, and nobody sends
sent_stays : (b now : Shown) (e : ℕ) (x : Option Environment) → (solo_or_absent now e x).sent ≡ (solo_or_absent b e x).sent
sent_stays b now e x = search rules

stretch_steady : (b : Shown) (e k : ℕ) → IsSteady (world_of b) (world_of (stretched b e k))
stretch_steady b e k = record {
  runner = runs_on k b.slots.runner;
  count = refl;
  sent = λ i. sent_stays b (stretched b e k) i (slice_get b.roster.list i);
}

-- before the next deadline none has come
not_come : (t : ℕ) (deadline : Option ℕ) → t < unwrap_or deadline 4294967295 → has_come t deadline ≡ false
not_come t deadline before = search rules

none_due : (book : RevocationBook) (t : ℕ) → t < next_deadline book → is_any_due book t ≡ false
none_due book t before = due_by_earliest t book.pending ∙ not_come t (earliest_in book.pending) before

-- where somebody runs the world isn't idle
busy : (o : Option Runner) (nobody : Bool) (e : ℕ) → running o ≡ Some e → (is_none o && nobody) ≡ false
busy o nobody e runs = search rules

still : (w : World) (o : Option Runner) (e : ℕ) → running o ≡ Some e → after w (turn_when w o) ≡ w
still w o e runs = search (rules, quiet_world)

-- what a step is that retires
retires : (st : Step) → outcome_of st ≡ outcome.Retired → (cpu : Cpu) × (w : Option Write) × (st ≡ Retired cpu w)
retires st is = search rules

stepped : (b : Shown) (e : ℕ) → IsSoundBoard b → running b.slots.runner ≡ Some e → outcome_of (step_seen b e) ≡ outcome.Retired → world_of (after_machine_step b e (step_seen b e)) ≡ after (world_of b) (step (world_of b))
stepped b e sound runs retired =
    let x = runner_runs b e sound runs in
    let it = retires (step_seen b e) retired in
    retired_step b e x.0 x.1 sound b.slots.runner runs it.0 it.1 it.2

one_runner : (e i : ℕ) → Some e ≡ Some i → e ≡ i
one_runner e i same = cc

-- what a step does that retires
own_act : (x : Option Store) → IsOwnAct (store_act x)
own_act x = search rules

retired_act : (s : Solo) (st : Step) → outcome_of st ≡ outcome.Retired → IsOwnAct (act_of s st)
retired_act s (Retired cpu w) is = own_act (store_of s w)
retired_act s Called is = cc
retired_act s (Trapped exc) is = cc

acts_alone : (b : Shown) (e : ℕ) → IsSoundBoard b → running b.slots.runner ≡ Some e → outcome_of (step_seen b e) ≡ outcome.Retired → IsOwnAct (act_now (world_of b) e)
acts_alone b e sound runs retired =
    let x = runner_runs b e sound runs in
    let s = runner_solo b e x.0 in
    subst (λ (t : Solo). IsOwnAct (act_of t (step_alone t))) (sym (runner_seen b e x.0 x.1))
    (retired_act s (step_alone s) (ap outcome_of (sym (its_step b e x.0 x.1 sound)) ∙ retired))

-- the timer of a runner that has ticks left behind this one
counts_on : (b now : Shown) (o : Option Runner) → now.slots.runner ≡ o → 1 < left_of o → with_next_time (after_count_down now o) ≡ record now { slots = after_ticks 1 now.slots; time = now.time + 1 }
counts_on b now o is more = search (rules, ne_eqb)

module _ (serves : ServingShowsModel) (times : TimerShowsModel) where
  -- where no deadline has come, and somebody runs, nothing comes before the step
  none_served : (b : Shown) → IsSoundBoard b → is_any_due b.revocations b.time ≡ false → world_of b ≡ served (world_of b)
  none_served b sound none = ap world_of (nothing_due b none) ∙ serves b sound

  pub at_step : RunnersAreAtSteps
  at_step b e has none =
      ap (λ u. after_phase turn u) (sym (none_served b has.sound none)) ∙ still (world_of b) b.slots.runner e has.runs

  plain_tick : (b : Shown) (e : ℕ) → HasRunner b e → outcome_of (step_seen b e) ≡ outcome.Retired → 1 < left_of b.slots.runner → is_any_due b.revocations b.time ≡ false → world_of (stretched b e 1) ≡ tick_step (world_of b)
  plain_tick b e has retired more none =
      let w = world_of b in
      let st = step_seen b e in
      let now = after_machine_step b e st in
      let none_turned : w ≡ after w (turn w) = sym (still w b.slots.runner e has.runs) in
      let size : length now.frames ≡ length b.frames = step_size b.frames (lookup_of b e) (write_after st) in
      let after_sound : IsSoundBoard now = sound_machine (sound_frames now.frames size has.sound) in
      ap world_of (sym (counts_on b now b.slots.runner refl more))
      ∙ times now after_sound
      ∙ ap (λ u. after u (timer u)) (stepped b e has.sound has.runs retired)
      ∙ ap (λ u. let t = after u (step u) in after t (timer t)) none_turned
      ∙ ap (λ v. let u = after v (turn v) in let t = after u (step u) in after t (timer t)) (none_served b has.sound none)
      ∙ sym (tick_in_parts w)

  -- a tick of a run in which nothing happens from outside
  quiet_tick : (schedule : Schedule) (w : World) → is_idle_book w.book ≡ false → schedule w.book.time ≡ [] → tick_step w ≡ next_world schedule w
  quiet_tick schedule w goes nothing =
      rw goes (ap (λ (happens : List Occurrence). run_phases w (phases_after happens (takings (run_phases w (map happen happens))))) (sym nothing))

  pub stretch_ticks : StretchShowsModel
  stretch_ticks b e zero schedule has plain quiet = ap world_of (λ i. record b { slots = record b.slots { runner = none_passed b.slots.runner i }; time = add-zero b.time i })
  stretch_ticks b e (suc k) schedule has plain quiet =
      let v = stretched b e k in
      let more = plain.left in
      let soon = plain.early in
      let later : b.time + suc k ≡ b.time + k + 1 = omega arith in
      let once : stretched b e (suc k) ≡ stretched v e 1 = (λ i. record (stretched b e (suc k)) { slots = record b.slots { runner = one_passed k b.slots.runner i }; time = later i }) in
      let fewer = fewer_plain b e k (suc k) plain (omega arith) in
      let goes = runs_on k b.slots.runner ∙ has.runs in
      ap world_of once
      ∙ plain_tick v e (record { sound = stretch_sound b e k has.sound (omega arith); runs = goes }) (plain.retire.each k (omega arith)) (omega (arith, left_on k b.slots.runner)) (none_due b.revocations (b.time + k) (omega arith))
      ∙ quiet_tick schedule (world_of v) (busy v.slots.runner _ e goes) (quiet.nothing (b.time + k) (omega arith) (omega arith))
      ∙ ap (next_world schedule) (stretch_ticks b e k schedule has fewer (record { nothing = λ t from until. quiet.nothing t from (omega arith) }))

  pub stretch_is_steady : StretchIsSteady
  stretch_is_steady b e ticks schedule has plain quiet = record {
    at_step = λ k fewer.
        let v = stretched b e k in
        let left = plain.left in
        let early = plain.early in
        let at = stretch_ticks b e k schedule has (fewer_plain b e k ticks plain (omega arith)) (fewer_quiet schedule b.time k ticks quiet (omega arith)) in
        let first = at_step v e (record { sound = stretch_sound b e k has.sound (omega arith); runs = runs_on k b.slots.runner ∙ has.runs }) (none_due b.revocations (b.time + k) (omega arith)) in
        ap (λ (w : World). after_phase turn (served w)) (sym at) ∙ first ∙ at;
    own = λ k fewer.
        let v = stretched b e k in
        let left = plain.left in
        let runs = runs_on k b.slots.runner ∙ has.runs in
        let at = stretch_ticks b e k schedule has (fewer_plain b e k ticks plain (omega arith)) (fewer_quiet schedule b.time k ticks quiet (omega arith)) in
        let now : IsOwnTick (world_of v) = record {
          acts = λ i is. subst (λ (n : ℕ). IsOwnAct (act_now (world_of v) n)) (one_runner e i (sym runs ∙ is)) (acts_alone v e (stretch_sound b e k has.sound (omega arith)) runs (plain.retire.each k fewer));
          more = omega (arith, left_on k b.slots.runner);
        } in
        subst IsOwnTick at now;
    stays = λ k fewer.
        let at = stretch_ticks b e k schedule has (fewer_plain b e k ticks plain fewer) (fewer_quiet schedule b.time k ticks quiet fewer) in
        let steady = stretch_steady b e k in
        record {
          runner = ap (λ (w : World). running w.book.runner) (sym at) ∙ steady.runner;
          count = ap (λ (w : World). w.count) (sym at) ∙ steady.count;
          sent = λ i. ap (λ (w : World). (w.solos i).sent) (sym at) ∙ steady.sent i;
        };
  }
