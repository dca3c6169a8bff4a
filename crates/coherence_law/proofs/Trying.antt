-- The machine's refills are those of the TLB's look-ups, and its step is then the step over the mappings.
use Rattle.std.proofs.Common.{◌≡◌, ◌≢◌, ◌<◌, ◌≤◌, ℕ, zero, suc, List, length, Bool, true, false, Option, Some, None, refl, sym, ◌∙◌, ap, subst, arith}
use Rattle.std.specs.Prelude.{◌-◌, ◌==◌, if◌then◌else◌}
use Rattle.std.proofs.lemmas.Bool.{eqb-true}
use Rattle.aegis_limits.specs.Limits.{environment_numbers}
use Rattle.env_frames.specs.declared.mapping.Mapping.{Mapping}
use Rattle.guest_memory.specs.Look.{frames_after, guest_step}
use Rattle.mips_exec.specs.declared.exception.Outcome.{Outcome}
use Rattle.mips_exec.specs.declared.exception.Outcome.TheVariants as outcome
use Rattle.mips_exec.specs.declared.registers.Cpu.{Cpu}
use Rattle.mips_exec.specs.Step.{Step, Trapped, fetched, outcome_of, write_after}
use Rattle.r3k_tlb.specs.declared.row.Row.{Row}
use Rattle.r3k_tlb.specs.Rows.{with_row_at}
use Rattle.r3k_cp0.specs.declared.registers.Cp0.{Cp0}
use Rattle.r3k_cp0.specs.Random.{fallen, first_random, random_end}
use Rattle.r3k_cp0.specs.Registers.{current_pid, is_user}
use Rattle.r3k_machine.specs.declared.machine.Machine.{Machine}
use Rattle.r3k_machine.specs.Machine.{end_of, user_step}
use Rattle.r3k_machine.specs.Memory.{frames_written, row_answers, row_step}
use Rattle.r3k_machine.specs.System.{MachineStep, machine_step, step_by, system_word_in, table_step}
use Rattle.tlb_model.specs.Cache.{Cache, refilled, row_for}
use Rattle.tlb_model.specs.Coherence.{AreCoherent}
use Rattle.tlb_model.specs.Lookups.{first_missing, mapping_of_miss, next_refill, settled, settled_by}
use Rattle.tlb_laws.specs.Laws.{FindsAreFlat, MissesRefill, RunsFor, TwoRefillsSuffice, end_without_refill, vpns_over}
use Rattle.tlb_course.specs.Accesses.{is_kept, mapping_for}
use Rattle.world_model.specs.Book.{Book}
use Rattle.coherence_law.specs.Solo.{missed_mapping, missed_vpn, refilled_by, with_mapping_written, with_rows}
use Rattle.coherence_law.proofs.Leading.{led}
use Rattle.coherence_law.proofs.Shape.{IsShaped}

pub users_step : (m : Machine) (frames : List (List ℕ)) → is_user m.cp0 ≡ true → machine_step m frames ≡ table_step m frames (user_step m frames)
users_step m frames user = ap (λ (b : Bool). step_by m frames (if b then None else system_word_in (fetched (row_answers m.cp0 m.tlb frames) m.cpu.pc))) user

-- a machine with these registers, rows and Random, in user mode for an environment
pub record IsFor (e : ℕ) (cpu : Cpu) (c : Cache) (m : Machine) : Type 0 where
  pub cpu_is : m.cpu ≡ cpu
  pub rows : m.tlb ≡ c.rows
  pub random : m.cp0.random ≡ c.random
  pub user : is_user m.cp0 ≡ true
  pub pid : current_pid m.cp0 ≡ e

-- an end without a refill has no VPN
no_vpn : (o : Outcome) → missed_vpn (end_without_refill o) ≡ None
no_vpn outcome.Retired = refl
no_vpn outcome.Call = refl
no_vpn (outcome.Trap exc) = refl

-- Random's row and the one that it falls to are two, and both are there
apart : (r : ℕ) → first_random ≤ r → r < random_end → r ≢ fallen r
apart r least most = by_first (r == first_random) refl
  where
    by_first : (t : Bool) → (r == first_random) ≡ t → r ≢ (if t then random_end - 1 else r - 1)
    by_first true h same = let is : r ≡ first_random = eqb-true r first_random h in absurd (omega (arith, is, same))
    by_first false h same = absurd (omega (arith, least, same))

still_within : (r : ℕ) → r < random_end → fallen r < random_end
still_within r most = by_first (r == first_random)
  where
    by_first : (t : Bool) → (if t then random_end - 1 else r - 1) < random_end
    by_first true = omega arith
    by_first false = omega (arith, most)

-- the step over the rows is that over the mappings, and memory takes what it writes alike
pub record IsMapped (leads : ℕ → Option Mapping) (cp0 : Cp0) (rows : List Row) (frames : List (List ℕ)) (cpu : Cpu) : Type 0 where
  pub step : row_step cp0 rows frames cpu ≡ guest_step frames leads cpu
  pub memory : frames_written cp0 rows frames (write_after (guest_step frames leads cpu)) ≡ frames_after frames leads (write_after (guest_step frames leads cpu))

nothing_written : (leads : ℕ → Option Mapping) (cp0 : Cp0) (rows : List Row) (frames : List (List ℕ)) (step : Step) → write_after step ≡ None
    → frames_written cp0 rows frames (write_after step) ≡ frames_after frames leads (write_after step)
unfolding frames_written
nothing_written leads cp0 rows frames step none = ap (frames_written cp0 rows frames) none ∙ sym (ap (frames_after frames leads) none)

module _ (finds : FindsAreFlat) (misses : MissesRefill) (two : TwoRefillsSuffice) (b : Book) (e : ℕ) (frames : List (List ℕ)) (cpu : Cpu) (small : e < environment_numbers) where
  abbrev leads : ℕ → Option Mapping
  leads = mapping_for b e

  abbrev vpns : List ℕ
  vpns = vpns_over frames leads cpu

  -- rows that hold the mappings of the book
  abbrev IsSound : Cache → Type 0
  IsSound c = AreCoherent (mapping_for b) (length frames) c.rows

  runs_for : (c : Cache) (m : Machine) → IsSound c → IsFor e cpu c m → RunsFor (mapping_for b) e m.cp0 m.tlb frames
  runs_for c m sound is = record {
    numbered = small;
    pid = is.pid;
    user = is.user;
    coherent = subst (AreCoherent (mapping_for b) (length frames)) (sym is.rows) sound;
  }

  -- how its step ends
  ended : (c : Cache) (m : Machine) → IsFor e cpu c m → (machine_step m frames).outcome ≡ outcome_of (row_step m.cp0 m.tlb frames cpu)
  ended c m is = ap (λ (s : MachineStep). s.outcome) (users_step m frames is.user) ∙ ap (λ (r : Cpu). outcome_of (row_step m.cp0 m.tlb frames r)) is.cpu_is

  missed_by : (c : Cache) (m : Machine) → IsFor e cpu c m → RunsFor (mapping_for b) e m.cp0 m.tlb frames → (o : Option ℕ) → first_missing m.tlb e vpns ≡ o
      → missed_vpn (end_of m.cp0 m.tlb (machine_step m frames).outcome) ≡ o
  missed_by c m is runs None none =
      let flat = finds (mapping_for b) e m.cp0 m.tlb frames cpu runs none in
      ap (λ (o : Outcome). missed_vpn (end_of m.cp0 m.tlb o)) (ended c m is ∙ ap outcome_of flat.step)
      ∙ ap missed_vpn flat.end ∙ no_vpn (outcome_of (guest_step frames leads cpu))
  missed_by c m is runs (Some vpn) some =
      let missed = misses (mapping_for b) e m.cp0 m.tlb frames cpu vpn runs some in
      ap (λ (o : Outcome). missed_vpn (end_of m.cp0 m.tlb o)) (ended c m is ∙ ap outcome_of missed.step)
      ∙ ap missed_vpn missed.end ∙ ap Some missed.at

  -- the mapping of a miss is that of the next refill
  same_refill : (c : Cache) (m : Machine) → IsSound c → IsFor e cpu c m → missed_mapping leads frames m ≡ next_refill leads e vpns c.rows
  same_refill c m sound is =
      ap (mapping_of_miss leads) (missed_by c m is (runs_for c m sound is) (first_missing m.tlb e vpns) refl ∙ ap (λ (rows : List Row). first_missing rows e vpns) is.rows)

  refilled_for : (g : Bool) (c : Cache) (m : Machine) (n : Mapping) → IsFor e cpu c m → IsFor e cpu (refilled g e n c) (with_mapping_written e n m)
  refilled_for g c m n is = record {
    cpu_is = is.cpu_is;
    rows = λ k. with_row_at (is.rows k) (is.random k) (row_for e n);
    random = ap fallen is.random;
    user = is.user;
    pid = is.pid;
  }

  -- over caches of which something is kept that makes them sound
  module _ (P : Cache → Type 0) (sound_of : (c : Cache) → P c → IsSound c)
      (keeps : (c : Cache) (n : Mapping) → P c → next_refill leads e vpns c.rows ≡ Some n → P (refilled (is_kept b e n.vpn) e n c)) where
    pub settled_for : (n : ℕ) (c : Cache) (m : Machine) → P c → IsFor e cpu c m → IsFor e cpu (settled n (is_kept b e) leads e vpns c) (with_rows n leads e frames m)
    settled_for zero c m has is = is
    settled_for (suc n) c m has is =
        subst (λ (o : Option Mapping). IsFor e cpu (settled_by (settled n (is_kept b e) leads e vpns) (is_kept b e) e o c) (refilled_by (with_rows n leads e frames) e (missed_mapping leads frames m) m)) (same_refill c m (sound_of c has) is)
        (by_refill (missed_mapping leads frames m) (sym (same_refill c m (sound_of c has) is)) (settled_for n))
      where
        by_refill : (o : Option Mapping) → next_refill leads e vpns c.rows ≡ o
            → ((d : Cache) (k : Machine) → P d → IsFor e cpu d k → IsFor e cpu (settled n (is_kept b e) leads e vpns d) (with_rows n leads e frames k))
            → IsFor e cpu (settled_by (settled n (is_kept b e) leads e vpns) (is_kept b e) e o c) (refilled_by (with_rows n leads e frames) e o m)
        by_refill None none rest = is
        by_refill (Some mapping) next rest =
            rest (refilled (is_kept b e mapping.vpn) e mapping c) (with_mapping_written e mapping m) (keeps c mapping has next) (refilled_for (is_kept b e mapping.vpn) c m mapping is)

  -- two refills suffice
  pub none_left : (c : Cache) → IsShaped c → next_refill leads e vpns (settled 2 (is_kept b e) leads e vpns c).rows ≡ None
  none_left c shaped = by_first (next_refill leads e vpns c.rows) refl
    where
      by_second : (m : Mapping) → next_refill leads e vpns c.rows ≡ Some m → (o : Option Mapping) → next_refill leads e vpns (refilled (is_kept b e m.vpn) e m c).rows ≡ o
          → next_refill leads e vpns (settled_by (settled 0 (is_kept b e) leads e vpns) (is_kept b e) e o (refilled (is_kept b e m.vpn) e m c)).rows ≡ None
      by_second m one None is = is
      by_second m one (Some n) is =
          two leads e frames cpu c.rows c.random (fallen c.random) m n small shaped.count (omega (arith, shaped.random.1))
          (omega (arith, still_within c.random shaped.random.1)) (apart c.random shaped.random.0 shaped.random.1) (λ vpn x at. (led b e vpn x at).number) one is

      by_first : (o : Option Mapping) → next_refill leads e vpns c.rows ≡ o → next_refill leads e vpns (settled_by (settled 1 (is_kept b e) leads e vpns) (is_kept b e) e o c).rows ≡ None
      by_first None is = is
      by_first (Some m) is = by_second m is (next_refill leads e vpns (refilled (is_kept b e m.vpn) e m c).rows) refl

  -- where nothing is left to refill, the step is that over the mappings
  pub mapped_step : (c : Cache) (m : Machine) → IsSound c → IsFor e cpu c m → next_refill leads e vpns c.rows ≡ None → IsMapped leads m.cp0 m.tlb frames cpu
  mapped_step c m sound is none =
      by_miss (runs_for c m sound is) (first_missing m.tlb e vpns) refl (ap (λ (rows : List Row). next_refill leads e vpns rows) is.rows ∙ none)
    where
      by_miss : RunsFor (mapping_for b) e m.cp0 m.tlb frames → (o : Option ℕ) → first_missing m.tlb e vpns ≡ o → mapping_of_miss leads (first_missing m.tlb e vpns) ≡ None → IsMapped leads m.cp0 m.tlb frames cpu
      by_miss runs None found nowhere = let flat = finds (mapping_for b) e m.cp0 m.tlb frames cpu runs found in record { step = flat.step; memory = flat.memory }
      by_miss runs (Some vpn) missing nowhere =
          let missed = misses (mapping_for b) e m.cp0 m.tlb frames cpu vpn runs missing in
          let flat : guest_step frames leads cpu ≡ Trapped missed.exc = missed.flat (sym (ap (mapping_of_miss leads) missing) ∙ nowhere) in
          record { step = missed.step ∙ sym flat; memory = nothing_written leads m.cp0 m.tlb frames (guest_step frames leads cpu) (ap write_after flat) }
