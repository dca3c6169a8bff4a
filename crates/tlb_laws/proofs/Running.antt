-- Steps over rows that retire are steps over the mappings.
use Rattle.std.proofs.Common.{◌≡◌, ◌<◌, ℕ, zero, suc, List, length, length-set, Option, Some, None, refl, sym, ◌∙◌, ap, subst, arith, rules, ◌⊎◌, inl, inr}
use Rattle.mips_exec.specs.Access.{Write}
use Rattle.mips_exec.specs.declared.registers.Cpu.{Cpu}
use Rattle.mips_exec.specs.declared.exception.Exc.{Exc}
use Rattle.mips_exec.specs.declared.exception.Outcome.TheVariants as outcome
use Rattle.mips_exec.specs.Step.{Step, Trapped, cpu_after, outcome_of, write_after}
use Rattle.env_frames.specs.declared.mapping.Mapping.{Mapping}
use Rattle.guest_memory.specs.Look.{frames_after, guest_step}
use Rattle.guest_memory.specs.Steps.{AllRetire, Machine, after_steps, next_step}
use Rattle.r3k_tlb.specs.declared.row.Row.{Row}
use Rattle.r3k_cp0.specs.declared.registers.Cp0.{Cp0}
use Rattle.r3k_machine.specs.Memory.{frames_written, row_step}
use Rattle.r3k_machine.specs.Steps.{Retires, RowStepsRetire, Running, after_row_steps, next_row_step}
use Rattle.tlb_model.specs.Coherence.{AreCoherent}
use Rattle.tlb_model.specs.Lookups.{first_missing}
use Rattle.tlb_laws.specs.Laws.{IsFlat, RunIsFlat, RunsAreFlat, RunsFor, vpns_over}
use Rattle.tlb_laws.proofs.Finding.{finds}
use Rattle.tlb_laws.proofs.Missing.{misses}

step_size : (frames : List (List ℕ)) (leads : ℕ → Option Mapping) (w : Option Write) → length (frames_after frames leads w) ≡ length frames
step_size frames leads w = search (rules, length-set)

steps_size : (leads : ℕ → Option Mapping) (m : Machine) (k : ℕ) → length (after_steps leads m k).frames ≡ length m.frames
steps_size leads m zero = refl
steps_size leads m (suc k) = let n = after_steps leads m k in step_size n.frames leads (write_after (next_step leads n)) ∙ steps_size leads m k

not_trapped : (st : Step) (exc : Exc) → outcome_of st ≡ outcome.Retired → st ≡ Trapped exc → ⊥
not_trapped st exc retired is = search (rules, retired, is)

-- a step over rows that retires is flat
retired_flat : (leads : ℕ → ℕ → Option Mapping) (e : ℕ) (cp0 : Cp0) (rows : List Row) (frames : List (List ℕ)) (cpu : Cpu) → RunsFor leads e cp0 rows frames
    → outcome_of (row_step cp0 rows frames cpu) ≡ outcome.Retired → (o : Option ℕ) → first_missing rows e (vpns_over frames (leads e) cpu) ≡ o → IsFlat (leads e) cp0 rows frames cpu
retired_flat leads e cp0 rows frames cpu runs retired None is = finds leads e cp0 rows frames cpu runs is
retired_flat leads e cp0 rows frames cpu runs retired (Some vpn) is =
    let r = misses leads e cp0 rows frames cpu vpn runs is in absurd (not_trapped (row_step cp0 rows frames cpu) r.exc retired r.step)

below_or_last : (j k : ℕ) → j < suc k → (j < k) ⊎ (j ≡ k)
below_or_last j k h = grind arith

module _ (leads : ℕ → ℕ → Option Mapping) (e : ℕ) (cp0 : Cp0) (rows : List Row) where
  one_flat : (s : Running) (m : Machine) → s.cpu ≡ m.cpu → s.frames ≡ m.frames → RunsFor leads e cp0 rows m.frames → Retires (next_row_step cp0 rows s) → IsFlat (leads e) cp0 rows m.frames m.cpu
  one_flat s m cpu frames runs retired =
      retired_flat leads e cp0 rows m.frames m.cpu runs
      (ap (λ c. outcome_of (row_step cp0 rows m.frames c)) (sym cpu) ∙ ap (λ f. outcome_of (row_step cp0 rows f s.cpu)) (sym frames) ∙ retired)
      (first_missing rows e (vpns_over m.frames (leads e) m.cpu)) refl

  still_runs : (frames : List (List ℕ)) (cpu : Cpu) (k : ℕ) → RunsFor leads e cp0 rows frames → RunsFor leads e cp0 rows (after_steps (leads e) (record { cpu = cpu; frames = frames }) k).frames
  still_runs frames cpu k runs = record {
    numbered = runs.numbered;
    pid = runs.pid;
    user = runs.user;
    coherent = subst (λ n. AreCoherent leads n rows) (sym (steps_size (leads e) (record { cpu = cpu; frames = frames }) k)) runs.coherent;
  }

  row_cpu : (s : Running) (m : Machine) → s.cpu ≡ m.cpu → s.frames ≡ m.frames → row_step cp0 rows m.frames m.cpu ≡ guest_step m.frames (leads e) m.cpu
      → cpu_after s.cpu (next_row_step cp0 rows s) ≡ cpu_after m.cpu (next_step (leads e) m)
  row_cpu s m cpu frames same =
      ap (λ f. cpu_after s.cpu (row_step cp0 rows f s.cpu)) frames ∙ ap (λ c. cpu_after c (row_step cp0 rows m.frames c)) cpu ∙ ap (cpu_after m.cpu) same

  row_frames : (s : Running) (m : Machine) → s.cpu ≡ m.cpu → s.frames ≡ m.frames → IsFlat (leads e) cp0 rows m.frames m.cpu
      → frames_written cp0 rows s.frames (write_after (next_row_step cp0 rows s)) ≡ frames_after m.frames (leads e) (write_after (next_step (leads e) m))
  row_frames s m cpu frames flat =
      ap (λ f. frames_written cp0 rows f (write_after (row_step cp0 rows f s.cpu))) frames
      ∙ ap (λ c. frames_written cp0 rows m.frames (write_after (row_step cp0 rows m.frames c))) cpu
      ∙ ap (λ st. frames_written cp0 rows m.frames (write_after st)) flat.step ∙ flat.memory

  fewer : (s : Running) (k : ℕ) → RowStepsRetire cp0 rows s (suc k) → RowStepsRetire cp0 rows s k
  fewer s k all = record { each = λ j less. all.each j (omega arith) }

  flat_retires : (s : Running) (m : Machine) → s.cpu ≡ m.cpu → s.frames ≡ m.frames → Retires (next_row_step cp0 rows s) → row_step cp0 rows m.frames m.cpu ≡ guest_step m.frames (leads e) m.cpu
      → outcome_of (next_step (leads e) m) ≡ outcome.Retired
  flat_retires s m cpu frames retired same =
      ap outcome_of (sym same) ∙ ap (λ c. outcome_of (row_step cp0 rows m.frames c)) (sym cpu) ∙ ap (λ f. outcome_of (row_step cp0 rows f s.cpu)) (sym frames) ∙ retired

  by_place : (m : Machine) (k : ℕ) → AllRetire (leads e) m k → outcome_of (next_step (leads e) (after_steps (leads e) m k)) ≡ outcome.Retired → (j : ℕ) → (j < k) ⊎ (j ≡ k)
      → outcome_of (next_step (leads e) (after_steps (leads e) m j)) ≡ outcome.Retired
  by_place m k all last j (inl less) = all.each j less
  by_place m k all last j (inr same) = ap (λ i. outcome_of (next_step (leads e) (after_steps (leads e) m i))) same ∙ last

  run_flat : (frames : List (List ℕ)) (cpu : Cpu) (k : ℕ) → RunsFor leads e cp0 rows frames → RowStepsRetire cp0 rows (record { cpu = cpu; frames = frames }) k
      → RunIsFlat (leads e) cp0 rows frames cpu k
  run_flat frames cpu zero runs all = record { registers = refl; memory = refl; retire = record { each = λ j less. absurd (omega arith) } }
  run_flat frames cpu (suc k) runs all =
      let before = run_flat frames cpu k runs (fewer (record { cpu = cpu; frames = frames }) k all) in
      let s = after_row_steps cp0 rows (record { cpu = cpu; frames = frames }) k in
      let m = after_steps (leads e) (record { cpu = cpu; frames = frames }) k in
      let flat = one_flat s m before.registers before.memory (still_runs frames cpu k runs) (all.each k (omega arith)) in
      record {
        registers = row_cpu s m before.registers before.memory flat.step;
        memory = row_frames s m before.registers before.memory flat;
        retire = record { each = λ j less. by_place (record { cpu = cpu; frames = frames }) k before.retire (flat_retires s m before.registers before.memory (all.each k (omega arith)) flat.step) j (below_or_last j k less) };
      }

pub runs_are_flat : RunsAreFlat
runs_are_flat leads e cp0 rows frames cpu steps runs all = run_flat leads e cp0 rows frames cpu steps runs all
