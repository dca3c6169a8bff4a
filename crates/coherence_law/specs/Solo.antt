-- The machine's step over its rows and physical memory, and the step of an environment alone.
use Rattle.std.specs.Prelude.{◌≡◌, ◌<◌, ◌/◌, ℕ, zero, suc, true, List, length, Option, Some, None}
use Rattle.aegis_limits.specs.Limits.{page_size}
use Rattle.boot_image.specs.Accepted.{IsAccepted}
use Rattle.env_frames.specs.declared.mapping.Mapping.{Mapping}
use Rattle.guest_memory.specs.Look.{look}
use Rattle.mips_exec.specs.Step.{cpu_after, outcome_of, write_after}
use Rattle.r3k_tlb.specs.Rows.{with_row_at}
use Rattle.r3k_cp0.specs.Registers.{current_pid, is_user}
use Rattle.r3k_machine.specs.declared.machine.Machine.{Machine}
use Rattle.r3k_machine.specs.declared.machine.MachineEnd.{MachineEnd}
use Rattle.r3k_machine.specs.declared.machine.MachineEnd.TheVariants.{Refill}
use Rattle.r3k_machine.specs.Machine.{after_attempts, end_of}
use Rattle.r3k_machine.specs.System.{MachineStep, machine_step}
use Rattle.tlb_model.specs.Cache.{Cache, row_for}
use Rattle.tlb_model.specs.Lookups.{mapping_of_miss}
use Rattle.tlb_course.specs.Accesses.{mapping_for}
use Rattle.tlb_course.specs.Course.{cache_after, cache_looked, cache_served}
use Rattle.world_model.specs.Book.{Book}
use Rattle.world_model.specs.Solo.{Solo, sight, store_of}
use Rattle.world_model.specs.Step.{acted, step_alone, store_act}
use Rattle.world_model.specs.World.{World}
use Rattle.run_model.specs.Run.{System, at_step, once_happened, world_after}

-- ---- the machine's step, with its refills

-- a mapping is written into the row that Random names, and Random falls
abbrev pub with_mapping_written : ℕ → Mapping → Machine → Machine
with_mapping_written e mapping m = record m {
  tlb = with_row_at m.tlb m.cp0.random (row_for e mapping);
  cp0 = after_attempts 1 m.cp0;
}

-- the VPN of a refill
abbrev pub missed_vpn : MachineEnd → Option ℕ
missed_vpn (Refill exc) = Some (exc.bad / page_size)
missed_vpn end = None

-- the mapping of the VPN at which the machine's next step ends as a refill, if it ends so and there is one
abbrev pub missed_mapping : (ℕ → Option Mapping) → List (List ℕ) → Machine → Option Mapping
missed_mapping leads frames m =
    mapping_of_miss leads (missed_vpn (end_of m.cp0 m.tlb (machine_step m frames).outcome))

-- The machine once the step has its rows: where it ends as a refill whose VPN has a mapping, the mapping is written,
-- and the step is tried again, with at most so many refills.
abbrev pub refilled_by : (Machine → Machine) → ℕ → Option Mapping → Machine → Machine
refilled_by again e None m = m
refilled_by again e (Some mapping) m = again (with_mapping_written e mapping m)

abbrev pub with_rows : ℕ → (ℕ → Option Mapping) → ℕ → List (List ℕ) → Machine → Machine
with_rows zero leads e frames m = m
with_rows (suc n) leads e frames m =
    refilled_by (with_rows n leads e frames) e (missed_mapping leads frames m) m

-- ---- the environment alone

-- what it has once what its step writes is stored
abbrev pub stored_alone : Solo → Solo
stored_alone s = acted (store_act (store_of s (write_after (step_alone s)))) s

-- ---- how they stand for one another

-- A machine with these rows and this Random runs in user mode for an environment.
pub record RunsSolo (s : Solo) (e : ℕ) (c : Cache) (m : Machine) : Type 0 where
  pub cpu : m.cpu ≡ s.cpu
  pub rows : m.tlb ≡ c.rows
  pub random : m.cp0.random ≡ c.random
  pub user : is_user m.cp0 ≡ true
  pub pid : current_pid m.cp0 ≡ e

-- Physical memory has the pages of the book, and at each VPN that which the environment sees there.
pub record ShowsSolo (b : Book) (e : ℕ) (s : Solo) (frames : List (List ℕ)) : Type 0 where
  pub pages : length frames ≡ b.page_count
  pub each : (vpn : ℕ) → look frames (mapping_for b e) vpn ≡ sight s vpn

-- The machine's step has the registers and the outcome of the environment's step alone, each page that the environment
-- sees has the bytes that it has alone, and the rows are those of the TLB's course.
pub record IsStepAlone (w : World) (e : ℕ) (c : Cache) (step : MachineStep) : Type 0 where
  pub registers : step.machine.cpu ≡ cpu_after (w.solos e).cpu (step_alone (w.solos e))
  pub outcome : step.outcome ≡ outcome_of (step_alone (w.solos e))
  pub memory : ShowsSolo w.book e (stored_alone (w.solos e)) step.frames
  pub rows : step.machine.tlb ≡ (cache_looked w e c).rows

-- So it is in each tick of each run, with at most two refills, of the runner as of each environment of the image.
abbrev pub MachineIsSolo : Type 0
MachineIsSolo =
    (system : System) (t e : ℕ) (m : Machine) (frames : List (List ℕ)) → IsAccepted system.image
    → e < length system.image.programs
    → (let w = at_step system t in
    let c = cache_served (once_happened system.schedule (world_after system t)) (cache_after system t) in
    RunsSolo (w.solos e) e c m → ShowsSolo w.book e (w.solos e) frames
    → IsStepAlone w e c (machine_step (with_rows 2 (mapping_for w.book e) e frames m) frames))
