-- Steps over rows that hold an environment's mappings, and steps over these mappings.
use Rattle.std.specs.Prelude.{◌≡◌, ◌≢◌, ◌<◌, ◌/◌, ℕ, true, false, List, ◌++◌, length, Option, Some, None}
use Rattle.aegis_limits.specs.Limits.{environment_numbers, page_size}
use Rattle.mips_exec.specs.declared.registers.Cpu.{Cpu}
use Rattle.mips_exec.specs.declared.exception.Exc.{Exc}
use Rattle.mips_exec.specs.declared.exception.Outcome.{Outcome}
use Rattle.mips_exec.specs.declared.exception.Outcome.TheVariants as outcome
use Rattle.mips_exec.specs.Step.{Trapped, outcome_of, view_of, write_after}
use Rattle.env_frames.specs.declared.mapping.Mapping.{Mapping}
use Rattle.guest_memory.specs.Look.{frames_after, guest_step, look}
use Rattle.guest_memory.specs.Steps.{AllRetire, after_steps}
use Rattle.mips_exec.specs.AccessKind.{user_end}
use Rattle.world_model.specs.Page.{answers_by}
use Rattle.r3k_tlb.specs.declared.row.Row.{Row}
use Rattle.r3k_tlb.specs.Rows.{row_count, with_row_at}
use Rattle.r3k_cp0.specs.declared.registers.Cp0.{Cp0}
use Rattle.r3k_cp0.specs.Registers.{current_pid, is_user}
use Rattle.r3k_machine.specs.declared.machine.MachineEnd.{MachineEnd}
use Rattle.r3k_machine.specs.declared.machine.MachineEnd.TheVariants as ends
use Rattle.r3k_machine.specs.Machine.{end_of}
use Rattle.r3k_machine.specs.Memory.{frames_written, row_step}
use Rattle.r3k_machine.specs.Steps.{RowStepsRetire, after_row_steps}
use Rattle.tlb_model.specs.Cache.{row_for}
use Rattle.tlb_model.specs.Coherence.{AreCoherent}
use Rattle.tlb_model.specs.Lookups.{data_vpns, fetch_vpns, first_missing, is_missed, next_refill}

-- the VPNs of the accesses of a step over an environment's mappings
abbrev pub vpns_over : List (List ℕ) → (ℕ → Option Mapping) → Cpu → List ℕ
vpns_over frames leads cpu = fetch_vpns cpu.pc ++ data_vpns cpu (view_of (answers_by (look frames leads)) cpu).fetch

-- The machine runs for an environment in user mode, over rows that hold the mappings of all.
pub record RunsFor (leads : ℕ → ℕ → Option Mapping) (e : ℕ) (cp0 : Cp0) (rows : List Row)
    (frames : List (List ℕ)) : Type 0 where
  pub numbered : e < environment_numbers
  pub pid : current_pid cp0 ≡ e
  pub user : is_user cp0 ≡ true
  pub coherent : AreCoherent leads (length frames) rows

-- how a step ends that refills nothing
abbrev pub end_without_refill : Outcome → MachineEnd
end_without_refill outcome.Retired = ends.Retired
end_without_refill outcome.Call = ends.Call
end_without_refill (outcome.Trap exc) = ends.Trap exc

-- A step over rows is the step over the mappings.
pub record IsFlat (leads : ℕ → Option Mapping) (cp0 : Cp0) (rows : List Row) (frames : List (List ℕ))
    (cpu : Cpu) : Type 0 where
  pub step : row_step cp0 rows frames cpu ≡ guest_step frames leads cpu
  pub memory : frames_written cp0 rows frames (write_after (guest_step frames leads cpu))
      ≡ frames_after frames leads (write_after (guest_step frames leads cpu))
  pub end : end_of cp0 rows (outcome_of (guest_step frames leads cpu))
      ≡ end_without_refill (outcome_of (guest_step frames leads cpu))
  pub missed : is_missed (guest_step frames leads cpu) ≡ false

abbrev pub FindsAreFlat : Type 0
FindsAreFlat =
    (leads : ℕ → ℕ → Option Mapping) (e : ℕ) (cp0 : Cp0) (rows : List Row) (frames : List (List ℕ)) (cpu : Cpu)
    → RunsFor leads e cp0 rows frames → first_missing rows e (vpns_over frames (leads e) cpu) ≡ None
    → IsFlat (leads e) cp0 rows frames cpu

-- A step over rows is a miss at a VPN: it ends as a refill, and where the mappings have none, it is the step over them.
pub record Refills (leads : ℕ → Option Mapping) (cp0 : Cp0) (rows : List Row) (frames : List (List ℕ)) (cpu : Cpu)
    (vpn : ℕ) : Type 0 where
  pub exc : Exc
  pub step : row_step cp0 rows frames cpu ≡ Trapped exc
  pub at : exc.bad / page_size ≡ vpn
  pub user : exc.bad < user_end
  pub end : end_of cp0 rows (outcome_of (Trapped exc)) ≡ ends.Refill exc
  pub flat : leads vpn ≡ None → guest_step frames leads cpu ≡ Trapped exc
  pub missed : is_missed (Trapped exc) ≡ true

abbrev pub MissesRefill : Type 0
MissesRefill =
    (leads : ℕ → ℕ → Option Mapping) (e : ℕ) (cp0 : Cp0) (rows : List Row) (frames : List (List ℕ)) (cpu : Cpu)
    (vpn : ℕ)
    → RunsFor leads e cp0 rows frames → first_missing rows e (vpns_over frames (leads e) cpu) ≡ Some vpn
    → Refills (leads e) cp0 rows frames cpu vpn

-- So many steps over rows that retire are steps over the mappings that do.
pub record RunIsFlat (leads : ℕ → Option Mapping) (cp0 : Cp0) (rows : List Row) (frames : List (List ℕ)) (cpu : Cpu)
    (steps : ℕ) : Type 0 where
  pub registers : (after_row_steps cp0 rows (record { cpu = cpu; frames = frames }) steps).cpu
      ≡ (after_steps leads (record { cpu = cpu; frames = frames }) steps).cpu
  pub memory : (after_row_steps cp0 rows (record { cpu = cpu; frames = frames }) steps).frames
      ≡ (after_steps leads (record { cpu = cpu; frames = frames }) steps).frames
  pub retire : AllRetire leads (record { cpu = cpu; frames = frames }) steps

abbrev pub RunsAreFlat : Type 0
RunsAreFlat =
    (leads : ℕ → ℕ → Option Mapping) (e : ℕ) (cp0 : Cp0) (rows : List Row) (frames : List (List ℕ)) (cpu : Cpu)
    (steps : ℕ)
    → RunsFor leads e cp0 rows frames → RowStepsRetire cp0 rows (record { cpu = cpu; frames = frames }) steps
    → RunIsFlat (leads e) cp0 rows frames cpu steps

-- each VPN leads by a mapping of that VPN
abbrev pub LeadByNumber : (ℕ → Option Mapping) → Type 0
LeadByNumber leads = (vpn : ℕ) (m : Mapping) → leads vpn ≡ Some m → m.vpn ≡ vpn

-- Two refills suffice: once the mappings of two misses of a step are refilled, each into a row of its own, there is no
-- third miss that a mapping answers.
abbrev pub TwoRefillsSuffice : Type 0
TwoRefillsSuffice =
    (leads : ℕ → Option Mapping) (e : ℕ) (frames : List (List ℕ)) (cpu : Cpu) (rows : List Row) (first second : ℕ)
    (m n : Mapping)
    → e < environment_numbers → length rows ≡ row_count → first < row_count → second < row_count → first ≢ second
    → LeadByNumber leads
    → next_refill leads e (vpns_over frames leads cpu) rows ≡ Some m
    → next_refill leads e (vpns_over frames leads cpu) (with_row_at rows first (row_for e m)) ≡ Some n
    → next_refill leads e (vpns_over frames leads cpu)
    (with_row_at (with_row_at rows first (row_for e m)) second (row_for e n))
    ≡ None

-- Where some access found no row, and each finds one behind a row that is written for a mapping, the mapping's VPN is
-- that of the first miss.
abbrev pub RightRefill : Type 0
RightRefill = (e : ℕ) (vpns : List ℕ) (rows : List Row) (i : ℕ) (m : Mapping)
    → e < environment_numbers → first_missing rows e vpns ≢ None
    → first_missing (with_row_at rows i (row_for e m)) e vpns ≡ None → first_missing rows e vpns ≡ Some m.vpn
