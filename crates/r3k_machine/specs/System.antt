-- A step in either mode: in kernel mode the instructions of coprocessor 0 are done.
use Rattle.std.specs.Prelude.{◌≡◌, ℕ, ◌/◌, true, ◌==◌, if◌then◌else◌, List, Option, Some, None, Result, Ok, Err}
use Rattle.mips_isa.specs.declared.insn.Insn.{Insn}
use Rattle.mips_isa.specs.declared.insn.Insn.TheVariants.{Mfc0, Mtc0, Tlbr, Tlbwi, Tlbwr, Tlbp, Rfe}
use Rattle.mips_isa.specs.Encoding.{insn_of}
use Rattle.mips_isa.specs.Fields.{opcode_of}
use Rattle.mips_exec.specs.declared.exception.Exc.{Exc}
use Rattle.mips_exec.specs.declared.exception.ExcCode.TheVariants.{Ri}
use Rattle.mips_exec.specs.declared.exception.Outcome.{Outcome}
use Rattle.mips_exec.specs.declared.exception.Outcome.TheVariants as outcome
use Rattle.mips_exec.specs.Cpu.{advanced, reg, with_reg}
use Rattle.mips_exec.specs.Exception.{plain}
use Rattle.mips_exec.specs.Step.{Step, cpu_after, fetched, outcome_of, write_after}
use Rattle.mips_step.specs.WordStep.{has_retired}
use Rattle.aegis_limits.specs.Limits.{page_size}
use Rattle.r3k_tlb.specs.declared.row.Row.{Row}
use Rattle.r3k_tlb.specs.Rows.{first_fitting_place, row_at, with_row_at}
use Rattle.r3k_cp0.specs.declared.registers.Cp0.{Cp0}
use Rattle.r3k_cp0.specs.Enter.{left}
use Rattle.r3k_cp0.specs.Registers.{cp0_reg, current_pid, index_row, is_user, probe_word, with_cp0_reg}
use Rattle.r3k_machine.specs.declared.machine.Machine.{Machine}
use Rattle.r3k_machine.specs.Machine.{after_attempts, user_step}
use Rattle.r3k_machine.specs.Memory.{frames_written, row_answers}

-- ---- the instructions of coprocessor 0

-- a row of EntryHi and EntryLo
abbrev pub entry_row : Cp0 → Row
entry_row c = record { hi = c.entry_hi; lo = c.entry_lo }

-- TLBR: EntryHi and EntryLo take the words of a row
abbrev pub with_entry : Cp0 → Row → Cp0
with_entry c row = record c { entry_hi = row.hi; entry_lo = row.lo }

-- TLBWI, TLBWR: a row takes the words of EntryHi and EntryLo
abbrev pub with_row_written : Machine → ℕ → Machine
with_row_written m i = record m { tlb = with_row_at m.tlb i (entry_row m.cp0) }

-- TLBP: Index takes the lowest row that fits the VPN and the PID of EntryHi
abbrev pub probed : List Row → Cp0 → Cp0
probed rows c = record c { index = probe_word (first_fitting_place (c.entry_hi / page_size) (current_pid c) rows) }

-- what an instruction of coprocessor 0 does in kernel mode, if it is one
unfoldable pub system_effect : Insn → Machine → Option Machine
system_effect (Mfc0 rt rd) m = Some (record m { cpu = with_reg m.cpu rt (cp0_reg m.cp0 rd) })
system_effect (Mtc0 rt rd) m = Some (record m { cp0 = with_cp0_reg m.cp0 rd (reg m.cpu rt) })
system_effect Tlbr m = Some (record m { cp0 = with_entry m.cp0 (row_at m.tlb (index_row m.cp0)) })
system_effect Tlbwi m = Some (with_row_written m (index_row m.cp0))
system_effect Tlbwr m = Some (with_row_written m m.cp0.random)
system_effect Tlbp m = Some (record m { cp0 = probed m.tlb m.cp0 })
system_effect Rfe m = Some (record m { cp0 = left m.cp0 })
system_effect _ m = None

-- ---- the step

-- what a step leaves of the machine, but for the fall of Random, and of memory; and its outcome
pub record MachineStep : Type 0 where
  pub machine : Machine
  pub frames : List (List ℕ)
  pub outcome : Outcome

-- a step of the instruction table
abbrev pub table_step : Machine → List (List ℕ) → Step → MachineStep
table_step m frames step = record {
  machine = record m { cpu = cpu_after m.cpu step };
  frames = frames_written m.cp0 m.tlb frames (write_after step);
  outcome = outcome_of step;
}

-- an instruction of coprocessor 0 goes on to the next; any other word of its opcode is none
abbrev pub system_machine : Machine → Option Machine → Machine
system_machine m (Some n) = record n { cpu = advanced n.cpu }
system_machine m None = m

abbrev pub system_outcome : Option Machine → Outcome
system_outcome (Some n) = outcome.Retired
system_outcome None = outcome.Trap (plain Ri)

abbrev pub system_step : Machine → List (List ℕ) → Option Machine → MachineStep
system_step m frames done = record { machine = system_machine m done; frames = frames; outcome = system_outcome done }

-- the word of coprocessor 0's opcode that was fetched, if it is one
abbrev pub system_word_in : Result ℕ Exc → Option ℕ
system_word_in (Ok word) = if opcode_of word == 16 then Some word else None
system_word_in (Err exc) = None

-- that of the next step, in kernel mode; in user mode there is none
abbrev pub system_word : Machine → List (List ℕ) → Option ℕ
system_word m frames =
    if is_user m.cp0 then None else system_word_in (fetched (row_answers m.cp0 m.tlb frames) m.cpu.pc)

-- Such a word's step is that of coprocessor 0, and each other step is that of the instruction table.
abbrev pub step_by : Machine → List (List ℕ) → Option ℕ → MachineStep
step_by m frames (Some word) = system_step m frames (system_effect (insn_of word) m)
step_by m frames None = table_step m frames (user_step m frames)

abbrev pub machine_step : Machine → List (List ℕ) → MachineStep
machine_step m frames = step_by m frames (system_word m frames)

-- Random has fallen, as after each attempted step
abbrev pub with_random_fallen : Machine → Machine
with_random_fallen m = record m { cp0 = after_attempts 1 m.cp0 }

-- A step of the instruction table that retires is the machine's, in either mode.
abbrev pub RetiredStepsAreTheMachines : Type 0
RetiredStepsAreTheMachines =
    (m : Machine) (frames : List (List ℕ)) → has_retired (user_step m frames) ≡ true
    → machine_step m frames ≡ table_step m frames (user_step m frames)
