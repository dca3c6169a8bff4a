-- Steps of the machine, one after another, between which its rows and its mode stay.
use Rattle.std.specs.Prelude.{◌≡◌, ℕ, zero, suc, ◌<◌, nat_lt, if◌then◌else◌, List, Option, Some, None, Result, Ok, Err}
use Rattle.mips_exec.specs.declared.registers.Cpu.{Cpu}
use Rattle.mips_exec.specs.declared.exception.Exc.{Exc}
use Rattle.mips_exec.specs.declared.exception.Outcome.TheVariants as outcome
use Rattle.mips_exec.specs.Step.{Step, cpu_after, fetched, outcome_of, write_after}
use Rattle.mips_step.specs.WordStep.{named_address}
use Rattle.r3k_tlb.specs.declared.row.Row.{Row}
use Rattle.r3k_cp0.specs.declared.registers.Cp0.{Cp0}
use Rattle.r3k_machine.specs.declared.entry.Entry.{Entry}
use Rattle.r3k_machine.specs.Entry.{entry_of}
use Rattle.r3k_machine.specs.Memory.{frames_written, row_answers, row_step}

-- what steps change: the registers, and physical memory
pub record Running : Type 0 where
  pub cpu : Cpu
  pub frames : List (List ℕ)

-- the next step
abbrev pub next_row_step : Cp0 → List Row → Running → Step
next_row_step cp0 rows s = row_step cp0 rows s.frames s.cpu

abbrev pub after_row_step : Cp0 → List Row → Running → Step → Running
after_row_step cp0 rows s step = record {
  cpu = cpu_after s.cpu step;
  frames = frames_written cp0 rows s.frames (write_after step);
}

-- what so many steps leave
abbrev pub after_row_steps : Cp0 → List Row → Running → ℕ → Running
after_row_steps cp0 rows s zero = s
after_row_steps cp0 rows s (suc k) =
    let t = after_row_steps cp0 rows s k in after_row_step cp0 rows t (next_row_step cp0 rows t)

-- a step retires
abbrev pub Retires : Step → Type 0
Retires step = outcome_of step ≡ outcome.Retired

-- each of the first steps, so many, retires
pub record RowStepsRetire (cp0 : Cp0) (rows : List Row) (s : Running) (steps : ℕ) : Type 0 where
  pub each : (k : ℕ) → k < steps → Retires (next_row_step cp0 rows (after_row_steps cp0 rows s k))

-- ---- what the next step asks of memory

-- by its fetch: the address that isn't fetched from, or that of the word's load or store
abbrev pub address_after : Cpu → Result ℕ Exc → Option ℕ
address_after cpu (Ok word) = named_address cpu word
address_after cpu (Err exc) = Some cpu.pc

abbrev pub wanted_address : Cp0 → List Row → Running → Option ℕ
wanted_address cp0 rows s = address_after s.cpu (fetched (row_answers cp0 rows s.frames) s.cpu.pc)

-- once so many steps of at most so many are made: none where no more may be
abbrev pub wanted_behind : ℕ → ℕ → Cp0 → List Row → Running → Option ℕ
wanted_behind made most cp0 rows s = if nat_lt made most then wanted_address cp0 rows s else None

-- ---- by what the next step enters the kernel

-- once so many steps of at most so many are made: by nothing where no more may be
abbrev pub entry_behind : ℕ → ℕ → Cp0 → List Row → Running → Option Entry
entry_behind made most cp0 rows s =
    if nat_lt made most then entry_of s.cpu (fetched (row_answers cp0 rows s.frames) s.cpu.pc) else None
