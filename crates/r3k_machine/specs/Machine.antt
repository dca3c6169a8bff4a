-- A step of the machine, and how it ends.
use Rattle.std.specs.Prelude.{ℕ, ◌/◌, Bool, ◌&&◌, nat_lt, is_none, if◌then◌else◌, List}
use Rattle.mips_exec.specs.declared.exception.Exc.{Exc}
use Rattle.mips_exec.specs.declared.exception.Outcome.{Outcome}
use Rattle.mips_exec.specs.declared.exception.Outcome.TheVariants as outcome
use Rattle.mips_exec.specs.Cpu.{blank_cpu}
use Rattle.mips_exec.specs.Step.{Step}
use Rattle.aegis_limits.specs.Limits.{page_size}
use Rattle.r3k_tlb.specs.declared.row.Row.{Row}
use Rattle.r3k_tlb.specs.Rows.{emptied_rows, first_fitting}
use Rattle.r3k_cp0.specs.declared.registers.Cp0.{Cp0}
use Rattle.mips_exec.specs.Exception.{is_miss}
use Rattle.r3k_cp0.specs.Random.{fallen_times}
use Rattle.r3k_cp0.specs.Registers.{blank_cp0, current_pid}
use Rattle.r3k_machine.specs.declared.machine.Machine.{Machine}
use Rattle.r3k_machine.specs.declared.machine.MachineEnd.{MachineEnd}
use Rattle.r3k_machine.specs.declared.machine.MachineEnd.TheVariants as ends
use Rattle.r3k_machine.specs.Memory.{row_step}
use Rattle.mips_exec.specs.AccessKind.{user_end}

-- the machine in which nothing has run
abbrev pub blank_machine : Machine
blank_machine = record { cpu = blank_cpu; tlb = emptied_rows; cp0 = blank_cp0 }

-- no row fits the address, which is a user's
abbrev pub is_unfit : Cp0 → List Row → ℕ → Bool
is_unfit cp0 rows address =
    nat_lt address user_end && is_none (first_fitting (address / page_size) (current_pid cp0) rows)

-- a miss of such an address is a refill, and each other exception a trap
abbrev pub end_of_trap : Cp0 → List Row → Exc → MachineEnd
end_of_trap cp0 rows exc = if is_miss exc.code && is_unfit cp0 rows exc.bad then ends.Refill exc else ends.Trap exc

abbrev pub end_of : Cp0 → List Row → Outcome → MachineEnd
end_of cp0 rows outcome.Retired = ends.Retired
end_of cp0 rows outcome.Call = ends.Call
end_of cp0 rows (outcome.Trap exc) = end_of_trap cp0 rows exc

-- the machine's step in user mode, over this memory
abbrev pub user_step : Machine → List (List ℕ) → Step
user_step m frames = row_step m.cp0 m.tlb frames m.cpu

-- each attempted step lowers Random
abbrev pub after_attempts : ℕ → Cp0 → Cp0
after_attempts times c = record c { random = fallen_times c.random times }
