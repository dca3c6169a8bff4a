-- What the kernel does with the machine: it starts a user, and exceptions are entered and left.
use Rattle.std.specs.Prelude.{ℕ, ◌+◌, ◌*◌, ◌/◌, ◌%◌, is_some}
use Rattle.mips_exec.specs.declared.exception.Exc.{Exc}
use Rattle.mips_exec.specs.declared.exception.ExcCode.TheVariants.{Int}
use Rattle.mips_exec.specs.Cpu.{going_on_at}
use Rattle.mips_exec.specs.Exception.{plain}
use Rattle.aegis_limits.specs.Limits.{page_size}
use Rattle.r3k_tlb.specs.Rows.{first_fitting}
use Rattle.r3k_cp0.specs.declared.registers.Cp0.{Cp0}
use Rattle.r3k_cp0.specs.Enter.{entered, left, vector_of}
use Rattle.r3k_cp0.specs.Registers.{current_pid, with_pid}
use Rattle.r3k_machine.specs.declared.machine.Machine.{Machine}

-- bit 1 of Status, the user's mode, is set
abbrev pub in_user_mode : Cp0 → Cp0
in_user_mode c = record c { status = c.status / 4 * 4 + 2 + c.status % 2 }

-- the machine that runs this process in user mode
abbrev pub as_user : Machine → ℕ → Machine
as_user m pid = record m { cp0 = in_user_mode (with_pid m.cp0 pid) }

-- the machine once it has entered an exception
abbrev pub in_exception : Machine → Exc → Machine
in_exception m exc = record m {
  cpu = going_on_at m.cpu (vector_of exc (is_some (first_fitting (exc.bad / page_size) (current_pid m.cp0) m.tlb)));
  cp0 = entered exc m.cpu m.cp0;
}

-- an interrupt is an exception without an address
abbrev pub interrupted : Machine → Machine
interrupted m = in_exception m (plain Int)

-- the machine once the exception is left: RFE
abbrev pub out_of_exception : Machine → Machine
out_of_exception m = record m { cp0 = left m.cp0 }
