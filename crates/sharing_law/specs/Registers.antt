-- The registers of environments.
use Rattle.std.specs.Prelude.{◌≡◌, ℕ, Some, slice_get}
use Rattle.mips_exec.specs.declared.registers.Cpu.{Cpu}
use Rattle.run_model.specs.Run.{System, moment}

-- register 0 is there, and holds 0
abbrev pub HasZero : Cpu → Type 0
HasZero cpu = slice_get cpu.regs 0 ≡ Some 0

-- So it is of each environment at each moment.
abbrev pub RegisterZeroStays : Type 0
RegisterZeroStays = (system : System) (t k e : ℕ) → HasZero ((moment system t k).solos e).cpu
