-- The registers of a program while its steps are made.
use Rattle.std.specs.Prelude.{◌≡◌, slice_index, slice_set}
use Rattle.mips_exec.specs.declared.registers.Cpu.{Cpu}
use Rattle.mips_step.specs.declared.live.Live.{Live}

-- the processor's registers: register 0 holds what it held before these steps
abbrev pub joined : Live → Cpu
joined live = record live.cpu.now {
  regs = slice_set live.cpu.now.regs 0 live.zeroth;
  pc = live.pc;
  next = live.next;
}

-- register 0 holds 0
abbrev pub HasZero : Live → Type 0
HasZero live = slice_index live.cpu.now.regs 0 ≡ 0

-- the registers stand where they stood
abbrev pub IsSameLive : Live → Live → Type 0
IsSameLive old new = new.cpu.ghost_name ≡ old.cpu.ghost_name
