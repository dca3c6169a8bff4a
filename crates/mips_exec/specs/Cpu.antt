-- The registers of the processor, and how an instruction moves on.
use Rattle.std.specs.Prelude.{ℕ, ◌+◌, ◌-◌, ◌*◌, ◌/◌, ◌%◌, ◌^◌, Bool, true, false, if◌then◌else◌, ◌==◌, replicate, slice_index, slice_set}
use Rattle.mips_isa.specs.Word.{sign16_of}
use Rattle.mips_exec.specs.declared.registers.Cpu.{Cpu}
use Rattle.mips_exec.specs.Word.{low_word}

-- what register n reads: `$0` reads 0
abbrev pub reg : Cpu → ℕ → ℕ
reg cpu n = if n == 0 then 0 else slice_index cpu.regs n

-- register n takes the low 32 bits of a value: `$0` stays
abbrev pub with_reg : Cpu → ℕ → ℕ → Cpu
with_reg cpu n value =
    if n == 0 then cpu else record cpu { regs = slice_set cpu.regs n (low_word value) }

-- HI and LO take the low 32 bits of two values
abbrev pub with_hi_lo : Cpu → ℕ → ℕ → Cpu
with_hi_lo cpu high low = record cpu { hi = low_word high; lo = low_word low }

-- on to the next instruction
abbrev pub advanced : Cpu → Cpu
advanced cpu = record cpu { pc = cpu.next; next = low_word (cpu.next + 4); slot = false }

-- on to the delay slot, and from there to an address
abbrev pub jumped : Cpu → ℕ → Cpu
jumped cpu target = record cpu { pc = cpu.next; next = low_word target; slot = true }

-- after a branch's delay slot: pc + 4 + 4 * imm, with the sign of imm, where the branch is taken
abbrev pub branch_target : Cpu → Bool → ℕ → ℕ
branch_target cpu taken imm = low_word (if taken then cpu.pc + 4 + 4 * sign16_of imm else cpu.next + 4)

-- the address that a jump's 26 bits name in the 2^28 bytes of the delay slot
abbrev pub jump_target : Cpu → ℕ → ℕ
jump_target cpu target = low_word (cpu.pc + 4) / 2 ^ 28 * 2 ^ 28 + target % 2 ^ 26 * 4

-- the address of a load or store: a register plus imm with its sign
abbrev pub address_of : Cpu → ℕ → ℕ → ℕ
address_of cpu base imm = low_word (reg cpu base + sign16_of imm)

-- where a stopped program goes on: at the branch where pc is its delay slot
abbrev pub restart_of : Cpu → ℕ
restart_of cpu = if cpu.slot then low_word (cpu.pc + (2 ^ 32 - 4)) else cpu.pc

-- the registers that go on at an address, out of a delay slot
abbrev pub going_on_at : Cpu → ℕ → Cpu
going_on_at cpu address = record cpu { pc = address; next = low_word (address + 4); slot = false }

-- a stopped machine runs again from its restart address, so a branch whose slot was due runs again
abbrev pub rested : Cpu → Cpu
rested cpu = going_on_at cpu (restart_of cpu)

-- the registers of a machine in which nothing has run
abbrev pub blank_cpu : Cpu
blank_cpu = record { regs = replicate 32 0; hi = 0; lo = 0; pc = 0; next = 0; slot = false }
