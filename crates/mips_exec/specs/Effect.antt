-- What each instruction does to the registers, a line for each row of the table of docs/MACHINE.md, in
-- its order.
use Rattle.std.specs.Prelude.{ℕ, ◌+◌, ◌-◌, ◌*◌, ◌/◌, ◌%◌, ◌^◌, not, ◌||◌, ◌==◌, if◌then◌else◌, ℤ, ◌+ℤ◌, ◌-ℤ◌, ◌*ℤ◌, int_lt, int_div, int_rem, nat_lt, bit_and, bit_or, bit_xor}
use Rattle.std.specs.Int.{w32, w64, cast_unsigned}
use Rattle.mips_isa.specs.declared.insn.Insn.{Insn}
use Rattle.mips_isa.specs.declared.insn.Insn.TheVariants.{Sll, Srl, Sra, Sllv, Srlv, Srav, Jr, Jalr, Syscall, Break, Mfhi, Mthi, Mflo, Mtlo, Mult, Multu, Div, Divu, Add, Addu, Sub, Subu, And, Or, Xor, Nor, Slt, Sltu, Bltz, Bgez, Bltzal, Bgezal, J, Jal, Beq, Bne, Blez, Bgtz, Addi, Addiu, Slti, Sltiu, Andi, Ori, Xori, Lui, Lb, Lh, Lwl, Lw, Lbu, Lhu, Lwr, Sb, Sh, Swl, Sw, Swr, Mfc0, Mtc0, Tlbr, Tlbwi, Tlbwr, Tlbp, Rfe, Cop, Reserved}
use Rattle.mips_isa.specs.Word.{sign16_of, merged_left, merged_right}
use Rattle.mips_exec.specs.declared.registers.Cpu.{Cpu}
use Rattle.mips_exec.specs.declared.change.Change.{Change}
use Rattle.mips_exec.specs.declared.change.Change.TheVariants.{Puts, PutsHiLo, Passes, Jumps, JumpsAndLinks, Calls, Raises}
use Rattle.mips_exec.specs.declared.exception.ExcCode.TheVariants.{Sys, Bp, Ri, Ov}
use Rattle.mips_exec.specs.Word.{low_word, signed, fits_signed, is_negative, shifted_with_sign, sign_extended, flag}
use Rattle.mips_exec.specs.Cpu.{reg, with_reg, with_hi_lo, advanced, jumped, branch_target, jump_target, address_of}
use Rattle.mips_exec.specs.Exception.{plain, unusable}

-- the registers that it leaves: a call and an exception leave them as they are
abbrev pub changed : Cpu → Change → Cpu
changed cpu (Puts n value) = advanced (with_reg cpu n value)
changed cpu (PutsHiLo high low) = advanced (with_hi_lo cpu high low)
changed cpu Passes = advanced cpu
changed cpu (Jumps target) = jumped cpu target
changed cpu (JumpsAndLinks n target) = with_reg (jumped cpu target) n (cpu.pc + 8)
changed cpu Calls = cpu
changed cpu (Raises exc) = cpu

-- the signed sum or difference z, if it fits
abbrev pub puts_fitting : ℕ → ℤ → Change
puts_fitting n z = if fits_signed z then Puts n (cast_unsigned w32 z) else Raises (plain Ov)

-- HI and LO take the two words of 64 bits
abbrev pub puts_product : ℕ → Change
puts_product product = PutsHiLo (product / 2 ^ 32) (low_word product)

-- LO takes the quotient toward 0, and HI the remainder with the dividend's sign
abbrev pub divides_signed : ℕ → ℕ → Change
divides_signed a b =
    if b == 0 then PutsHiLo a (2 ^ 32 - 1)
    else PutsHiLo (cast_unsigned w32 (int_rem (signed a) (signed b)))
    (cast_unsigned w32 (int_div (signed a) (signed b)))

-- the same of words without sign
abbrev pub divides : ℕ → ℕ → Change
divides a b = if b == 0 then PutsHiLo a (2 ^ 32 - 1) else PutsHiLo (a % b) (a / b)

-- What the instruction does, where `x` is what its load was answered.
unfoldable pub effect : Insn → Cpu → ℕ → Change
effect (Sll rd rt sh) c x = Puts rd (low_word (reg c rt * 2 ^ (sh % 32)))
effect (Srl rd rt sh) c x = Puts rd (reg c rt / 2 ^ (sh % 32))
effect (Sra rd rt sh) c x = Puts rd (shifted_with_sign (reg c rt) (sh % 32))
effect (Sllv rd rt rs) c x = Puts rd (low_word (reg c rt * 2 ^ (reg c rs % 32)))
effect (Srlv rd rt rs) c x = Puts rd (reg c rt / 2 ^ (reg c rs % 32))
effect (Srav rd rt rs) c x = Puts rd (shifted_with_sign (reg c rt) (reg c rs % 32))
effect (Jr rs) c x = Jumps (reg c rs)
effect (Jalr rd rs) c x = JumpsAndLinks rd (reg c rs)
effect (Syscall code) c x = if c.slot then Raises (plain Sys) else Calls
effect (Break code) c x = Raises (plain Bp)
effect (Mfhi rd) c x = Puts rd c.hi
effect (Mflo rd) c x = Puts rd c.lo
effect (Mthi rs) c x = PutsHiLo (reg c rs) c.lo
effect (Mtlo rs) c x = PutsHiLo c.hi (reg c rs)
effect (Mult rs rt) c x = puts_product (cast_unsigned w64 (signed (reg c rs) *ℤ signed (reg c rt)))
effect (Multu rs rt) c x = puts_product (reg c rs * reg c rt)
effect (Div rs rt) c x = divides_signed (reg c rs) (reg c rt)
effect (Divu rs rt) c x = divides (reg c rs) (reg c rt)
effect (Add rd rs rt) c x = puts_fitting rd (signed (reg c rs) +ℤ signed (reg c rt))
effect (Sub rd rs rt) c x = puts_fitting rd (signed (reg c rs) -ℤ signed (reg c rt))
effect (Addu rd rs rt) c x = Puts rd (low_word (reg c rs + reg c rt))
effect (Subu rd rs rt) c x = Puts rd (low_word (reg c rs + (2 ^ 32 - reg c rt)))
effect (And rd rs rt) c x = Puts rd (bit_and (reg c rs) (reg c rt))
effect (Or rd rs rt) c x = Puts rd (bit_or (reg c rs) (reg c rt))
effect (Xor rd rs rt) c x = Puts rd (bit_xor (reg c rs) (reg c rt))
effect (Nor rd rs rt) c x = Puts rd (2 ^ 32 - 1 - bit_or (reg c rs) (reg c rt))
effect (Slt rd rs rt) c x = Puts rd (flag (int_lt (signed (reg c rs)) (signed (reg c rt))))
effect (Sltu rd rs rt) c x = Puts rd (flag (nat_lt (reg c rs) (reg c rt)))
effect (Bltz rs imm) c x = Jumps (branch_target c (is_negative (reg c rs)) imm)
effect (Bgez rs imm) c x = Jumps (branch_target c (not (is_negative (reg c rs))) imm)
effect (Bltzal rs imm) c x = JumpsAndLinks 31 (branch_target c (is_negative (reg c rs)) imm)
effect (Bgezal rs imm) c x = JumpsAndLinks 31 (branch_target c (not (is_negative (reg c rs))) imm)
effect (J target) c x = Jumps (jump_target c target)
effect (Jal target) c x = JumpsAndLinks 31 (jump_target c target)
effect (Beq rs rt imm) c x = Jumps (branch_target c (reg c rs == reg c rt) imm)
effect (Bne rs rt imm) c x = Jumps (branch_target c (not (reg c rs == reg c rt)) imm)
effect (Blez rs imm) c x = Jumps (branch_target c (is_negative (reg c rs) || reg c rs == 0) imm)
effect (Bgtz rs imm) c x = Jumps (branch_target c (not (is_negative (reg c rs) || reg c rs == 0)) imm)
effect (Addi rt rs imm) c x = puts_fitting rt (signed (reg c rs) +ℤ signed (sign16_of imm))
effect (Addiu rt rs imm) c x = Puts rt (low_word (reg c rs + sign16_of imm))
effect (Slti rt rs imm) c x = Puts rt (flag (int_lt (signed (reg c rs)) (signed (sign16_of imm))))
effect (Sltiu rt rs imm) c x = Puts rt (flag (nat_lt (reg c rs) (sign16_of imm)))
effect (Andi rt rs imm) c x = Puts rt (bit_and (reg c rs) imm)
effect (Ori rt rs imm) c x = Puts rt (bit_or (reg c rs) imm)
effect (Xori rt rs imm) c x = Puts rt (bit_xor (reg c rs) imm)
effect (Lui rt imm) c x = Puts rt (imm * 2 ^ 16)
effect (Lb rt imm rs) c x = Puts rt (low_word (sign_extended 8 x))
effect (Lh rt imm rs) c x = Puts rt (low_word (sign_extended 16 x))
effect (Lbu rt imm rs) c x = Puts rt x
effect (Lhu rt imm rs) c x = Puts rt x
effect (Lw rt imm rs) c x = Puts rt x
effect (Lwl rt imm rs) c x = Puts rt (merged_left x (reg c rt) (address_of c rs imm % 4))
effect (Lwr rt imm rs) c x = Puts rt (merged_right x (reg c rt) (address_of c rs imm % 4))
effect (Sb rt imm rs) c x = Passes
effect (Sh rt imm rs) c x = Passes
effect (Sw rt imm rs) c x = Passes
effect (Swl rt imm rs) c x = Passes
effect (Swr rt imm rs) c x = Passes
effect (Mfc0 rt rd) c x = Raises (unusable 0)
effect (Mtc0 rt rd) c x = Raises (unusable 0)
effect Tlbr c x = Raises (unusable 0)
effect Tlbwi c x = Raises (unusable 0)
effect Tlbwr c x = Raises (unusable 0)
effect Tlbp c x = Raises (unusable 0)
effect Rfe c x = Raises (unusable 0)
effect (Cop op rest) c x = Raises (unusable (op % 4))
effect (Reserved w) c x = if w / 2 ^ 26 == 16 then Raises (unusable 0) else Raises (plain Ri)
