-- The instructions that a handler may have.
use Rattle.std.specs.Prelude.{ℕ, Bool, true, false, Option, Some, None}
use Rattle.std.specs.Option.{is_some}
use Rattle.mips_isa.specs.declared.insn.Insn.{Insn}
use Rattle.mips_isa.specs.declared.insn.Insn.TheVariants.{Sll, Srl, Sra, Sllv, Srlv, Srav, Addu, Subu, And, Or, Xor, Nor, Slt, Sltu, Addiu, Slti, Sltiu, Andi, Ori, Xori, Lui, Lb, Lbu, Lh, Lhu, Lw, Sb, Sh, Sw, Beq, Bne, Blez, Bgtz, Bltz, Bgez, Syscall, Break}

-- The instructions that are allowed: no jump, none that links, none that raises an exception on overflow, none of HI
-- and LO, no load or store of a part of a word at any address (LWL and its kin), and none of a coprocessor.
unfoldable pub is_allowed : Insn → Bool
is_allowed (Sll rd rt sh) = true
is_allowed (Srl rd rt sh) = true
is_allowed (Sra rd rt sh) = true
is_allowed (Sllv rd rt rs) = true
is_allowed (Srlv rd rt rs) = true
is_allowed (Srav rd rt rs) = true
is_allowed (Addu rd rs rt) = true
is_allowed (Subu rd rs rt) = true
is_allowed (And rd rs rt) = true
is_allowed (Or rd rs rt) = true
is_allowed (Xor rd rs rt) = true
is_allowed (Nor rd rs rt) = true
is_allowed (Slt rd rs rt) = true
is_allowed (Sltu rd rs rt) = true
is_allowed (Addiu rt rs imm) = true
is_allowed (Slti rt rs imm) = true
is_allowed (Sltiu rt rs imm) = true
is_allowed (Andi rt rs imm) = true
is_allowed (Ori rt rs imm) = true
is_allowed (Xori rt rs imm) = true
is_allowed (Lui rt imm) = true
is_allowed (Lb rt imm rs) = true
is_allowed (Lbu rt imm rs) = true
is_allowed (Lh rt imm rs) = true
is_allowed (Lhu rt imm rs) = true
is_allowed (Lw rt imm rs) = true
is_allowed (Sb rt imm rs) = true
is_allowed (Sh rt imm rs) = true
is_allowed (Sw rt imm rs) = true
is_allowed (Beq rs rt imm) = true
is_allowed (Bne rs rt imm) = true
is_allowed (Blez rs imm) = true
is_allowed (Bgtz rs imm) = true
is_allowed (Bltz rs imm) = true
is_allowed (Bgez rs imm) = true
is_allowed (Syscall code) = true
is_allowed (Break code) = true
is_allowed _ = false

-- the offset of a branch; no other instruction has one
unfoldable pub branch_offset : Insn → Option ℕ
branch_offset (Beq rs rt imm) = Some imm
branch_offset (Bne rs rt imm) = Some imm
branch_offset (Blez rs imm) = Some imm
branch_offset (Bgtz rs imm) = Some imm
branch_offset (Bltz rs imm) = Some imm
branch_offset (Bgez rs imm) = Some imm
branch_offset _ = None

abbrev pub branches : Insn → Bool
branches insn = is_some (branch_offset insn)

-- a branch, a SYSCALL and a BREAK may not stand behind a branch, in its delay slot
unfoldable pub is_barred_from_slots : Insn → Bool
is_barred_from_slots (Syscall code) = true
is_barred_from_slots (Break code) = true
is_barred_from_slots insn = branches insn
