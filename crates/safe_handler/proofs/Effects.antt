-- How the instructions of a handler move on.
use Rattle.std.proofs.Common.{◌≡◌, ℕ, Bool, true, false, Option, Some, None, rules}
use Rattle.mips_isa.specs.declared.insn.Insn.{Insn}
use Rattle.mips_isa.specs.declared.insn.Insn.TheVariants.{Beq, Bne, Blez, Bgtz, Bltz, Bgez}
use Rattle.mips_exec.specs.declared.registers.Cpu.{Cpu}
use Rattle.mips_exec.specs.declared.change.Change.{Change}
use Rattle.mips_exec.specs.declared.change.Change.TheVariants.{Jumps, JumpsAndLinks}
use Rattle.mips_exec.specs.Cpu.{branch_target}
use Rattle.mips_exec.specs.Effect.{effect}
use Rattle.handler_rules.specs.Instructions.{branch_offset, is_allowed, is_barred_from_slots}

-- it doesn't jump
abbrev pub is_straight : Change → Bool
is_straight (Jumps target) = false
is_straight (JumpsAndLinks n target) = false
is_straight _ = true

-- an allowed instruction that is no branch doesn't jump
pub goes_straight : (insn : Insn) (cpu : Cpu) (x : ℕ) → is_allowed insn ≡ true → branch_offset insn ≡ None → is_straight (effect insn cpu x) ≡ true
unfolding is_allowed branch_offset effect
goes_straight insn cpu x allowed none = search rules

-- a change that is a branch's with this offset, taken or not
pub record Branches (change : Change) (cpu : Cpu) (imm : ℕ) : Type 0 where
  pub taken : Bool
  pub jumps : change ≡ Jumps (branch_target cpu taken imm)

-- a jump to a branch's target is one
to_target : (cpu : Cpu) (taken : Bool) (offset imm : ℕ) → ◌≡◌ {A = Option ℕ} (Some offset) (Some imm) → Branches (Jumps (branch_target cpu taken offset)) cpu imm
to_target cpu taken offset imm is = search rules

-- so is what each branch does
pub branches : (insn : Insn) (cpu : Cpu) (x imm : ℕ) → branch_offset insn ≡ Some imm → Branches (effect insn cpu x) cpu imm
unfolding branch_offset effect
branches (Beq rs rt offset) cpu x imm is = to_target cpu _ offset imm is
branches (Bne rs rt offset) cpu x imm is = to_target cpu _ offset imm is
branches (Blez rs offset) cpu x imm is = to_target cpu _ offset imm is
branches (Bgtz rs offset) cpu x imm is = to_target cpu _ offset imm is
branches (Bltz rs offset) cpu x imm is = to_target cpu _ offset imm is
branches (Bgez rs offset) cpu x imm is = to_target cpu _ offset imm is
branches _ cpu x imm is = absurd cc

-- a branch may not stand behind a branch
pub branch_is_barred : (insn : Insn) (imm : ℕ) → branch_offset insn ≡ Some imm → is_barred_from_slots insn ≡ true
unfolding branch_offset is_barred_from_slots
branch_is_barred insn imm is = search rules
