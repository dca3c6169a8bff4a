-- No instruction raises a miss by itself.
use Rattle.std.proofs.Common.{◌≡◌, ℕ, false, rules}
use Rattle.mips_isa.specs.declared.insn.Insn.{Insn}
use Rattle.mips_exec.specs.declared.registers.Cpu.{Cpu}
use Rattle.mips_exec.specs.declared.change.Change.TheVariants.{Raises}
use Rattle.mips_exec.specs.declared.exception.Exc.{Exc}
use Rattle.mips_exec.specs.Effect.{effect}
use Rattle.mips_exec.specs.Exception.{is_miss}

pub raised_plain : (insn : Insn) (cpu : Cpu) (x : ℕ) (exc : Exc) → effect insn cpu x ≡ Raises exc → is_miss exc.code ≡ false
unfolding effect
raised_plain insn cpu x exc is = search rules
