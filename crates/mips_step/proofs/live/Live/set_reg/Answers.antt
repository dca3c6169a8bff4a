use Rattle.std.proofs.Common.{◌≡◌, ℕ, List, slice_set, arith, rules}
use Rattle.std.proofs.lemmas.List.{set-set, set_comm}
use Rattle.mips_exec.specs.declared.registers.Cpu.{Cpu}
use Rattle.mips_exec.specs.Cpu.{with_reg}
use Rattle.mips_exec.specs.Word.{low_word}
use Rattle.mips_step.proofs.live.Live.set_reg.Goals as goal

-- register 0 stays, whatever is written
written : (c : Cpu) (regs : List ℕ) (n z v : ℕ) → low_word v ≡ v
    → record c { regs = slice_set (slice_set (slice_set regs n v) 0 0) 0 z } ≡ with_reg (record c { regs = slice_set regs 0 z }) n v
written c regs n z v small = grind (arith, set-set, set_comm)

pub returns-clause-cpu : goal.returns-clause-cpu
returns-clause-cpu c = search (rules, written)
