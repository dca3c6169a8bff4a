use Rattle.std.proofs.Common.{◌≡◌, ℕ, false, rules}
use Rattle.mips_isa.specs.Encoding.{insn_of, system_of}
use Rattle.mips_isa.specs.Fields.{opcode_of}
use Rattle.mips_exec.specs.declared.registers.Cpu.{Cpu}
use Rattle.mips_exec.specs.Step.{Answers}
use Rattle.mips_step.specs.WordStep.{fetched_step, has_retired}
use Rattle.mips_step.proofs.System.{system_access, system_effect}
use Rattle.mips_step.proofs.laws.law_system_words_trap.Goals as goal

named : (word : ℕ) → opcode_of word ≡ 16 → insn_of word ≡ system_of word
unfolding insn_of
named word h = search rules

traps : (answers : Answers) (cpu : Cpu) (word : ℕ) → opcode_of word ≡ 16 → has_retired (fetched_step answers cpu word) ≡ false
traps answers cpu word h = search (rules, named, system_access, system_effect)

pub returns : goal.returns
returns c = traps
