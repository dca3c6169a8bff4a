use Rattle.std.proofs.Common.{◌≡◌, ℕ, true, false, rules}
use Rattle.mips_isa.specs.Encoding.{insn_of, special_of}
use Rattle.mips_isa.specs.Fields.{code_of}
use Rattle.mips_isa.specs.declared.insn.Insn.{Insn}
use Rattle.mips_isa.specs.declared.insn.Insn.TheVariants.{Syscall}
use Rattle.mips_exec.specs.declared.registers.Cpu.{Cpu}
use Rattle.mips_exec.specs.Access.{access}
use Rattle.mips_exec.specs.Effect.{effect}
use Rattle.mips_exec.specs.Step.{Answers, Called, answered_if, executed}
use Rattle.mips_step.specs.WordStep.{fetched_step, is_syscall}
use Rattle.mips_step.proofs.laws.law_syscalls_call.Goals as goal

named : (word : ℕ) → is_syscall word ≡ true → insn_of word ≡ Syscall (code_of word)
unfolding insn_of special_of
named word is = search (rules, is)

-- the step of a call
called : (answers : Answers) (cpu : Cpu) (insn : Insn) (code : ℕ) → insn ≡ Syscall code → cpu.slot ≡ false
    → executed insn cpu (access insn cpu) (answered_if answers (access insn cpu)) ≡ Called
unfolding access effect
called answers cpu insn code is out = search (rules, is, out)

calls : (answers : Answers) (cpu : Cpu) (word : ℕ) → is_syscall word ≡ true → cpu.slot ≡ false → fetched_step answers cpu word ≡ Called
calls answers cpu word is out = called answers cpu (insn_of word) (code_of word) (named word is) out

pub returns : goal.returns
returns c = calls
