-- What one instruction leaves, by how the machine's step is reported.
use Rattle.std.proofs.Common.{◌≡◌, ℕ, List, rules}
use Rattle.mips_exec.specs.declared.registers.Cpu.{Cpu}
use Rattle.mips_exec.specs.declared.exception.Exc.{Exc}
use Rattle.mips_exec.specs.declared.exception.Outcome.TheVariants as outcomes
use Rattle.mips_exec.specs.Step.{Step, cpu_after, outcome_of, write_after}
use Rattle.handler_rules.specs.Memory.{page_after}
use Rattle.handler_rules.specs.Running.{Progress, after_call, after_step, end_by, ends, state_of}

-- a call leaves registers and page, and its progress is that of a SYSCALL
pub call_progress : (cpu after : Cpu) (page left : List ℕ) (replies : List (List ℕ)) (step : Step) (progress : Progress)
    → outcome_of step ≡ outcomes.Call → after ≡ cpu_after cpu step → left ≡ page_after page (write_after step)
    → progress ≡ after_call (state_of after left replies) → progress ≡ after_step (state_of cpu page replies) step
call_progress cpu after page left replies step progress is here there taken = search rules

-- an exception leaves registers and page, and ends the handler
pub trap_progress : (cpu after : Cpu) (page left : List ℕ) (replies : List (List ℕ)) (step : Step) (exc : Exc)
    → outcome_of step ≡ outcomes.Trap exc → after ≡ cpu_after cpu step → left ≡ page_after page (write_after step)
    → ends (end_by exc.code) (state_of after left replies) ≡ after_step (state_of cpu page replies) step
trap_progress cpu after page left replies step exc is here there = search rules
