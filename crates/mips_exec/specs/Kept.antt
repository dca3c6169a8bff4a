-- What each step keeps, whatever the instruction.
use Rattle.std.specs.Prelude.{◌≡◌, ◌+◌, ◌%◌, ◌^◌, ◌<◌, ◌≤◌, Some, length, Ok}
use Rattle.std.specs.List.{All}
use Rattle.mips_exec.specs.declared.registers.Cpu.{Cpu}
use Rattle.mips_exec.specs.Access.{Write}
use Rattle.mips_exec.specs.Step.{Answers, Step, step_of, view_of, cpu_after, write_after}

-- 32 registers, each a word, and the others words too
pub record HasWords (cpu : Cpu) : Type 0 where
  pub count : length cpu.regs ≡ 32
  pub regs : All (λ r. r < 2 ^ 32) cpu.regs
  pub hi : cpu.hi < 2 ^ 32
  pub lo : cpu.lo < 2 ^ 32
  pub pc : cpu.pc < 2 ^ 32
  pub next : cpu.next < 2 ^ 32

-- 1 to 4 bytes in one aligned word, at a place where memory takes so many
pub record IsWrite (answers : Answers) (write : Write) : Type 0 where
  pub some : 0 < length write.bytes
  pub within : write.address % 4 + length write.bytes ≤ 4
  pub in_range : write.address < 2 ^ 32
  pub bytes : All (λ b. b < 2 ^ 8) write.bytes
  pub taken : answers.store write.address (length write.bytes) ≡ Ok tt

-- words stay words, and what is written is a write
pub record IsSound (answers : Answers) (cpu : Cpu) (step : Step) : Type 0 where
  pub words : HasWords cpu → HasWords (cpu_after cpu step)
  pub writes : (write : Write) → write_after step ≡ Some write → IsWrite answers write

-- each step of any memory is sound
abbrev pub StepsAreSound : Type 0
StepsAreSound = (answers : Answers) (cpu : Cpu) → IsSound answers cpu (step_of cpu (view_of answers cpu))
