-- The step of a word that was fetched: the answer to its load or store, its write, and whether it retires.
use Rattle.std.specs.Prelude.{◌≡◌, ℕ, ◌^◌, ◌==◌, ◌&&◌, ◌||◌, nat_lt, if◌then◌else◌, Bool, true, false, Option, Some, None, Result, Ok, Err}
use Rattle.mips_isa.specs.Encoding.{insn_of}
use Rattle.mips_isa.specs.Fields.{function_of, imm_of, opcode_of, rs_of}
use Rattle.mips_exec.specs.declared.registers.Cpu.{Cpu}
use Rattle.mips_exec.specs.Cpu.{address_of}
use Rattle.mips_exec.specs.declared.reach.Access.{Access}
use Rattle.mips_exec.specs.declared.exception.Exc.{Exc}
use Rattle.mips_exec.specs.declared.exception.Outcome.{Outcome}
use Rattle.mips_exec.specs.declared.exception.Outcome.TheVariants as outcome
use Rattle.mips_exec.specs.declared.change.Change.{Change}
use Rattle.mips_exec.specs.Exception.{at_address}
use Rattle.mips_exec.specs.Access.{Write, access, write_of}
use Rattle.mips_exec.specs.Effect.{effect}
use Rattle.mips_exec.specs.Step.{Answers, Step, Retired, Called, Trapped, access_after, answered, decoded, ended, named_by}

-- an exception gets the address that the instruction names
abbrev pub with_address : ℕ → Result ℕ Exc → Result ℕ Exc
with_address address (Ok x) = Ok x
with_address address (Err exc) = Err (at_address exc address)

-- the answer that the instruction gets of its load or store
abbrev pub access_answer : Answers → Access → Result ℕ Exc
access_answer answers a = with_address (named_by a) (answered answers a)

-- the write of a load or store, if there is one
abbrev pub access_write : Option Access → Option Write
access_write None = None
access_write (Some a) = write_of a

-- the step of a change, with the write of its access; or of the exception that the access raises
abbrev pub step_of_change : Cpu → Option Access → Result Change Exc → Step
step_of_change cpu a (Ok change) = ended cpu change (access_write a)
step_of_change cpu a (Err exc) = Trapped exc

-- the step of a word that was fetched, over memory that answers so
abbrev pub fetched_step : Answers → Cpu → ℕ → Step
fetched_step answers cpu word = decoded cpu (Ok word) (access_after answers cpu (Ok word))

-- the instruction is done
abbrev pub is_retired : Outcome → Bool
is_retired outcome.Retired = true
is_retired outcome.Call = false
is_retired (outcome.Trap exc) = false

-- the step retires
abbrev pub has_retired : Step → Bool
has_retired (Retired cpu write) = true
has_retired Called = false
has_retired (Trapped exc) = false

-- ---- words that ask no memory, and those that move a word

-- the step of a word that neither loads nor stores
abbrev pub plain_step : Cpu → ℕ → Step
plain_step cpu word = ended cpu (effect (insn_of word) cpu 0) None

-- so it is over any memory
abbrev pub PlainWordsAreSteps : Type 0
PlainWordsAreSteps =
    (answers : Answers) (cpu : Cpu) (word : ℕ) → access (insn_of word) cpu ≡ None
    → fetched_step answers cpu word ≡ plain_step cpu word

-- LW or SW
abbrev pub moves_word : ℕ → Bool
moves_word word = opcode_of word == 35 || opcode_of word == 43

-- the address that a load or store names, all of which are words from 2^31 on
abbrev pub named_address : Cpu → ℕ → Option ℕ
named_address cpu word =
    if nat_lt word (2 ^ 31) then None else Some (address_of cpu (rs_of word) (imm_of word))

-- SYSCALL, with any code
abbrev pub is_syscall : ℕ → Bool
is_syscall word = opcode_of word == 0 && function_of word == 12

-- Outside a delay slot it is a call of the kernel.
abbrev pub SyscallsCall : Type 0
SyscallsCall =
    (answers : Answers) (cpu : Cpu) (word : ℕ) → is_syscall word ≡ true → cpu.slot ≡ false
    → fetched_step answers cpu word ≡ Called

-- The instruction table has no word of coprocessor 0's opcode that retires.
abbrev pub SystemWordsTrap : Type 0
SystemWordsTrap =
    (answers : Answers) (cpu : Cpu) (word : ℕ) → opcode_of word ≡ 16
    → has_retired (fetched_step answers cpu word) ≡ false
