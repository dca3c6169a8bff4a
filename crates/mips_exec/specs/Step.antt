-- One step of a user program.
use Rattle.std.specs.Prelude.{ℕ, ◌%◌, ◌==◌, if◌then◌else◌, Option, Some, None, Result, Ok, Err, List}
use Rattle.mips_isa.specs.Encoding.{insn_of}
use Rattle.mips_isa.specs.declared.insn.Insn.{Insn}
use Rattle.mips_exec.specs.declared.registers.Cpu.{Cpu}
use Rattle.mips_exec.specs.declared.reach.Access.{Access}
use Rattle.mips_exec.specs.declared.reach.Access.TheVariants.{Load, Store}
use Rattle.mips_exec.specs.declared.exception.Exc.{Exc}
use Rattle.mips_exec.specs.declared.exception.ExcCode.TheVariants.{Adel, Ades}
use Rattle.mips_exec.specs.declared.exception.Outcome.{Outcome}
use Rattle.mips_exec.specs.declared.exception.Outcome.TheVariants as outcomes
use Rattle.mips_exec.specs.Exception.{plain, at_address}
use Rattle.mips_exec.specs.Access.{access, Write, write_of, place_of, is_aligned}
use Rattle.mips_exec.specs.declared.change.Change.{Change}
use Rattle.mips_exec.specs.declared.change.Change.TheVariants.{Calls, Raises}
use Rattle.mips_exec.specs.Effect.{changed, effect}

-- ---- what is asked of memory, and its answers

-- What memory answers now at an aligned address: to a fetch; to a load of so many bytes; to a store of so
-- many bytes, whichever they are.
pub record Answers : Type 0 where
  pub fetch : ℕ → Result ℕ Exc
  pub load : ℕ → ℕ → Result ℕ Exc
  pub store : ℕ → ℕ → Result (Unit {0}) Exc

-- What one step gets: the answer to its fetch, and to its one load or store (0 for a store, and where
-- there is none).
pub record View : Type 0 where
  pub fetch : Result ℕ Exc
  pub access : Result ℕ Exc

-- a fetch: memory is asked at an aligned address alone
abbrev pub fetched : Answers → ℕ → Result ℕ Exc
fetched answers pc = if pc % 4 == 0 then answers.fetch pc else Err (plain Adel)

-- a store has no value
abbrev pub without_value : Result (Unit {0}) Exc → Result ℕ Exc
without_value (Ok _) = Ok 0
without_value (Err exc) = Err exc

-- a load or store: memory is asked at an aligned spot alone
abbrev pub answered : Answers → Access → Result ℕ Exc
answered answers (Load spot) =
    if is_aligned spot then answers.load (place_of spot) spot.width else Err (plain Adel)
answered answers (Store spot value) =
    if is_aligned spot then without_value (answers.store (place_of spot) spot.width) else Err (plain Ades)

abbrev pub answered_if : Answers → Option Access → Result ℕ Exc
answered_if answers None = Ok 0
answered_if answers (Some a) = answered answers a

abbrev pub access_after : Answers → Cpu → Result ℕ Exc → Result ℕ Exc
access_after answers cpu (Ok word) = answered_if answers (access (insn_of word) cpu)
access_after answers cpu (Err exc) = Ok 0

-- what the step gets of memory that answers so
abbrev pub view_of : Answers → Cpu → View
view_of answers cpu =
    record { fetch = fetched answers cpu.pc; access = access_after answers cpu (fetched answers cpu.pc) }

-- ---- the step

-- how a step ends: with these registers and at most one store; as a call of the kernel; or in an exception
pub data Step : Type 0 where
  Retired : Cpu → Option Write → Step
  Called : Step
  Trapped : Exc → Step

-- an instruction that does this, and writes this where it retires
abbrev pub ended : Cpu → Change → Option Write → Step
ended cpu Calls write = Called
ended cpu (Raises exc) write = Trapped exc
ended cpu change write = Retired (changed cpu change) write

-- the address that the instruction names
abbrev pub named_by : Access → ℕ
named_by (Load spot) = spot.address
named_by (Store spot value) = spot.address

-- the instruction, after its load or store was answered: a refused one traps with the address it names
abbrev pub accessed : Insn → Cpu → Access → Result ℕ Exc → Step
accessed insn cpu a (Ok x) = ended cpu (effect insn cpu x) (write_of a)
accessed insn cpu a (Err exc) = Trapped (at_address exc (named_by a))

abbrev pub executed : Insn → Cpu → Option Access → Result ℕ Exc → Step
executed insn cpu None answer = ended cpu (effect insn cpu 0) None
executed insn cpu (Some a) answer = accessed insn cpu a answer

-- the fetched word: a refused fetch traps with pc
abbrev pub decoded : Cpu → Result ℕ Exc → Result ℕ Exc → Step
decoded cpu (Ok word) answer = executed (insn_of word) cpu (access (insn_of word) cpu) answer
decoded cpu (Err exc) answer = Trapped (at_address exc cpu.pc)

-- one step: the fetch, the encoding, and the execution
abbrev pub step_of : Cpu → View → Step
step_of cpu view = decoded cpu view.fetch view.access

-- ---- what a step leaves

-- the registers after a step: a call and an exception leave them
abbrev pub cpu_after : Cpu → Step → Cpu
cpu_after cpu (Retired new write) = new
cpu_after cpu Called = cpu
cpu_after cpu (Trapped exc) = cpu

-- how the step is reported
abbrev pub outcome_of : Step → Outcome
outcome_of (Retired new write) = outcomes.Retired
outcome_of Called = outcomes.Call
outcome_of (Trapped exc) = outcomes.Trap exc

-- the same of an instruction
abbrev pub report_of : Change → Outcome
report_of Calls = outcomes.Call
report_of (Raises exc) = outcomes.Trap exc
report_of change = outcomes.Retired

-- what the step writes
abbrev pub write_after : Step → Option Write
write_after (Retired new write) = write
write_after Called = None
write_after (Trapped exc) = None

-- memory took the write, if there is one; else its answers are kept
abbrev pub Wrote : {S : Type 0} → (S → S → Type 0) → (S → ℕ → List ℕ → S → Type 0) → S → Option Write → S → Type 0
Wrote Kept Stored old None new = Kept old new
Wrote Kept Stored old (Some write) new = Stored old write.address write.bytes new
