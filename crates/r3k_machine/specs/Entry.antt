-- By what a program enters the kernel, where its word alone tells it: a call, or BREAK.
use Rattle.std.specs.Prelude.{ℕ, Bool, ◌==◌, ◌&&◌, not, nat_lt, if◌then◌else◌, List, Option, Some, None, Result, Ok, Err}
use Rattle.mips_isa.specs.Fields.{function_of, opcode_of}
use Rattle.mips_exec.specs.declared.exception.Exc.{Exc}
use Rattle.mips_exec.specs.declared.exception.ExcCode.{ExcCode}
use Rattle.mips_exec.specs.declared.exception.ExcCode.TheVariants.{Bp}
use Rattle.mips_exec.specs.declared.registers.Cpu.{Cpu}
use Rattle.mips_exec.specs.Exception.{plain}
use Rattle.mips_exec.specs.Step.{Called, Retired, Step, Trapped, fetched}
use Rattle.mips_step.specs.WordStep.{is_syscall}
use Rattle.r3k_machine.specs.declared.entry.Entry.{Entry}
use Rattle.r3k_machine.specs.declared.entry.Entry.TheVariants.{Break, Call}
use Rattle.r3k_machine.specs.declared.machine.Machine.{Machine}
use Rattle.r3k_machine.specs.Memory.{row_answers}

-- ---- by its step

-- by what an exception enters the kernel, if it is BREAK's
abbrev pub entry_raised : ExcCode → Option Entry
entry_raised Bp = Some Break
entry_raised _ = None

-- by what a step enters the kernel, if it is a call or BREAK's exception
abbrev pub entry_in : Step → Option Entry
entry_in (Retired cpu write) = None
entry_in Called = Some Call
entry_in (Trapped exc) = entry_raised exc.code

-- the step by which the kernel is entered: a call, or BREAK's exception, which has no address
abbrev pub came_by : Entry → Step
came_by Call = Called
came_by Break = Trapped (plain Bp)

-- by what the next step enters it, once so many of at most so many are made: by nothing where no more may be
abbrev pub next_entry : ℕ → ℕ → Step → Option Entry
next_entry made most step = if nat_lt made most then entry_in step else None

-- ---- by its word

-- BREAK, with any code
abbrev pub is_break : ℕ → Bool
is_break word = opcode_of word == 0 && function_of word == 13

-- by what a word enters the kernel, where its step stands in a delay slot or not: a call stands outside one, and BREAK
-- anywhere
abbrev pub entry_by : Bool → ℕ → Option Entry
entry_by slot word = if not slot && is_syscall word then Some Call else (if is_break word then Some Break else None)

-- the same of what was fetched; a fetch that is refused has no word
abbrev pub entry_of : Cpu → Result ℕ Exc → Option Entry
entry_of cpu (Ok word) = entry_by cpu.slot word
entry_of cpu (Err exc) = None

-- the same of the word at which the machine stands
abbrev pub entry_at : Machine → List (List ℕ) → Option Entry
entry_at m frames = entry_of m.cpu (fetched (row_answers m.cp0 m.tlb frames) m.cpu.pc)
