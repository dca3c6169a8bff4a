-- The context page, and what an exception leaves there.
use Rattle.std.specs.Prelude.{ℕ, ◌+◌, ◌^◌, List, [], ◌∷◌, ◌==◌, if◌then◌else◌, Option, Some, None}
use Rattle.std.specs.List.{flat_map}
use Rattle.mips_exec.specs.declared.registers.Cpu.{Cpu}
use Rattle.mips_exec.specs.declared.exception.Exc.{Exc}
use Rattle.mips_exec.specs.Cpu.{going_on_at, reg, rested, restart_of, with_reg}
use Rattle.mips_exec.specs.Exception.{cause_word_of}
use Rattle.frame_store.specs.Pages.{word_bytes}
use Rattle.env_frames.specs.declared.context.Handlers.{Handlers}
use Rattle.env_frames.specs.declared.context.Context.{Context}
use Rattle.env_frames.specs.declared.context.Context.TheVariants as context

-- the VPN at which each environment sees its context page
abbrev pub context_number : ℕ
context_number = 1

-- where the exception area begins in the context page: the old $1, $26 and $27, EPC, the bad address and Cause
abbrev pub exception_area : ℕ
exception_area = 0x000

-- the context that a kernel call names by this number
abbrev pub context_numbered : ℕ → Option Context
context_numbered kind =
    if kind == 0 then Some context.Exception else
    if kind == 1 then Some context.Start else
    if kind == 2 then Some context.End else
    if kind == 3 then Some context.Asynchronous else
    if kind == 4 then Some context.Synchronous else None

-- the start area has the old $26 and the resume address
abbrev pub start_area : ℕ
start_area = 0x040

-- the end area has the old $26, the resume address and Cause
abbrev pub end_area : ℕ
end_area = 0x050

-- an environment that handles nothing
abbrev pub no_handlers : Handlers
no_handlers = record { exception = 0; start = 0; end = 0; asynchronous = 0; synchronous = 0 }

-- the address of a context's handler; 0 is none
abbrev pub handler_of : Handlers → Context → ℕ
handler_of h context.Exception = h.exception
handler_of h context.Start = h.start
handler_of h context.End = h.end
handler_of h context.Asynchronous = h.asynchronous
handler_of h context.Synchronous = h.synchronous

-- the handlers after one context got this address for its own; the others stay
abbrev pub with_handler : Handlers → Context → ℕ → Handlers
with_handler h context.Exception address = record h { exception = address }
with_handler h context.Start address = record h { start = address }
with_handler h context.End address = record h { end = address }
with_handler h context.Asynchronous address = record h { asynchronous = address }
with_handler h context.Synchronous address = record h { synchronous = address }

-- what an exception leaves in the exception area
abbrev pub exception_words : Exc → Cpu → List ℕ
exception_words exc cpu =
    reg cpu 1 ∷ reg cpu 26 ∷ reg cpu 27 ∷ restart_of cpu ∷ exc.bad ∷ cause_word_of exc cpu.slot ∷ []

-- the bytes of the exception area, the lowest of each word first
unfoldable pub exception_bytes : Exc → Cpu → List ℕ
exception_bytes exc cpu = flat_map word_bytes (exception_words exc cpu)

-- the handler finds Cause in $1, EPC in $26 and the bad address in $27
abbrev pub raised_cpu : ℕ → Exc → Cpu → Cpu
raised_cpu handler exc cpu =
    let caused = with_reg cpu 1 (cause_word_of exc cpu.slot) in
    going_on_at (with_reg (with_reg caused 26 (restart_of cpu)) 27 exc.bad) handler

-- What the start of a slice leaves in the start area, of registers that go on at their restart address.
unfoldable pub start_bytes : Cpu → List ℕ
start_bytes cpu = flat_map word_bytes (reg cpu 26 ∷ restart_of cpu ∷ [])

-- Cause without an exception says only whether a delay slot was due
abbrev pub end_cause : Cpu → ℕ
end_cause cpu = if cpu.slot then 2 ^ 31 else 0

-- what the end of a slice leaves in the end area
unfoldable pub end_bytes : Cpu → List ℕ
end_bytes cpu = flat_map word_bytes (reg cpu 26 ∷ restart_of cpu ∷ end_cause cpu ∷ [])

-- a handler of starts or ends finds the resume address in $26
abbrev pub resumed_cpu : ℕ → Cpu → Cpu
resumed_cpu handler cpu = going_on_at (with_reg cpu 26 (restart_of cpu)) handler

-- the registers with which a slice starts: at the handler of starts, where there is one, else at rest
abbrev pub started_cpu : ℕ → Cpu → Cpu
started_cpu handler cpu = if handler == 0 then rested cpu else resumed_cpu handler cpu
