-- What a handler makes of a packet: the ring page, at most four replies, and how it ends.
use Rattle.std.specs.Prelude.{ℕ, zero, suc, ◌&&◌, nat_le, nat_lt, if◌then◌else◌, List, [], ◌∷◌, ◌++◌, length, Option, Some, None}
use Rattle.external_event.specs.Limits.{least_frame_size, most_packet_size}
use Rattle.mips_exec.specs.declared.registers.Cpu.{Cpu}
use Rattle.mips_exec.specs.declared.exception.ExcCode.{ExcCode}
use Rattle.mips_exec.specs.declared.exception.ExcCode.TheVariants.{Bp, Ibe}
use Rattle.mips_exec.specs.Cpu.{advanced, blank_cpu, reg, with_reg}
use Rattle.mips_exec.specs.Step.{Step, Retired, Called, Trapped, step_of, view_of}
use Rattle.handler_rules.specs.declared.outcome.HandlerEnd.{HandlerEnd}
use Rattle.handler_rules.specs.declared.outcome.HandlerEnd.TheVariants.{Done, Fault}
use Rattle.handler_rules.specs.Memory.{answers_of, bytes_at, page_after, page_start}

-- how many replies a run makes at most
abbrev pub most_replies : ℕ
most_replies = 4

-- a handler at work: its registers, the ring page, and the replies so far
pub record HandlerState : Type 0 where
  pub cpu : Cpu
  pub page : List ℕ
  pub replies : List (List ℕ)

-- what one instruction leaves, and how the handler ended with it, if it did
pub record Progress : Type 0 where
  pub state : HandlerState
  pub end : Option HandlerEnd

-- such records, of their values
abbrev pub state_of : Cpu → List ℕ → List (List ℕ) → HandlerState
state_of cpu page replies = record { cpu = cpu; page = page; replies = replies }

abbrev pub progress_of : Cpu → List ℕ → List (List ℕ) → Option HandlerEnd → Progress
progress_of cpu page replies end = record { state = state_of cpu page replies; end = end }

-- what a run leaves
pub record HandlerRun : Type 0 where
  pub page : List ℕ
  pub replies : List (List ℕ)
  pub end : HandlerEnd

-- All registers are 0 but `$4`, the length of the packet, and `$5`, the number of the claim; the first word is next.
abbrev pub entry_cpu : ℕ → ℕ → Cpu
entry_cpu size id = with_reg (with_reg (record blank_cpu { next = 4 }) 4 size) 5 id

abbrev pub entry_state : List ℕ → ℕ → List ℕ → HandlerState
entry_state packet id page = state_of (entry_cpu (length packet) id) page []

-- the handler goes on
abbrev pub goes_on : HandlerState → Progress
goes_on state = record { state = state; end = None }

-- it ends so
abbrev pub ends : HandlerEnd → HandlerState → Progress
ends end state = record { state = state; end = Some end }

-- the packet that a SYSCALL replies with: `$5` bytes of the ring page from `$4` on, 14 to 1,514 of them
abbrev pub reply_of : Cpu → List ℕ → Option (List ℕ)
reply_of cpu page =
    if nat_le least_frame_size (reg cpu 5) && nat_le (reg cpu 5) most_packet_size
    then bytes_at page_start page (reg cpu 4) (reg cpu 5)
    else None

-- a reply is copied at once
abbrev pub replied : HandlerState → Option (List ℕ) → Progress
replied state None = ends Fault state
replied state (Some reply) = goes_on (record state { cpu = advanced state.cpu; replies = state.replies ++ reply ∷ [] })

-- a SYSCALL replies, if fewer than four replies were made
abbrev pub after_call : HandlerState → Progress
after_call state =
    if nat_lt (length state.replies) most_replies then replied state (reply_of state.cpu state.page)
    else ends Fault state

-- BREAK, and a fetch behind the last word, end it as done; every other exception is a fault
abbrev pub end_by : ExcCode → HandlerEnd
end_by Bp = Done
end_by Ibe = Done
end_by _ = Fault

-- what a step of the machine leaves
abbrev pub after_step : HandlerState → Step → Progress
after_step state (Retired cpu write) = goes_on (record state { cpu = cpu; page = page_after state.page write })
after_step state Called = after_call state
after_step state (Trapped exc) = ends (end_by exc.code) state

-- one instruction: the machine's step over the handler's memory
abbrev pub handler_step : List ℕ → List ℕ → HandlerState → Progress
handler_step words packet state =
    after_step state (step_of state.cpu (view_of (answers_of words packet state.page) state.cpu))

-- the run is over with this state
abbrev pub run_of : HandlerState → HandlerEnd → HandlerRun
run_of state end = record { page = state.page; replies = state.replies; end = end }

-- if the handler ended, the run is over, else it is the rest of it
abbrev pub ended_or : Option HandlerEnd → HandlerState → HandlerRun → HandlerRun
ended_or None state rest = rest
ended_or (Some end) state rest = run_of state end

-- so many instructions, after which the run is over
abbrev pub run_on : ℕ → List ℕ → List ℕ → HandlerState → HandlerRun
run_on zero words packet state = run_of state Done
run_on (suc n) words packet state =
    let progress = handler_step words packet state in
    ended_or progress.end progress.state (run_on n words packet progress.state)

-- The run of a handler over a packet, which the claim of this number gets, and its ring page. It has as many
-- instructions as the handler has words; a verified handler has ended in them (`HandlersEnd`).
unfoldable pub handler_run : List ℕ → List ℕ → ℕ → List ℕ → HandlerRun
handler_run words packet id page = run_on (length words) words packet (entry_state packet id page)
