-- A run, instruction by instruction.
use Rattle.std.proofs.Common.{arith, ◌≡◌, ◌<◌, ◌+◌, ◌-◌, ℕ, suc, List, refl, Option, None}
use Rattle.mips_exec.specs.declared.registers.Cpu.{Cpu}
use Rattle.handler_rules.specs.declared.outcome.HandlerEnd.{HandlerEnd}
use Rattle.handler_rules.specs.Running.{HandlerRun, Progress, HandlerState, handler_step, ended_or, run_on, progress_of, state_of}

-- the run whose first instruction leaves this
abbrev from_progress : ℕ → List ℕ → List ℕ → Progress → HandlerRun
from_progress n words packet progress = ended_or progress.end progress.state (run_on n words packet progress.state)

-- a run with an instruction left is the one whose first instruction leaves what the next one does
run_first : (n k : ℕ) (words packet : List ℕ) (state : HandlerState) (progress : Progress) → k < n → progress ≡ handler_step words packet state
    → from_progress (n - (k + 1)) words packet progress ≡ run_on (n - k) words packet state
run_first n k words packet state progress left is =
    let one : n - k ≡ suc (n - (k + 1)) = omega arith in
    rw (one, is) refl

-- where that doesn't end it, the rest of the run is left
pub run_rest : (n k : ℕ) (words packet : List ℕ) (state : HandlerState) (cpu : Cpu) (page : List ℕ) (replies : List (List ℕ)) (end : Option HandlerEnd)
    → k < n → end ≡ None → progress_of cpu page replies end ≡ handler_step words packet state
    → run_on (n - (k + 1)) words packet (state_of cpu page replies) ≡ run_on (n - k) words packet state
run_rest n k words packet state cpu page replies end left none is =
    rw none at (run_first n k words packet state (progress_of cpu page replies end) left is)
