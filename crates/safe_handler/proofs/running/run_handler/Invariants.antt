use Rattle.std.proofs.Common.{◌≡◌, ◌-◌, length}
use Rattle.handler_rules.specs.Running.{handler_run, run_on, state_of}
use Rattle.safe_handler.proofs.running.run_handler.Given as goal

-- The run with as many instructions as are left is the handler's.
abbrev pub invariant-loop : goal.invariant-loop
invariant-loop l =
    run_on (length l.words - l.counter) l.words l.bytes (state_of l.cpu l.page l.replies)
    ≡ handler_run l.fn.handler l.fn.packet l.fn.id l.fn.page
