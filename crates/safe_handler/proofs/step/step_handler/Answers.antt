use Rattle.std.proofs.Common.{◌∙◌, sym, rules}
use Rattle.safe_handler.proofs.Steps.{call_progress, trap_progress}
use Rattle.safe_handler.proofs.step.step_handler.Goals as goal

pub returns-in-Call : goal.returns-in-Call
returns-in-Call c = search (rules, call_progress)

pub returns-in-Trap : goal.returns-in-Trap
returns-in-Trap c =
    rw c.end_by.ensures (trap_progress _ _ _ _ _ _ c.in-Trap.exc (sym c.step_machine.ensures.outcome ∙ c.in-Trap.is) c.step_machine.ensures.cpu c.step_machine.ensures.page)
