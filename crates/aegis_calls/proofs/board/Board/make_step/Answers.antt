-- What follows a step is done to the board after it, and is what the step came to.
use Rattle.std.proofs.Common.{◌≡◌, ℕ, sym, ◌∙◌, rules}
use Rattle.mips_exec.specs.declared.exception.Exc.{Exc}
use Rattle.mips_exec.specs.declared.exception.Outcome.TheVariants as outcome
use Rattle.mips_exec.specs.Step.{Step, outcome_of}
use Rattle.board_model.specs.Shown.{Shown}
use Rattle.board_model.specs.Doing.{after_runner_step, after_machine_step, step_seen, after_trap}
use Rattle.board_model.specs.Refilling.{with_lookups}
use Rattle.board_model.proofs.Stepping.{came_called}
use Rattle.aegis_calls.proofs.board.Board.make_step.Goals as goal

came_retired : (b : Shown) (e : ℕ) (step : Step) → outcome_of step ≡ outcome.Retired → after_machine_step b e step ≡ after_runner_step b e step
came_retired b e step is = search rules

-- a step that trapped changed nothing yet
came_trapped : (b : Shown) (e : ℕ) (step : Step) (exc : Exc) → outcome_of step ≡ outcome.Trap exc → after_trap (after_machine_step b e step) e exc ≡ after_runner_step b e step
came_trapped b e step exc is = search rules

pub returns-in-Retired : goal.returns-in-Retired
returns-in-Retired c = c.run_machine.ensures.shown ∙ came_retired (with_lookups c.args.self.now c.args.env) c.args.env (step_seen c.args.self.now c.args.env) (sym c.run_machine.ensures.outcome ∙ c.in-Retired.is)

pub returns-in-Call : goal.returns-in-Call
returns-in-Call c = search (rules, came_called)

pub returns-in-Trap : goal.returns-in-Trap
returns-in-Trap c = search (rules, came_trapped)
