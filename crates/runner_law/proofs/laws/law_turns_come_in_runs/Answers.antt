use Rattle.runner_law.proofs.Turns.{turns_come_in_runs}
use Rattle.runner_law.proofs.laws.law_turns_come_in_runs.Goals as goal

pub returns : goal.returns
returns c = turns_come_in_runs c.law_granted.ensures c.law_next_turn.ensures c.law_turn.ensures c.law_time.ensures c.law_ledger.ensures c.law_ledger_end.ensures c.law_ledger_tells.ensures c.law_states_are_told.ensures c.law_steps_are_told.ensures c.law_turns_come.ensures
