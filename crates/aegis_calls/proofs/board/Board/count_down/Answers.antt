-- The runner is one of the environments, and a runner that is to die has no slot left.
use Rattle.std.proofs.Common.{rules}
use Rattle.board_model.proofs.Sound.{none_left}
use Rattle.aegis_calls.proofs.Runner.{runner_there}
use Rattle.aegis_calls.proofs.board.Board.count_down.Goals as goal

pub tell_end-requires-clause-there : goal.tell_end-requires-clause-there
tell_end-requires-clause-there c = rw c.use_tick.ensures.after (runner_there c.self.view_is c.self.invariant c.requires.runs)

pub keep_stopped-requires : goal.keep_stopped-requires
keep_stopped-requires c = search (rules, runner_there)

pub bury-requires : goal.bury-requires
bury-requires c = search (rules, runner_there, none_left)
