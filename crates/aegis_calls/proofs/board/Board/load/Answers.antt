-- The runner has its place in the book of revocations, and the page is its own.
use Rattle.std.proofs.Common.{rules}
use Rattle.board_model.proofs.Asked.{loaded_asked}
use Rattle.board_model.proofs.Staying.{sound_asked}
use Rattle.aegis_calls.proofs.Runner.{runner_live}
use Rattle.aegis_calls.proofs.board.Board.load.Goals as goal

pub load-requires : goal.load-requires
load-requires c = search (rules, runner_live)

pub invariant_of-self : goal.invariant_of-self
invariant_of-self c = search (rules, runner_live, sound_asked, loaded_asked)
