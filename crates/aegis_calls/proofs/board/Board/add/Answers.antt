-- One environment more.
use Rattle.std.proofs.lemmas.Grind.{common_steps}
use Rattle.std.proofs.Common.{arith, rules}
use Rattle.board_model.proofs.Building.{added_sound, added_world}
use Rattle.aegis_calls.proofs.board.Board.add.Goals as goal

pub invariant_of-self : goal.invariant_of-self
invariant_of-self c = grind (arith, common_steps, added_sound)

pub returns-clause-world : goal.returns-clause-world
returns-clause-world c = search (rules, added_world)
