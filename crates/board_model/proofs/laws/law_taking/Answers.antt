-- One page is taken, or the deadlines end.
use Rattle.board_model.proofs.Repossessing.{over_world, taken_world}
use Rattle.board_model.proofs.laws.law_taking.Goals as goal

pub returns-clause-taken : goal.returns-clause-taken
returns-clause-taken c = λ b x sound may. taken_world b sound x may

pub returns-clause-over : goal.returns-clause-over
returns-clause-over c = over_world
