-- What is served is the model's, and leaves all but pages, bindings, claims and backups.
use Rattle.std.proofs.Common.{rules}
use Rattle.board_model.proofs.Repossessing.{served_leaves}
use Rattle.aegis_calls.proofs.Emptying.{served_empties}
use Rattle.aegis_calls.proofs.board.Board.serve.Goals as goal

pub returns : goal.returns
returns c = search (rules, served_leaves, served_empties)
