-- The filter is named, and no claim refuses it.
use Rattle.std.proofs.Common.{rules}
use Rattle.board_model.proofs.ClaimServing.{claimed_board, one_filter}
use Rattle.aegis_calls.proofs.board.Board.claim.Goals as goal

pub returns : goal.returns
returns c = search (rules, one_filter, claimed_board)
