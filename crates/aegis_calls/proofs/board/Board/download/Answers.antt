-- The handler is named, and the claims keep their pages.
use Rattle.std.proofs.Common.{rules}
use Rattle.board_model.proofs.ClaimServing.{downloaded_board}
use Rattle.board_model.proofs.Claiming.{downloaded_claimed}
use Rattle.board_model.proofs.Staying.{sound_claims}
use Rattle.aegis_calls.proofs.board.Board.download.Goals as goal

pub invariant_of-self : goal.invariant_of-self
invariant_of-self c = search (rules, sound_claims, downloaded_claimed)

pub returns : goal.returns
returns c = search (rules, downloaded_board)
