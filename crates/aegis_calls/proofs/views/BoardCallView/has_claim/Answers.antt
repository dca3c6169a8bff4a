-- An environment has a claim exactly where the book has it.
use Rattle.std.proofs.Common.{rules}
use Rattle.board_model.proofs.Claimed.{ring_held}
use Rattle.board_model.proofs.Reading.{runner_rings}
use Rattle.aegis_calls.proofs.views.BoardCallView.has_claim.Goals as goal

pub returns : goal.returns
returns c = search (rules, ring_held, runner_rings)
