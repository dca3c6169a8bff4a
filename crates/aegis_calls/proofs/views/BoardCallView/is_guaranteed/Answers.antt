-- A VPN is guaranteed where the frame has a mapping for it.
use Rattle.std.proofs.Common.{rules}
use Rattle.board_model.proofs.Reading.{guaranteed_same}
use Rattle.aegis_calls.proofs.views.BoardCallView.is_guaranteed.Goals as goal

pub returns : goal.returns
returns c = search (rules, guaranteed_same)
