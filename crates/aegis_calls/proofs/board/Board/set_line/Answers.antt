-- The line's new owner lives, if it has one.
use Rattle.std.proofs.Common.{rules}
use Rattle.board_model.proofs.Staying.{sound_lines}
use Rattle.board_model.proofs.Wired.{set_wired}
use Rattle.aegis_calls.proofs.board.Board.set_line.Goals as goal

pub invariant_of-self : goal.invariant_of-self
invariant_of-self c = search (rules, sound_lines, set_wired)
