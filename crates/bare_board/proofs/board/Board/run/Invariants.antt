-- The board is that after the ticks so far, and hasn't halted.
use Rattle.std.proofs.Common.{◌≡◌, ◌≤◌, ◌-◌, length}
use Rattle.bare_board.specs.Run.{run_after}
use Rattle.bare_board.specs.Stretch.{going_on}
use Rattle.bare_board.proofs.board.Board.run.Given as goal

abbrev pub invariant-loop-t : goal.invariant-loop-t
invariant-loop-t l = record {
  run : run_after l.period l.fn.self l.t ≡ going_on l.self;
  within : l.t ≤ l.ticks;
  size : length l.self.frames ≡ length l.fn.self.frames;
}

abbrev pub decreases-loop-t : goal.decreases-loop-t
decreases-loop-t l = l.ticks - l.t
