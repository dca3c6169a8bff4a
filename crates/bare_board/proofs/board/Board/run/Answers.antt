use Rattle.std.proofs.Common.{arith}
use Rattle.bare_board.proofs.Ticks.{halts}
use Rattle.bare_board.proofs.board.Board.run.Goals as goal

pub returns-then-tick-clause-run : goal.returns-then-tick-clause-run
returns-then-tick-clause-run c = halts c.args.period c.loop-t.t c.args.ticks c.args.self.now c.loop-t.self c.tick.new.self (omega arith) c.loop-t.invariant.run c.if-tick.ensures.tick
