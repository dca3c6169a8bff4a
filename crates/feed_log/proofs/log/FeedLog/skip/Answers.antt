-- Nothing is left.
use Rattle.std.proofs.Common.{◌-◌, sym, arith}
use Rattle.feed_log.proofs.Runs.{none_behind}
use Rattle.feed_log.proofs.log.FeedLog.skip.Goals as goal

pub returns-else-not-is_empty : goal.returns-else-not-is_empty
returns-else-not-is_empty c = none_behind c.args.self.now c.loop-left.self (c.args.count - c.loop-left.left) c.args.count (omega arith) c.loop-left.invariant.1 (sym c.if-not-is_empty.ensures)
