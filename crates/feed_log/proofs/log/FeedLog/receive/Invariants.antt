-- What was read there is told here, and what is left there is to come.
use Rattle.std.proofs.Common.{◌≡◌, ◌++◌, length}
use Rattle.std.specs.Prelude.{◌||◌}
use Rattle.std.specs.List.{list_any}
use Rattle.feed_log.specs.Log.{begins_seen}
use Rattle.feed_log.proofs.log.FeedLog.receive.Given as goal

abbrev pub invariant-loop-item : goal.invariant-loop-item
invariant-loop-item l = (l.self ++ l.other ≡ l.fn.self ++ l.fn.other) × (list_any begins_seen l.fn.other ≡ l.begins || list_any begins_seen l.other)

abbrev pub decreases-loop-item : goal.decreases-loop-item
decreases-loop-item l = length l.other
