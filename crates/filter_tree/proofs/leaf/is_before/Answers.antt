use Rattle.std.proofs.Common.{◌∙◌, sym}
use Rattle.filter_tree.proofs.Order.{ended}
use Rattle.filter_tree.proofs.leaf.is_before.Goals as goal

pub returns-then-place-right : goal.returns-then-place-right
returns-then-place-right c = sym (ended c.loop-place.place c.args.left.now c.args.right.now c.loop-place-test.true c.if-place-right.true) ∙ c.loop-place.invariant
