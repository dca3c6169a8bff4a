use Rattle.std.proofs.Common.{ℕ, ◌≡◌, ◌<◌, ◌≤◌, ◌+◌, ◌-◌, ap, arith, subst, sym}
use Rattle.aegis_limits.specs.Limits.{most_run_ticks}
use Rattle.feed_log.specs.Progress.{Progress}
use Rattle.twin_run.specs.Course.{AreSameBelow, Reads, items_within}
use Rattle.twin_run.proofs.Fronts.{few_left, reads_more, reads_on, same_more}
use Rattle.twin_run.proofs.course.read_same.Goals as goal

fewer : (all index count next : ℕ) → next ≡ index + count → 0 < count → index + count ≤ all → all - next < all - index
fewer all index count next is some few = omega (arith, is, some, few)

pub loop-right-smaller : goal.loop-right-smaller
loop-right-smaller g c =
    let left = g.R.ToldRun.progress c.args.left.now in
    let p = g.R.ToldRun.progress c.come_to_item.new.run in
    let count = c.same_next-count.result in
    let reads = reads_on c.args.slices left c.loop-right.index (g.R.ToldRun.progress c.loop-right.left) p c.loop-right.invariant.2 c.in_ok-come_to_item.ensures.came in
    let some : 0 < count = omega (arith, c.if-count-eq0.false) in
    fewer (items_within left.system left.env most_run_ticks) c.loop-right.index count c.in_ok-index.index c.in_ok-index.ensures some
    (few_left c.args.slices left c.loop-right.index count most_run_ticks p reads reads.under_way.within c.same_next-count.ensures.left_has some)

pub loop-right-preserved : goal.loop-right-preserved
loop-right-preserved g c =
    let n = c.args.slices in
    let left = g.R.ToldRun.progress c.args.left.now in
    let right = g.R.ToldRun.progress c.args.right.now in
    let p = g.R.ToldRun.progress c.come_to_item.new.run in
    let q = g.R.ToldRun.progress c.come_to_item-in-loop-right.new.run in
    let index = c.loop-right.index in
    let count = c.same_next-count.result in
    let next = c.in_ok-index.index in
    let is : index + count ≡ next = sym c.in_ok-index.ensures in
    let first = reads_on n left index (g.R.ToldRun.progress c.loop-right.left) p c.loop-right.invariant.2 c.in_ok-come_to_item.ensures.came in
    let second = reads_on n right index (g.R.ToldRun.progress c.loop-right.right) q c.loop-right.invariant.3 c.in_ok-come_to_item-2.ensures.came in
    let envs : right.env ≡ left.env = ap (λ (r : Progress). r.env) c.requires.right in (
      c.skip.ensures.whole,
      c.skip-in-loop-right.ensures.whole,
      subst (λ i. Reads n left i (g.R.ToldRun.progress c.skip.new.self)) is (reads_more n left index count p (g.R.ToldRun.progress c.skip.new.self) first c.skip.ensures.read),
      subst (λ i. Reads n right i (g.R.ToldRun.progress c.skip-in-loop-right.new.self)) is
          (reads_more n right index count q (g.R.ToldRun.progress c.skip-in-loop-right.new.self) second c.skip-in-loop-right.ensures.read),
      subst (AreSameBelow left.system right.system left.env n) is (same_more n left right p q index count first second envs c.same_next-count.ensures c.loop-right.invariant.4),
    )
