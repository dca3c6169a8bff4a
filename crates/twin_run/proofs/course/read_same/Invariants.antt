use Rattle.std.proofs.Common.{◌-◌}
use Rattle.aegis_limits.specs.Limits.{most_run_ticks}
use Rattle.twin_run.specs.Course.{AreSameBelow, Reads, items_within}
use Rattle.twin_run.proofs.course.read_same.Given as goal

abbrev pub invariant-loop-right : goal.invariant-loop-right
invariant-loop-right g l =
    let left = g.R.ToldRun.progress l.fn.left in
    let right = g.R.ToldRun.progress l.fn.right in
    g.R.ToldRun.IsWhole l.left × g.R.ToldRun.IsWhole l.right × Reads l.slices left l.index (g.R.ToldRun.progress l.left)
    × Reads l.slices right l.index (g.R.ToldRun.progress l.right) × AreSameBelow left.system right.system left.env l.slices l.index

abbrev pub decreases-loop-right : goal.decreases-loop-right
decreases-loop-right g l =
    let left = g.R.ToldRun.progress l.fn.left in items_within left.system left.env most_run_ticks - l.index
