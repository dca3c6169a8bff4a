use Rattle.std.proofs.Common.{◌≡◌, ◌-◌}
use Rattle.aegis_limits.specs.Limits.{most_run_ticks}
use Rattle.twin_run.specs.Course.{IsUnderWay}
use Rattle.twin_run.proofs.course.come_to_item.Given as goal

abbrev pub invariant-loop-run : goal.invariant-loop-run
invariant-loop-run g l =
    g.R.ToldRun.IsWhole l.run × IsUnderWay l.slices (g.R.ToldRun.progress l.run)
    × (g.R.ToldRun.progress l.run ≡ record (g.R.ToldRun.progress l.fn.run) { ticks = (g.R.ToldRun.progress l.run).ticks })

abbrev pub decreases-loop-run : goal.decreases-loop-run
decreases-loop-run g l = most_run_ticks - (g.R.ToldRun.progress l.run).ticks
