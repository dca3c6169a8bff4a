use Rattle.std.proofs.Common.{◌-◌}
use Rattle.aegis_limits.specs.Limits.{most_run_ticks}
use Rattle.twin_run.specs.Course.{WentOnTo}
use Rattle.twin_run.proofs.course.slices_short.Given as goal

abbrev pub invariant-loop-run : goal.invariant-loop-run
invariant-loop-run g l = g.R.ToldRun.IsWhole l.run × WentOnTo l.slices (g.R.ToldRun.progress l.fn.run) (g.R.ToldRun.progress l.run)

abbrev pub decreases-loop-run : goal.decreases-loop-run
decreases-loop-run g l = most_run_ticks - (g.R.ToldRun.progress l.run).ticks
