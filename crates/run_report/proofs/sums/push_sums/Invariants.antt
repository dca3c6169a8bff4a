use Rattle.std.proofs.Common.{◌≡◌, ◌++◌}
use Rattle.machine_text.specs.Series.{for_each}
use Rattle.run_report.specs.Report.{sum_line}
use Rattle.run_report.proofs.sums.push_sums.Given as goal

abbrev pub invariant-loop-env : goal.invariant-loop-env
invariant-loop-env g l = l.out.items ≡ l.fn.out.items ++ for_each (sum_line (g.V.WorldView.world l.view).rows) l.env
