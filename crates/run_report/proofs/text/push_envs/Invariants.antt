use Rattle.std.proofs.Common.{◌≡◌, ◌++◌}
use Rattle.machine_text.specs.Series.{for_each}
use Rattle.run_report.specs.Report.{env_text}
use Rattle.run_report.proofs.text.push_envs.Given as goal

abbrev pub invariant-loop-env : goal.invariant-loop-env
invariant-loop-env g l = l.out.items ≡ l.fn.out.items ++ for_each (env_text (g.V.WorldView.world l.view)) l.env
