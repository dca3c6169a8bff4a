use Rattle.std.proofs.Common.{◌≡◌, ◌++◌, take}
use Rattle.run_report.specs.Report.{sent_lines}
use Rattle.run_report.proofs.sending.push_sent_lines.Given as goal

abbrev pub invariant-loop-place : goal.invariant-loop-place
invariant-loop-place g l = l.out.items ≡ l.fn.out.items ++ sent_lines l.env (take l.place ((g.V.WorldView.world l.view).solos l.env).sent)
