use Rattle.std.proofs.Common.{◌≡◌, ◌++◌}
use Rattle.run_report.specs.Report.{page_lines}
use Rattle.run_report.proofs.page.push_page_lines.Given as goal

abbrev pub invariant-loop-page : goal.invariant-loop-page
invariant-loop-page g l = l.out.items ≡ l.fn.out.items ++ page_lines l.env ((g.V.WorldView.world l.view).solos l.env).seen l.page
