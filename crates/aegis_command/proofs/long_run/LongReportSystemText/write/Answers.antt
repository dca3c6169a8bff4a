-- What is reported is the world of the run.
use Rattle.std.proofs.Common.{◌≡◌, ℕ, List, IfOk, subst}
use Rattle.std.specs.Prelude.{Vec}
use Rattle.std.specs.Global.{Global}
use Rattle.run_report.specs.Report.{report_text}
use Rattle.aegis_command.specs.RunImage.{report_after}
use Rattle.aegis_command.proofs.long_run.LongReportSystemText.write.Goals as goal

pub returns : goal.returns
unfolding report_after
returns c =
    let run = c.in_ok-run.ensures in
    subst (λ (t : List ℕ). IfOk c.report.result (λ (v : Vec ℕ Global). v.items ≡ t))
    (λ i. report_text (run.world i) (run.end i)) c.report.ensures
