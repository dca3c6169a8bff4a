-- What is written are the report and the TLB of the run.
use Rattle.std.proofs.Common.{◌≡◌, ◌++◌, ℕ, List, IfOk, subst}
use Rattle.std.specs.Prelude.{Vec}
use Rattle.std.specs.Global.{Global}
use Rattle.run_report.specs.Report.{report_text}
use Rattle.tlb_report.specs.Text.{tlb_text}
use Rattle.aegis_command.specs.RunImage.{report_after}
use Rattle.aegis_command.specs.TlbImage.{tlb_after}
use Rattle.aegis_command.proofs.tlb_image.ReportAndTlbSystemText.write.Goals as goal

pub returns : goal.returns
unfolding report_after tlb_after
returns c =
    let run = c.in_ok-run.ensures in
    subst (λ (t : List ℕ). IfOk c.text_of.result (λ (v : Vec ℕ Global). v.items ≡ t))
    (λ i. report_text (run.world i) (run.end i) ++ tlb_text (run.world i) (run.tlb i) (run.end i)) c.text_of.ensures
