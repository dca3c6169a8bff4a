-- What is written is the run in short.
use Rattle.std.proofs.Common.{◌≡◌, ◌++◌, ℕ, List, subst}
use Rattle.std.specs.Prelude.{OnOk}
use Rattle.run_report.specs.Report.{summary_text}
use Rattle.aegis_command.specs.LoadSeed.{summary_after}
use Rattle.aegis_command.proofs.load_seed.push_run.Goals as goal

pub returns : goal.returns
unfolding summary_after
returns c =
    let run = c.in_ok-run.ensures in
    let out = c.push_summary.new.out.items in
    subst (λ (t : List ℕ). OnOk c.push_summary.result (out ≡ c.args.out.now.items ++ t))
    (λ i. summary_text (run.world i) (run.end i)) c.push_summary.ensures
