use Rattle.report_law.proofs.Runs.{reports_clean}
use Rattle.report_law.proofs.laws.law_reports_are_clean.Goals as goal

pub returns : goal.returns
returns c = reports_clean c.law_reports_are_read.ensures c.law_runs_are_clean.ensures
