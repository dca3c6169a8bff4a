use Rattle.strict_law.proofs.Runs.{reports_are_strict}
use Rattle.strict_law.proofs.laws.law_reports_are_strict.Goals as goal

pub returns : goal.returns
returns c =
    reports_are_strict c.law_rows_are_strict.ensures c.law_reports_are_read.ensures c.law_runs_are_clean.ensures c.law_audit.ensures.clean c.law_strict_audit.ensures.kept
