use Rattle.strict_law.proofs.Runs.{rows_are_strict}
use Rattle.strict_law.proofs.laws.law_rows_are_strict.Goals as goal

pub returns : goal.returns
returns c = rows_are_strict c.law_reports_are_read.ensures
