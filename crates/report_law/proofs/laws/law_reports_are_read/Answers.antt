use Rattle.report_law.proofs.Runs.{reports_read}
use Rattle.report_law.proofs.laws.law_reports_are_read.Goals as goal

pub returns : goal.returns
returns c = reports_read c.law_rows_are_read_back.ensures.back c.law_granted.ensures c.law_alone.ensures c.law_licence.ensures.feed c.law_ledger.ensures
