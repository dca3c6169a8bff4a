use Rattle.ledger_audit.proofs.Judging.{clean_keeps, kept_clean}
use Rattle.ledger_audit.proofs.Shares.{each_divides}
use Rattle.ledger_audit.proofs.laws.law_audit.Goals as goal

pub returns : goal.returns
returns c = record { clean = clean_keeps; kept = kept_clean; shares = each_divides }
