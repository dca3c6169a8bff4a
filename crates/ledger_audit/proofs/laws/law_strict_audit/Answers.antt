use Rattle.ledger_audit.proofs.Strictness.{both_kept_clean, clean_keeps_both}
use Rattle.ledger_audit.proofs.laws.law_strict_audit.Goals as goal

pub returns : goal.returns
returns c = record { clean = clean_keeps_both; kept = both_kept_clean }
