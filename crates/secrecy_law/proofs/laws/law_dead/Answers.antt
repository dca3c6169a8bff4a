-- The law is the lemma.
use Rattle.secrecy_law.proofs.Emptied.{dead_have_nothing}
use Rattle.secrecy_law.proofs.laws.law_dead.Goals as goal

pub returns : goal.returns
returns c = dead_have_nothing c.law_granted.ensures c.law_accounts.ensures c.law_agreement.ensures c.law_backups.ensures c.law_boot_accounts.ensures c.law_claims.ensures
