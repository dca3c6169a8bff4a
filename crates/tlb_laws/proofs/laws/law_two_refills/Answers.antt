use Rattle.tlb_laws.proofs.Refilling.{two_suffice}
use Rattle.tlb_laws.proofs.laws.law_two_refills.Goals as goal

pub returns : goal.returns
returns c = two_suffice
