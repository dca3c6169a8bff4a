use Rattle.tlb_laws.proofs.RightRefill.{right_refill}
use Rattle.tlb_laws.proofs.laws.law_right_refill.Goals as goal

pub returns : goal.returns
returns c = right_refill
