use Rattle.tlb_laws.proofs.Finding.{finds}
use Rattle.tlb_laws.proofs.laws.law_finds.Goals as goal

pub returns : goal.returns
returns c = finds
