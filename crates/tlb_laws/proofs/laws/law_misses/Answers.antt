use Rattle.tlb_laws.proofs.Missing.{misses}
use Rattle.tlb_laws.proofs.laws.law_misses.Goals as goal

pub returns : goal.returns
returns c = misses
