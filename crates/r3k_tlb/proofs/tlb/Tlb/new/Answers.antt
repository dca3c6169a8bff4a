use Rattle.r3k_tlb.proofs.Writing.{emptied_indexed}
use Rattle.r3k_tlb.proofs.tlb.Tlb.new.Goals as goal

pub invariant_of-result : goal.invariant_of-result
invariant_of-result c = rw c.emptied.ensures emptied_indexed
