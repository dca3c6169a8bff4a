use Rattle.r3k_tlb.proofs.Bits.{bit_is_clear, bit_is_set}
use Rattle.r3k_tlb.proofs.index.set_bit.Goals as goal

pub returns-then-to : goal.returns-then-to
returns-then-to c = rw c.if-to.true (bit_is_set c.args.bits c.args.i c.requires)

pub returns-else-to : goal.returns-else-to
returns-else-to c = rw c.if-to.false (bit_is_clear c.args.bits c.args.i c.requires)
