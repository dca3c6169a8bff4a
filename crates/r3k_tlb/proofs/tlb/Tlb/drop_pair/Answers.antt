use Rattle.r3k_tlb.proofs.Emptying.{none_of_pair}
use Rattle.r3k_tlb.proofs.tlb.Tlb.drop_pair.Goals as goal

pub returns-then-is_none : goal.returns-then-is_none
returns-then-is_none c = none_of_pair c.args.vpn c.args.pid c.args.self.now (rw c.fitting.ensures at c.if-is_none.ensures)
