-- Each row with the first word is among those that are left.
use Rattle.r3k_tlb.specs.Index.{Covers}
use Rattle.r3k_tlb.proofs.index.first_with.Given as goal

abbrev pub invariant-loop-left : goal.invariant-loop-left
invariant-loop-left l = Covers l.rows l.left l.word

abbrev pub decreases-loop-left : goal.decreases-loop-left
decreases-loop-left l = l.left
