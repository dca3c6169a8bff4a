use Rattle.std.proofs.Common.{arith, ◌<◌, ◌^◌}
use Rattle.r3k_tlb.proofs.Looking.{fewer_bits, lowest_covered, none_covered, others_cover}
use Rattle.r3k_tlb.proofs.index.first_with.Goals as goal

pub returns-then-row-word : goal.returns-then-row-word
returns-then-row-word c = let some : 0 < c.loop-left.left = omega arith in let fits : c.loop-left.left < 2 ^ 64 = omega arith in lowest_covered c.args.rows.now c.loop-left.left c.args.word _ c.loop-left.invariant some fits c.if-row-word.true

pub loop-left-smaller : goal.loop-left-smaller
loop-left-smaller c = let some : 0 < c.loop-left.left = omega arith in let fits : c.loop-left.left < 2 ^ 64 = omega arith in fewer_bits c.loop-left.left some fits

pub loop-left-preserved : goal.loop-left-preserved
loop-left-preserved c = let some : 0 < c.loop-left.left = omega arith in let fits : c.loop-left.left < 2 ^ 64 = omega arith in others_cover c.args.rows.now c.loop-left.left c.args.word _ c.loop-left.invariant some fits c.if-row-word.false

pub returns : goal.returns
returns c = let none = none_covered c.args.rows.now c.loop-left.left c.args.word c.loop-left.invariant c.loop-left-test.false in (cc)
