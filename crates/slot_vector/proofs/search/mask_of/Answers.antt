use Rattle.std.proofs.Common.{arith, length}
use Rattle.slot_vector.proofs.Mask.{below_before, mask_before}
use Rattle.slot_vector.proofs.search.mask_of.Goals as goal

pub loop-left-preserved : goal.loop-left-preserved
loop-left-preserved c =
    let step = mask_before c.args.env c.args.slots.now c.loop-left.left c.loop-left-test.true c.loop-left.invariant.within in
    record {
      within = omega (arith, c.loop-left.invariant.within);
      so_far = omega (arith, step, c.part_bit.ensures.bit, c.loop-left.invariant.so_far);
      fits = below_before (length c.args.slots.now) c.loop-left.left c.loop-left.mask c.part_bit.result c.loop-left-test.true c.loop-left.invariant.within c.part_bit.ensures.most c.loop-left.invariant.fits;
    }
