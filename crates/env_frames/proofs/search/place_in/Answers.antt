-- The mapping in the middle leaves one half.
use Rattle.std.proofs.Common.{◌+◌, ◌-◌, ◌/◌, arith}
use Rattle.env_frames.proofs.Places.{above_from, below_as_far, no_mapping}
use Rattle.env_frames.proofs.search.place_in.Goals as goal

pub loop-low-preserved-then-here-vpn : goal.loop-low-preserved-then-here-vpn
loop-low-preserved-then-here-vpn c =
    let middle = c.loop-low.low + (c.loop-low.high - c.loop-low.low) / 2 in
    record {
      low_le = omega arith;
      high_le = omega arith;
      below = below_as_far c.args.mappings.now c.args.vpn middle no_mapping c.requires (omega arith) c.if-here-vpn.true;
      above = c.loop-low.invariant.above;
    }

pub loop-low-preserved : goal.loop-low-preserved
loop-low-preserved c =
    let middle = c.loop-low.low + (c.loop-low.high - c.loop-low.low) / 2 in
    record {
      low_le = omega arith;
      high_le = omega arith;
      below = c.loop-low.invariant.below;
      above = above_from c.args.mappings.now c.args.vpn middle no_mapping c.requires (omega arith) c.if-vpn-here.true;
    }
