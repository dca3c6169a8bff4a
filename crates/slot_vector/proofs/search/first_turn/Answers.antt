use Rattle.std.proofs.Common.{arith, length}
use Rattle.std.proofs.lemmas.Nat.{mod_below}
use Rattle.slot_vector.specs.Slices.{hold_at}
use Rattle.slot_vector.proofs.Around.{skipped_slot}
use Rattle.slot_vector.proofs.search.first_turn.Goals as goal

pub loop-tries-preserved : goal.loop-tries-preserved
loop-tries-preserved c = record {
  within = mod_below _ _ (omega arith);
  same = rw (skipped_slot (hold_at c.args.slots.now) (length c.args.slots.now) c.loop-tries.slot c.loop-tries.tries c.loop-tries-test.true (rw (← c.hold_at.ensures.hold) c.in_default.is)) c.loop-tries.invariant.same;
}
