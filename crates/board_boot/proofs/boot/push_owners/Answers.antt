-- One row more, where the slot has an owner.
use Rattle.std.proofs.Common.{None, arith}
use Rattle.board_model.proofs.Giving.{more_owners}
use Rattle.board_boot.proofs.boot.push_owners.Goals as goal

pub loop-slot-preserved : goal.loop-slot-preserved
loop-slot-preserved c = record {
  rows = rw (c.push_owner.ensures.rows, c.loop-slot.invariant.rows) (more_owners c.args.journal.now c.args.slots.now c.loop-slot.slot None c.loop-slot-test.true);
  room = omega (arith, c.push_owner.ensures.room, c.loop-slot.invariant.room);
}
