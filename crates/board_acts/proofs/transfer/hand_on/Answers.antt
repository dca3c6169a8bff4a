-- The slot that is handed on has its row.
use Rattle.std.proofs.Common.{refl}
use Rattle.world_model.specs.SlotCalls.{held_by}
use Rattle.board_model.proofs.Slots.{handed_here}
use Rattle.board_acts.proofs.transfer.hand_on.Goals as goal

pub returns-in-Asynchronous : goal.returns-in-Asynchronous
returns-in-Asynchronous c b = rw (c.push.ensures, c.slot-slot.ensures.cursor, c.donate.ensures, c.hands_slot.ensures, c.in-Asynchronous.is) refl

pub returns-in-Synchronous : goal.returns-in-Synchronous
returns-in-Synchronous c b =
    let v = c.args.slots.now in
    rw (c.push_slot.ensures, c.push-in-Synchronous.ensures, c.slot-slot.ensures.cursor, c.donate.ensures, c.hands_slot.ensures, c.in-Synchronous.is, handed_here (held_by c.args.target) v.slots v.cursor) refl
