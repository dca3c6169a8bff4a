-- One row more, where the mask names the slot.
use Rattle.std.proofs.Common.{arith, ap}
use Rattle.kernel_journal.specs.Ledger.{Ledger}
use Rattle.slot_vector.specs.Slices.{hold_at}
use Rattle.board_model.proofs.Masks.{named_on, unnamed_on, left_on}
use Rattle.board_acts.proofs.slot_rows.push_slots.Goals as goal
use Rattle.board_acts.proofs.slot_rows.push_slots.Goals.{then-rest-eq1, else-rest-eq1}

pub loop-slot-preserved : goal.loop-slot-preserved
loop-slot-preserved c =
    let j = c.args.journal.now in
    let k = c.loop-slot.slot in
    let slots = hold_at c.args.slots.now.slots in
    let so_far = c.loop-slot.invariant in
    let left = left_on c.args.mask k c.loop-slot.rest so_far.rest in
    elim c.if-rest-eq1.branch [
      | then-rest-eq1 w ↦ record {
        rows = rw (w.journal-is, w.push_slot.ensures, so_far.rows) (named_on j c.args.time c.args.mask slots k c.loop-slot.rest so_far.rest w.if-rest-eq1.true);
        room = omega (arith, ap (λ (l : Ledger). l.spare) w.journal-is, ap (λ (l : Ledger). l.spare) w.push_slot.ensures, so_far.room);
        rest = left;
      }
      | else-rest-eq1 w ↦ record {
        rows = rw (w.journal-is, so_far.rows) (unnamed_on j c.args.time c.args.mask slots k c.loop-slot.rest so_far.rest w.if-rest-eq1.false);
        room = omega (arith, ap (λ (l : Ledger). l.spare) w.journal-is, so_far.room);
        rest = left;
      }
    ]
