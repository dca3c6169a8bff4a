-- The rows so far, room for the rest, and the bits of the mask that are left.
use Rattle.std.proofs.Common.{◌≡◌, ◌≤◌, ◌+◌, length}
use Rattle.slot_vector.specs.Slices.{hold_at}
use Rattle.board_model.specs.Doing.{mask_rows, mask_from, with_rows}
use Rattle.board_acts.proofs.slot_rows.push_slots.Given as goal

abbrev pub invariant-loop-slot : goal.invariant-loop-slot
invariant-loop-slot l = record {
  rows : l.journal ≡ with_rows l.fn.journal (mask_rows l.time l.mask (hold_at l.slots.slots) l.slot);
  room : length l.slots.slots ≤ l.journal.spare + l.slot;
  rest : l.rest ≡ mask_from l.mask l.slot;
}
