-- The rows so far, and room for the rest.
use Rattle.std.proofs.Common.{◌≡◌, ◌≤◌, ◌+◌, length}
use Rattle.run_model.specs.Boot.{own_rows}
use Rattle.board_model.specs.Doing.{with_rows}
use Rattle.board_boot.proofs.boot.push_owners.Given as goal

abbrev pub invariant-loop-slot : goal.invariant-loop-slot
invariant-loop-slot l = record {
  rows : l.journal ≡ with_rows l.fn.journal (own_rows l.slots l.slot);
  room : length l.slots ≤ l.journal.spare + l.slot;
}
