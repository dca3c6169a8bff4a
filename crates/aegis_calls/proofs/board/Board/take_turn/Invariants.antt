-- The rest of the turn makes the whole of it, and there is room for all that is owed.
use Rattle.std.proofs.Common.{◌≡◌, ◌≤◌, ◌+◌, None}
use Rattle.slot_vector.specs.Laws.{owed_by_all}
use Rattle.slot_vector.specs.Slices.{whole_turn_of}
use Rattle.board_model.specs.Doing.{after_told}
use Rattle.aegis_calls.proofs.board.Board.take_turn.Given as goal

abbrev pub invariant-loop : goal.invariant-loop
invariant-loop l = record {
  turn : after_told l.self (whole_turn_of l.self.slots) ≡ after_told l.fn.self (whole_turn_of l.fn.self.slots);
  nobody : l.self.slots.runner ≡ None;
  time : l.self.time ≡ l.fn.self.time;
  whole : l.self.roster.spare ≡ 0;
  room : l.fn.self.ledger.spare + owed_by_all l.self.slots ≤ l.self.ledger.spare + owed_by_all l.fn.self.slots;
}

abbrev pub decreases-loop : goal.decreases-loop
decreases-loop l = owed_by_all l.self.slots
