use Rattle.std.proofs.Common.{◌≡◌, ◌<◌, length}
use Rattle.world_model.specs.Book.{first_turn}
use Rattle.slot_vector.specs.Slices.{hold_at}
use Rattle.slot_vector.proofs.search.first_turn.Given as goal

-- The tries that are left find the same turn.
abbrev pub invariant-loop-tries : goal.invariant-loop-tries
invariant-loop-tries l = record {
  within : l.slot < length l.slots;
  same : first_turn (hold_at l.slots) (length l.slots) l.slot l.tries ≡ first_turn (hold_at l.slots) (length l.slots) l.place (length l.slots);
}

abbrev pub decreases-loop-tries : goal.decreases-loop-tries
decreases-loop-tries l = l.tries
