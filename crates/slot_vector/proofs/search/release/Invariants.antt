use Rattle.std.proofs.Common.{◌≡◌, ◌++◌, map, take, drop}
use Rattle.world_model.specs.Book.{hold_without}
use Rattle.slot_vector.proofs.search.release.Given as goal

-- The slots so far are released already, and those that are left are to be.
abbrev pub invariant-loop-slot : goal.invariant-loop-slot
invariant-loop-slot l = take l.slot-index l.slots ++ map (hold_without l.env) (drop l.slot-index l.slots) ≡ map (hold_without l.env) l.initial.slots
