use Rattle.std.proofs.Common.{◌≡◌, length, map, take}
use Rattle.std.specs.Option.{option_map}
use Rattle.world_model.specs.Book.{own_hold}
use Rattle.slot_vector.proofs.search.own_holds.Given as goal

abbrev pub invariant-loop-owner : goal.invariant-loop-owner
invariant-loop-owner l = record {
  holds : l.slots.items ≡ map (option_map own_hold) (take l.owner-index l.owners);
  count : length l.slots.items ≡ l.owner-index;
}
