use Rattle.std.proofs.Common.{◌≡◌, ◌<◌, ◌≤◌, ◌-◌, ◌^◌, drop, length}
use Rattle.slot_vector.specs.Slices.{mask_of}
use Rattle.slot_vector.proofs.search.mask_of.Given as goal

-- The mask so far is that of the slots from this one on.
abbrev pub invariant-loop-left : goal.invariant-loop-left
invariant-loop-left l = record {
  within : l.left ≤ length l.slots;
  so_far : l.mask ≡ mask_of l.env (drop l.left l.slots);
  fits : l.mask < 2 ^ (length l.slots - l.left);
}

abbrev pub decreases-loop-left : goal.decreases-loop-left
decreases-loop-left l = l.left
