use Rattle.std.proofs.Common.{◌≡◌, ◌++◌, ◌%◌, map}
use Rattle.std.specs.List.{range_with_len}
use Rattle.exos_text.proofs.image.push_slots.Given as goal

-- the owners of the slots so far
abbrev pub invariant-loop-slot : goal.invariant-loop-slot
invariant-loop-slot l = l.file.items ≡ l.fn.file.items ++ map (λ slot. slot % 16) (range_with_len 0 l.slot)
