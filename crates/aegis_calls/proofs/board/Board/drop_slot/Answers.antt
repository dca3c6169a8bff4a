-- The slot is there and the runner's to drop, and whoever it is left to isn't dead.
use Rattle.std.proofs.Common.{◌≡◌, rules}
use Rattle.slot_vector.specs.Slices.{hold_at, with_hold}
use Rattle.world_model.specs.SlotCalls.{dropped}
use Rattle.board_model.proofs.Slots.{hold_here}
use Rattle.board_model.proofs.Sound.{drop_manned}
use Rattle.board_model.proofs.Staying.{sound_machine, sound_slots}
use Rattle.aegis_calls.proofs.board.Board.drop_slot.Goals as goal

-- the slot is dropped
is_dropped : (c : goal.After-push_slot) → c.drop_slot.new.self ≡ with_hold c.self.inside.slots c.args.slot (dropped c.args.env (hold_at c.self.inside.slots.slots c.args.slot))
is_dropped c = search rules

pub invariant_of-self : goal.invariant_of-self
invariant_of-self c = search (rules, is_dropped, sound_machine, sound_slots, drop_manned)

pub returns : goal.returns
returns c = search (rules, is_dropped, hold_here)
