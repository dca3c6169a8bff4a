-- What the holders owe, and how a forfeit lowers it.
use Rattle.std.proofs.Common.{arith, ap, ◌∙◌, ◌≡◌, ◌≢◌, ◌<◌, ℕ, List, length, Option, Some, slice_set}
use Rattle.std.proofs.lemmas.Grind.{common_steps}
use Rattle.world_model.specs.declared.hold.Hold.{Hold}
use Rattle.world_model.specs.declared.slot.Turn.{Turn}
use Rattle.world_model.specs.Table.{set_at}
use Rattle.world_model.specs.Book.{first_turn, excess_after_forfeit, owed}
use Rattle.world_model.proofs.Slots.{holder_in, owed_less}
use Rattle.slot_vector.specs.Slices.{excess_of}
use Rattle.slot_vector.proofs.Around.{turn_held}

-- an excess once that of one environment is another
excess_at : (all : List ℕ) (e excess : ℕ) → e < length all → (i : ℕ) → excess_of (slice_set all e excess) i ≡ set_at e excess (excess_of all) i
excess_at all e excess within i = grind (arith, common_steps)

pub excess_set : (all : List ℕ) (e excess : ℕ) → e < length all → excess_of (slice_set all e excess) ≡ set_at e excess (excess_of all)
excess_set all e excess within = λ i k. excess_at all e excess within k i

-- who owes is one of those who have an excess
pub owes_within : (all : List ℕ) (e : ℕ) → excess_of all e ≢ 0 → e < length all
owes_within all e owes = grind (arith, common_steps)

-- With the forfeit of a slot the holders owe less.
pub forfeit_falls : (excess : ℕ → ℕ) (slots : ℕ → Option Hold) (count cursor : ℕ) (t : Turn) → first_turn slots count cursor count ≡ Some t → excess t.env ≢ 0 → owed (excess_after_forfeit t.env excess) slots count < owed excess slots count
forfeit_falls excess slots count cursor t found owes =
    let there = turn_held slots count cursor count t (omega arith) found in
    owed_less t.env excess slots count t.slot there.within (ap holder_in there.held ∙ ap Some there.holds) (omega (arith, owes))
