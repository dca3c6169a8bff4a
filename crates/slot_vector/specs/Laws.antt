-- How the whole turn, which the model tells at once, is made of what comes next, again and again.
use Rattle.std.specs.Prelude.{◌≡◌, ◌↔◌, ◌<◌, ◌+◌, ℕ, List, [], length, Some, None, slice_set, sum_by}
use Rattle.world_model.specs.declared.slot.Turn.{Turn}
use Rattle.world_model.specs.Table.{set_at}
use Rattle.world_model.specs.Book.{nobodys, pays_first}
use Rattle.slot_vector.specs.declared.turn.NextTurn.TheVariants as next
use Rattle.slot_vector.specs.Slices.{Slices, after_turn, excess_of, next_held, next_turn, whole_turn_of}

-- A forfeit comes first in the turn, and the rest of the turn is that of the vector after it.
abbrev pub ForfeitComesFirst : Type 0
ForfeitComesFirst =
    (v : Slices) (t : Turn) → next_turn v ≡ next.Pay t
    → whole_turn_of v ≡ pays_first t (whole_turn_of (after_turn v (next.Pay t)))

-- what all environments owe together
abbrev pub owed_by_all : Slices → ℕ
owed_by_all v = sum_by (λ n. n) v.excess

-- With each forfeit they owe one quantum less.
abbrev pub ForfeitLowersOwed : Type 0
ForfeitLowersOwed =
    (v : Slices) (t : Turn) → next_turn v ≡ next.Pay t → owed_by_all v ≡ owed_by_all (after_turn v (next.Pay t)) + 1

-- A run ends the turn, and nothing is forfeited before it.
abbrev pub RunEndsTurn : Type 0
RunEndsTurn =
    (v : Slices) (t : Turn) → next_turn v ≡ next.Run t
    → whole_turn_of v ≡ record { pays = []; runs = Some t; excess = excess_of v.excess; cursor = t.slot }

-- Where nobody is next, the turn is nobody's.
abbrev pub IdleIsNobodys : Type 0
IdleIsNobodys = (v : Slices) → next_turn v ≡ next.Idle → whole_turn_of v ≡ nobodys v.cursor (excess_of v.excess)

-- The turn runs nobody exactly where no slot is held.
abbrev pub RunsNobodyWhereNoneHeld : Type 0
RunsNobodyWhereNoneHeld = (v : Slices) → ((whole_turn_of v).runs ≡ None) ↔ (next_held v ≡ None)

-- Another excess of one environment changes that of no other.
abbrev pub ExcessSetsOne : Type 0
ExcessSetsOne =
    (all : List ℕ) (e excess : ℕ) → e < length all
    → excess_of (slice_set all e excess) ≡ set_at e excess (excess_of all)
