-- What the next turn is, without a search.
use Rattle.std.specs.Prelude.{ℕ, ◌≡◌, ◌≤◌, ◌<◌, ◌+◌, ◌%◌, Option, None, Some}
use Rattle.std.specs.Option.{option_map}
use Rattle.world_model.specs.declared.hold.Hold.{Hold}
use Rattle.world_model.specs.declared.slot.Turn.{Turn}
use Rattle.world_model.specs.Book.{Book}

-- the slot that stands so many slots after the cursor, in circular order
abbrev pub slot_after : Book → ℕ → ℕ
slot_after b steps = (b.cursor + steps) % b.slot_count

-- the environment holds the slot, which stands after the cursor, at the farthest once around, and every slot between
-- them is empty
pub record IsNextHeld (b : Book) (slot e : ℕ) : Type 0 where
  pub held : option_map (λ (h : Hold). h.holder) (b.slots slot) ≡ Some e
  pub steps : ℕ
  pub steps_least : 1 ≤ steps
  pub steps_most : steps ≤ b.slot_count
  pub stands : slot ≡ slot_after b steps
  pub between : (j : ℕ) → 1 ≤ j → j < steps → b.slots (slot_after b j) ≡ None

-- the turn is the next held slot's, and nobody's where every slot is empty
abbrev pub IsNextTurn : Book → Option Turn → Type 0
IsNextTurn b None = (k : ℕ) → k < b.slot_count → b.slots k ≡ None
IsNextTurn b (Some t) = IsNextHeld b t.slot t.env
