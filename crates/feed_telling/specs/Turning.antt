-- What the turn and the timer give.
use Rattle.std.specs.Prelude.{◌≡◌, ℕ, List, [], ◌∷◌, ◌++◌, Option, Some, None}
use Rattle.world_model.specs.declared.timer.Timer.{Timer}
use Rattle.world_model.specs.declared.timer.Timer.TheVariants as answer
use Rattle.world_model.specs.Book.{Book, running}
use Rattle.world_model.specs.Death.{death_items}
use Rattle.world_model.specs.Item.{Item, Start, End, Killed}
use Rattle.world_model.specs.Tick.{turn}
use Rattle.world_model.specs.World.{World, after, only}

-- what an answer of the timer's for the runner gives
abbrev pub given_by_timer : Book → ℕ → Timer → ℕ → List Item
given_by_timer b runner answer.Nothing e = []
given_by_timer b runner answer.End e = only runner (End ∷ []) e
given_by_timer b runner answer.Stop e = []
given_by_timer b runner (answer.Over excess) e = []
given_by_timer b runner answer.Kill e = only runner (Killed ∷ []) e ++ death_items b runner e

-- Where somebody ran before a turn, it gives nothing; else who runs behind it starts.
abbrev pub given_by_turn : Option ℕ → Option ℕ → ℕ → List Item
given_by_turn (Some before) behind e = []
given_by_turn None None e = []
given_by_turn None (Some runner) e = only runner (Start ∷ []) e

abbrev pub TurnGives : Type 0
TurnGives =
    (w : World) (e : ℕ)
    → (turn w).items e ≡ given_by_turn (running w.book.runner) (running (after w (turn w)).book.runner) e
