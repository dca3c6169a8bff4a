-- What a turn gives.
use Rattle.std.proofs.Common.{◌≡◌, ℕ, Option, None, Some, refl, sym, ap}
use Rattle.world_model.specs.declared.slot.Runner.{Runner}
use Rattle.world_model.specs.declared.slot.Turn.{Turn}
use Rattle.world_model.specs.Book.{WholeTurn, running, whole_turn}
use Rattle.world_model.specs.Tick.{turn_when, take_turn}
use Rattle.world_model.specs.World.{World}
use Rattle.feed_telling.specs.Turning.{TurnGives, given_by_turn}

-- a turn gives the start to whom it lets run
by_turn : (w : World) (i : ℕ) (told : WholeTurn) (t : Option Turn) → w.book.runner ≡ None
    → (take_turn w told t).items i ≡ given_by_turn None (running (take_turn w told t).book.runner) i
by_turn w i told None nobody = ap (λ (o : Option Runner). given_by_turn None (running o) i) (sym nobody)
by_turn w i told (Some t) nobody = refl

turn_by : (w : World) (i : ℕ) (o : Option Runner) → w.book.runner ≡ o
    → (turn_when w o).items i ≡ given_by_turn (running o) (running (turn_when w o).book.runner) i
turn_by w i None is = by_turn w i (whole_turn w.book) (whole_turn w.book).runs is
turn_by w i (Some r) is = refl

pub turn_gives : TurnGives
turn_gives w e = turn_by w e w.book.runner refl
