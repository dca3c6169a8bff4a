-- What a turn leaves.
use Rattle.std.specs.Prelude.{◌≡◌, ◌+◌, ℕ, None, Some}
use Rattle.world_model.specs.declared.hold.Hold.{Hold}
use Rattle.world_model.specs.declared.slot.Phase.TheVariants as phase
use Rattle.world_model.specs.declared.slot.Runner.{Runner}
use Rattle.world_model.specs.World.{World}
use Rattle.run_model.specs.Excess.{pays}
use Rattle.run_model.specs.Run.{System, at_step, at_turn}

-- An environment begins a quantum of own time in the cursor's slot, which it holds, and owes nothing.
pub record IsBegun (w : World) (r : Runner) : Type 0 where
  pub hold : Hold
  pub slot : w.book.slots w.book.cursor ≡ Some hold
  pub holds : hold.holder ≡ r.env
  pub left : r.left ≡ w.book.quantum
  pub phase : r.phase ≡ phase.Own
  pub owes : w.book.excess r.env ≡ 0

-- A turn leaves the slots. If somebody runs, it leaves all. If nobody does, who runs after it has begun so; and each
-- environment owes one less for each slot that it pays with, as the new rows say.
pub record IsTurn (v w : World) : Type 0 where
  pub slots : w.book.slots ≡ v.book.slots
  pub runs : (r : Runner) → v.book.runner ≡ Some r → w ≡ v
  pub begins : (r : Runner) → v.book.runner ≡ None → w.book.runner ≡ Some r → IsBegun w r
  pub paid : (e : ℕ) → pays e w.rows + w.book.excess e ≡ pays e v.rows + v.book.excess e

-- So does the turn of each tick.
abbrev pub TurnsLeave : Type 0
TurnsLeave = (system : System) (t : ℕ) → IsTurn (at_turn system t) (at_step system t)
