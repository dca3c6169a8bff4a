-- The rows of every run tell who runs, in which slot and until when, whose the slots are, and what is owed.
use Rattle.std.specs.Prelude.{◌≡◌, ℕ, ◌+◌, false, None, Some}
use Rattle.boot_image.specs.Accepted.{IsAccepted}
use Rattle.world_model.specs.declared.slot.Runner.{Runner}
use Rattle.world_model.specs.Book.{running}
use Rattle.world_model.specs.World.{World}
use Rattle.run_model.specs.Excess.{Lives}
use Rattle.run_model.specs.Run.{System, world_after}
use Rattle.ledger_audit.specs.LedgerState.{LedgerState, excess_in, limit_in, state_after}

-- The state of the rules has the world's runner in its slot and its phase, and the tick in which its quantum ends.
pub record TellsRunner (quantum : ℕ) (s : LedgerState) (w : World) (r : Runner) : Type 0 where
  pub env : s.runner ≡ Some r.env
  pub slot : s.cursor ≡ w.book.cursor
  pub phase : s.phase ≡ r.phase
  pub limit : limit_in quantum s + 1 ≡ w.book.time + r.left

-- The state of the rules is the world's: the vector of slots, who runs, the tick of the next turn where nobody does, and of
-- whoever lives that it does, and what it owes.
pub record Tells (quantum : ℕ) (s : LedgerState) (w : World) : Type 0 where
  pub slots : s.slots ≡ w.book.slots
  pub runner : s.runner ≡ running w.book.runner
  pub runs : (r : Runner) → w.book.runner ≡ Some r → TellsRunner quantum s w r
  pub turn : w.book.runner ≡ None → s.turn ≡ w.book.time
  pub lives : (e : ℕ) → Lives w e → s.dead e ≡ false
  pub excess : (e : ℕ) → Lives w e → excess_in s e ≡ w.book.excess e

-- for every image within its limits, every schedule and every number of ticks
abbrev pub LedgerTells : Type 0
LedgerTells = (system : System) (t : ℕ) → IsAccepted system.image →
    let w = world_after system t in Tells system.image.quantum (state_after w.rows) w
