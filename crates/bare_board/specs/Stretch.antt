-- Plain ticks of the bare board, and stretches of them.
use Rattle.std.specs.Prelude.{◌≡◌, ◌+◌, ◌<◌, ℕ, false, None}
use Rattle.r3k_machine.specs.Machine.{user_step}
use Rattle.r3k_machine.specs.Steps.{Retires}
use Rattle.bare_board.specs.declared.board.Board.{Board}
use Rattle.bare_board.specs.Run.{Run, run_after}
use Rattle.bare_board.specs.Tick.{is_due, is_interrupted}

-- In so many ticks from this one on no interrupt becomes pending, and the board with which they begin takes none.
pub record AreCalm (period t : ℕ) (b : Board) (ticks : ℕ) : Type 0 where
  pub undue : (k : ℕ) → k < ticks → is_due period (t + k) ≡ false
  pub untaken : 0 < ticks → is_interrupted b ≡ false

-- The tick of this number is plain: no more than a step of the instruction table, which retires.
pub record IsPlain (period t : ℕ) (b : Board) : Type 0 where
  pub undue : is_due period t ≡ false
  pub untaken : is_interrupted b ≡ false
  pub retires : Retires (user_step b.machine b.frames)

-- a run that hasn't halted
abbrev pub going_on : Board → Run
going_on b = record { board = b; halt = None }

-- So many ticks from this one on lead from one board to another: a run that has come to the one goes on to the other.
pub record TicksLead (period t : ℕ) (old new : Board) (ticks : ℕ) : Type 0 where
  pub each : (first : Board) → run_after period first t ≡ going_on old
      → run_after period first (t + ticks) ≡ going_on new
