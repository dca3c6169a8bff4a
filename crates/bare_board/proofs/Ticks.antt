-- A run that has halted.
use Rattle.std.proofs.Common.{arith, refl, ◌≡◌, ◌+◌, ◌≤◌, ◌-◌, ℕ, zero, suc, true, Some, None, add-one}
use Rattle.bare_board.specs.declared.board.Board.{Board}
use Rattle.bare_board.specs.Run.{run_after}
use Rattle.bare_board.specs.Tick.{ticked}

-- the board halts in this tick
halts_here : (period t : ℕ) (b now after : Board) → run_after period b t ≡ record { board = now; halt = None } → record { board = after; halted = true } ≡ ticked period t now
    → run_after period b (t + 1) ≡ record { board = after; halt = Some t }
halts_here period t b now after so_far tick = rw (add-one, so_far, ← tick) refl

stays : (period t n k : ℕ) (b now : Board) → run_after period b n ≡ record { board = now; halt = Some t } → run_after period b (n + k) ≡ record { board = now; halt = Some t }
stays period t n zero b now is = let same : n + 0 ≡ n = omega arith in rw same is
stays period t n (suc k) b now is = let next : n + suc k ≡ suc (n + k) = omega arith in rw (next, stays period t n k b now is) refl

-- the board halts in this tick, and stays so to the end
pub halts : (period t ticks : ℕ) (b now after : Board) → t + 1 ≤ ticks → run_after period b t ≡ record { board = now; halt = None } → record { board = after; halted = true } ≡ ticked period t now
    → record { board = after; halt = Some t } ≡ run_after period b ticks
halts period t ticks b now after before so_far tick =
    let rest : t + 1 + (ticks - (t + 1)) ≡ ticks = omega arith in
    let end = stays period t (t + 1) (ticks - (t + 1)) b after (halts_here period t b now after so_far tick) in
    rw (← rest, end) refl
