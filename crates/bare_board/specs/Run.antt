-- A run of the bare board, tick by tick.
use Rattle.std.specs.Prelude.{ℕ, zero, suc, if◌then◌else◌, List, Option, Some, None}
use Rattle.bare_board.specs.declared.board.Board.{Board}
use Rattle.bare_board.specs.declared.ending.BareEnd.{BareEnd}
use Rattle.bare_board.specs.declared.ending.BareEnd.TheVariants.{Halt, Limit}
use Rattle.bare_board.specs.Text.{run_text}
use Rattle.bare_board.specs.Tick.{Ticked, board_of, ticked}

-- a board, and if it has halted, the ticks done before
pub record Run : Type 0 where
  pub board : Board
  pub halt : Option ℕ

abbrev pub after_tick : ℕ → Ticked → Run
after_tick t k = record { board = k.board; halt = if k.halted then Some t else None }

-- a board that has halted stays
abbrev pub next_run : ℕ → ℕ → Board → Option ℕ → Run
next_run period t b (Some at) = record { board = b; halt = Some at }
next_run period t b None = after_tick t (ticked period t b)

-- the run after so many ticks
abbrev pub run_after : ℕ → Board → ℕ → Run
run_after period b zero = record { board = b; halt = None }
run_after period b (suc t) = let run = run_after period b t in next_run period t run.board run.halt

abbrev pub how_ended : Option ℕ → BareEnd
how_ended None = Limit
how_ended (Some at) = Halt

abbrev pub ticks_before : ℕ → Option ℕ → ℕ
ticks_before ticks None = ticks
ticks_before ticks (Some at) = at

-- the text of a run of at most so many ticks
unfoldable pub text_of_run : ℕ → Run → List ℕ
text_of_run ticks run =
    run_text (how_ended run.halt) (ticks_before ticks run.halt) run.board.machine.cpu run.board.machine.cp0
    run.board.machine.tlb run.board.frames

-- the text of a file's run of at most so many ticks, with interrupts by this period
unfoldable pub bare_text_of : List ℕ → ℕ → ℕ → List ℕ
bare_text_of file ticks period = text_of_run ticks (run_after period (board_of file) ticks)
