-- A tick of the bare board in user mode.
use Rattle.std.specs.Prelude.{◌≡◌, ◌⊎◌, ℕ, suc, true, List, None}
use Rattle.r3k_cp0.specs.Registers.{is_user}
use Rattle.r3k_machine.specs.declared.machine.Machine.{Machine}
use Rattle.r3k_machine.specs.Machine.{after_attempts}
use Rattle.bare_board.specs.Run.{Run, run_after}
use Rattle.bare_board.specs.Tick.{board_of}
use Rattle.machine_laws.specs.Confined.{AreKeptButOpen}
use Rattle.machine_laws.specs.Entered.{IsEntered}

-- An instruction of the user's: it leaves all rows, the registers of coprocessor 0, of which Random falls, and all
-- pages but those that are open to the user.
pub record IsUsersStep (old new : Machine) (before after : List (List ℕ)) : Type 0 where
  pub rows : new.tlb ≡ old.tlb
  pub system : new.cp0 ≡ after_attempts 1 old.cp0
  pub pages : AreKeptButOpen old before after

-- The kernel is entered, and memory stays.
pub record IsKernelEntry (old new : Machine) (before after : List (List ℕ)) : Type 0 where
  pub entered : IsEntered old new
  pub memory : after ≡ before

-- The tick is one or the other.
abbrev pub IsUsersAct : Machine → Machine → List (List ℕ) → List (List ℕ) → Type 0
IsUsersAct old new before after = IsUsersStep old new before after ⊎ IsKernelEntry old new before after

-- and the board goes on
pub record IsUsersTick (old new : Run) : Type 0 where
  pub runs : new.halt ≡ None
  pub what : IsUsersAct old.board.machine new.board.machine old.board.frames new.board.frames

-- So is each tick of each run that begins in user mode.
abbrev pub UsersEnterByVectors : Type 0
UsersEnterByVectors =
    (file : List ℕ) (period t : ℕ)
    → (let old = run_after period (board_of file) t in
    old.halt ≡ None → is_user old.board.machine.cp0 ≡ true → IsUsersTick old (run_after period (board_of file) (suc t)))
