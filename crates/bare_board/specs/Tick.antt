-- The bare board, and what a tick does to it.
use Rattle.std.specs.Prelude.{ℕ, ◌%◌, Bool, true, false, not, ◌==◌, ◌&&◌, ◌||◌, nat_lt, if◌then◌else◌, List}
use Rattle.mips_exec.specs.declared.exception.Exc.{Exc}
use Rattle.mips_exec.specs.declared.exception.ExcCode.{ExcCode}
use Rattle.mips_exec.specs.declared.exception.ExcCode.TheVariants as code
use Rattle.mips_exec.specs.Exception.{plain}
use Rattle.r3k_cp0.specs.declared.registers.Cp0.{Cp0}
use Rattle.r3k_cp0.specs.Registers.{is_user, takes_interrupts}
use Rattle.r3k_machine.specs.declared.machine.MachineEnd.{MachineEnd}
use Rattle.r3k_machine.specs.declared.machine.MachineEnd.TheVariants as ends
use Rattle.mips_exec.specs.Cpu.{going_on_at}
use Rattle.r3k_machine.specs.Exceptions.{in_exception, interrupted}
use Rattle.r3k_machine.specs.Machine.{blank_machine, end_of}
use Rattle.r3k_machine.specs.System.{MachineStep, machine_step, with_random_fallen}
use Rattle.bare_board.specs.declared.board.Board.{Board}
use Rattle.bare_board.specs.Loading.{loaded}

-- where the first instruction is
abbrev pub entry : ℕ
entry = 0x80000100

-- the board on which a file is about to run
abbrev pub board_of : List ℕ → Board
board_of file = record {
  machine = record blank_machine { cpu = going_on_at blank_machine.cpu entry };
  frames = loaded file;
  pending = false;
}

-- what a tick leaves: the board, and whether it has halted
pub record Ticked : Type 0 where
  pub board : Board
  pub halted : Bool

abbrev pub going : Board → Ticked
going b = record { board = b; halted = false }

-- an interrupt is due at each multiple of the period above 0; with a period of 0 there is none
abbrev pub is_due : ℕ → ℕ → Bool
is_due period t = nat_lt 0 period && nat_lt 0 t && t % period == 0

-- an interrupt that is due is pending until it is taken
abbrev pub with_due : ℕ → ℕ → Board → Board
with_due period t b = record b { pending = b.pending || is_due period t }

-- the board once an exception is entered
abbrev pub entering : Exc → Board → Board
entering exc b = record b { machine = in_exception b.machine exc }

abbrev pub is_breakpoint : ExcCode → Bool
is_breakpoint code.Bp = true
is_breakpoint _ = false

-- a BREAK in kernel mode halts the board, and each other trap is an exception
abbrev pub after_trap : Cp0 → Exc → Board → Ticked
after_trap cp0 exc b =
    if is_breakpoint exc.code && not (is_user cp0) then record { board = b; halted = true } else going (entering exc b)

-- a step of the machine ended so: a call is the exception Sys
abbrev pub after_end : MachineEnd → Board → Ticked
after_end ends.Retired b = going b
after_end ends.Call b = going (entering (plain code.Sys) b)
after_end (ends.Trap exc) b = after_trap b.machine.cp0 exc b
after_end (ends.Refill exc) b = going (entering exc b)

abbrev pub with_step : MachineStep → Board → Board
with_step s b = record b { machine = with_random_fallen s.machine; frames = s.frames }

-- the machine makes a step
abbrev pub after_step : Board → Ticked
after_step b =
    let s = machine_step b.machine b.frames
    in after_end (end_of b.machine.cp0 b.machine.tlb s.outcome) (with_step s b)

-- an interrupt is pending, and taken
abbrev pub is_interrupted : Board → Bool
is_interrupted b = b.pending && takes_interrupts b.machine.cp0

abbrev pub after_interrupt : Board → Board
after_interrupt b = record b { machine = interrupted b.machine; pending = false }

-- an interrupt is the whole tick; else it is a step
abbrev pub acted : Board → Ticked
acted b = if is_interrupted b then going (after_interrupt b) else after_step b

-- the tick of this number
unfoldable pub ticked : ℕ → ℕ → Board → Ticked
ticked period t b = acted (with_due period t b)
