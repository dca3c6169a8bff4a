-- A tick of the bare board in user mode: by how the step of the machine ends.
use Rattle.std.proofs.Common.{◌≡◌, ℕ, List, Bool, true, false, Option, None, Some, inl, inr, refl, sym, subst}
use Rattle.std.specs.Prelude.{◌&&◌, not, if◌then◌else◌}
use Rattle.mips_exec.specs.declared.exception.Exc.{Exc}
use Rattle.mips_exec.specs.declared.exception.ExcCode.TheVariants.{Int, Sys}
use Rattle.mips_exec.specs.Exception.{is_miss, plain}
use Rattle.mips_exec.specs.Step.{Step, Retired, Called, Trapped}
use Rattle.r3k_cp0.specs.Registers.{is_user}
use Rattle.r3k_machine.specs.declared.machine.Machine.{Machine}
use Rattle.r3k_machine.specs.declared.machine.MachineEnd.TheVariants as ends
use Rattle.r3k_machine.specs.Exceptions.{in_exception}
use Rattle.r3k_machine.specs.Machine.{end_of, is_unfit, user_step}
use Rattle.r3k_machine.specs.Memory.{frames_written}
use Rattle.r3k_machine.specs.System.{MachineStep, table_step, with_random_fallen}
use Rattle.bare_board.specs.Run.{Run, next_run, run_after}
use Rattle.bare_board.specs.Tick.{Ticked, after_end, after_interrupt, after_step, board_of, entering, going, is_breakpoint, is_interrupted, ticked, with_due, with_step}
use Rattle.machine_laws.specs.Ticks.{IsUsersAct, IsUsersTick, UsersEnterByVectors}
use Rattle.machine_laws.proofs.Confining.{users_step, written}
use Rattle.machine_laws.proofs.Entering.{enters}

-- what a tick leaves of a machine and of memory
record IsAct (m : Machine) (frames : List (List ℕ)) (now : Ticked) : Type 0 where
  runs : now.halted ≡ false
  what : IsUsersAct m now.board.machine frames now.board.frames

none_written : (m : Machine) (frames : List (List ℕ)) → frames_written m.cp0 m.tlb frames None ≡ frames
unfolding frames_written
none_written m frames = refl

-- an exception of a machine whose Random has fallen
fallen_entry : (m new : Machine) (frames after : List (List ℕ)) (exc : Exc) → new ≡ in_exception (with_random_fallen m) exc → after ≡ frames → IsUsersAct m new frames after
fallen_entry m new frames after exc is same =
    let e = enters (with_random_fallen m) exc in
    subst (λ (n : Machine). IsUsersAct m n frames after) (sym is)
    (inr (record { entered = record { at = e.at; kernel = e.kernel; modes = e.modes; back = e.back; rows = e.rows }; memory = same }))

by_trap : (r : Run) (exc : Exc) (breaks user : Bool) → user ≡ true
    → (let b = with_step (table_step r.board.machine r.board.frames (Trapped exc)) r.board in
    IsAct r.board.machine r.board.frames (if breaks && not user then record { board = b; halted = true } else going (entering exc b)))
by_trap r exc true true is = record { runs = refl; what = fallen_entry r.board.machine _ r.board.frames _ exc refl (none_written r.board.machine r.board.frames) }
by_trap r exc false true is = record { runs = refl; what = fallen_entry r.board.machine _ r.board.frames _ exc refl (none_written r.board.machine r.board.frames) }
by_trap r exc breaks false is = cc

by_miss : (r : Run) (exc : Exc) (misses : Bool) → is_user r.board.machine.cp0 ≡ true
    → (let b = with_step (table_step r.board.machine r.board.frames (Trapped exc)) r.board in
    IsAct r.board.machine r.board.frames (after_end (if misses then ends.Refill exc else ends.Trap exc) b))
by_miss r exc true user = record { runs = refl; what = fallen_entry r.board.machine _ r.board.frames _ exc refl (none_written r.board.machine r.board.frames) }
by_miss r exc false user = by_trap r exc (is_breakpoint exc.code) (is_user r.board.machine.cp0) user

by_step : (r : Run) (step : Step) → is_user r.board.machine.cp0 ≡ true
    → (let s = table_step r.board.machine r.board.frames step in
    IsAct r.board.machine r.board.frames (after_end (end_of r.board.machine.cp0 r.board.machine.tlb s.outcome) (with_step s r.board)))
by_step r (Retired cpu write) user = record { runs = refl; what = inl (record { rows = refl; system = refl; pages = written r.board.machine r.board.frames user write }) }
by_step r Called user = record { runs = refl; what = fallen_entry r.board.machine _ r.board.frames _ (plain Sys) refl (none_written r.board.machine r.board.frames) }
by_step r (Trapped exc) user = by_miss r exc (is_miss exc.code && is_unfit r.board.machine.cp0 r.board.machine.tlb exc.bad) user

stepped : (r : Run) → is_user r.board.machine.cp0 ≡ true → IsAct r.board.machine r.board.frames (after_step r.board)
stepped r user =
    let m = r.board.machine in
    subst (λ (s : MachineStep). IsAct m r.board.frames (after_end (end_of m.cp0 m.tlb s.outcome) (with_step s r.board))) (sym (users_step m r.board.frames user))
    (by_step r (user_step m r.board.frames) user)

interrupts : (r : Run) → IsAct r.board.machine r.board.frames (going (after_interrupt r.board))
interrupts r =
    let e = enters r.board.machine (plain Int) in
    record { runs = refl; what = inr (record { entered = record { at = e.at; kernel = e.kernel; modes = e.modes; back = e.back; rows = e.rows }; memory = refl }) }

by_interrupt : (r : Run) (taken : Bool) → is_user r.board.machine.cp0 ≡ true → IsAct r.board.machine r.board.frames (if taken then going (after_interrupt r.board) else after_step r.board)
by_interrupt r true user = interrupts r
by_interrupt r false user = stepped r user

tick_acts : (period t : ℕ) (r : Run) → is_user r.board.machine.cp0 ≡ true → IsAct r.board.machine r.board.frames (ticked period t r.board)
unfolding ticked
tick_acts period t r user =
    let due = with_due period t r.board in
    by_interrupt (record { board = due; halt = None }) (is_interrupted due) user

goes_on : (t : ℕ) (halted : Bool) → halted ≡ false → (if halted then Some t else None) ≡ None
goes_on t true is = cc
goes_on t false is = refl

pub users_tick : UsersEnterByVectors
users_tick file period t going user =
    let old = run_after period (board_of file) t in
    let k = ticked period t old.board in
    let act = tick_acts period t old user in
    subst (λ (halt : Option ℕ). IsUsersTick old (next_run period t old.board halt)) (sym going)
    (record { runs = goes_on t k.halted act.runs; what = act.what })
