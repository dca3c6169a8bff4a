-- A run of the machine in user mode: steps one after another, between which its rows and its mode stay.
use Rattle.std.specs.Prelude.{◌≡◌, ℕ, ◌<◌, ◌≤◌, false, List, length, IfSome, IsSome, None, Some}
use Rattle.mips_exec.specs.declared.exception.Exc.{Exc}
use Rattle.mips_exec.specs.Step.{outcome_of}
use Rattle.mips_step.specs.WordStep.{has_retired}
use Rattle.r3k_machine.specs.declared.machine.Machine.{Machine}
use Rattle.r3k_machine.specs.declared.machine.MachineEnd.TheVariants as ends
use Rattle.r3k_machine.specs.declared.run.Steps.{Steps}
use Rattle.r3k_machine.specs.Entry.{came_by, next_entry}
use Rattle.r3k_machine.specs.Machine.{after_attempts, end_of, user_step}
use Rattle.r3k_machine.specs.Steps.{Running, RowStepsRetire, after_row_steps, wanted_behind}

-- the registers of a machine, and the memory over which it runs
abbrev pub running_on : Machine → List (List ℕ) → Running
running_on m frames = record { cpu = m.cpu; frames = frames }

-- The machine made steps, at most as many as were asked for, each of which retired. It stopped before only where the next
-- wouldn't retire, and what that asks of memory, or by what it enters the kernel, is told.
pub record IsRun (old new : Machine) (before now : List (List ℕ)) (asked : ℕ) (steps : Steps) : Type 0 where
  pub machine : running_on new now ≡ after_row_steps old.cp0 old.tlb (running_on old before) steps.made
  pub retire : RowStepsRetire old.cp0 old.tlb (running_on old before) steps.made
  pub most : steps.made ≤ asked
  pub stop : steps.made < asked → has_retired (user_step new now) ≡ false
  pub wanted : steps.wanted ≡ wanted_behind steps.made asked new.cp0 new.tlb (running_on new now)
  pub missed : (exc : Exc) → steps.made < asked
      → end_of new.cp0 new.tlb (outcome_of (user_step new now)) ≡ ends.Refill exc
      → steps.wanted ≡ Some exc.bad
  pub entry : steps.entry ≡ next_entry steps.made asked (user_step new now)
  pub came : IfSome steps.entry (λ e. user_step new now ≡ came_by e)
  pub apart : IsSome steps.wanted → steps.entry ≡ None
  pub size : length now ≡ length before
  pub rows : new.tlb ≡ old.tlb
  pub cp0 : new.cp0 ≡ after_attempts steps.made old.cp0
