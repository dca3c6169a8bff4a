-- What an environment does alone in one step.
use Rattle.std.specs.Prelude.{ℕ, Bool, true, false, ◌==◌, if◌then◌else◌, Option, Some, None}
use Rattle.mips_exec.specs.declared.registers.Cpu.{Cpu}
use Rattle.mips_exec.specs.declared.exception.Exc.{Exc}
use Rattle.mips_exec.specs.Cpu.{reg}
use Rattle.mips_exec.specs.Step.{Step, Retired, Called, Trapped, step_of, view_of, cpu_after}
use Rattle.world_model.specs.declared.call.Call.{Call}
use Rattle.world_model.specs.declared.life.Cause.{Cause}
use Rattle.world_model.specs.declared.life.Cause.TheVariants as cause
use Rattle.world_model.specs.Call.{called, exit_number}
use Rattle.world_model.specs.Page.{answers_by}
use Rattle.world_model.specs.Solo.{Solo, Store, sight, store_of, with_store, dead}
use Rattle.world_model.specs.Upcalls.{raise}

-- what the step of its machine comes to
abbrev pub step_alone : Solo → Step
step_alone s = step_of s.cpu (view_of (answers_by (sight s)) s.cpu)

-- what the environment does to the world
pub data Act : Type 0 where
  Nothing : Act
  Stores : (store : Store) → Act
  -- a kernel call, which leaves its caller as it is until it is answered
  Calls : (call : Option Call) → Act
  -- an exception, which its handler gets
  Raises : (exc : Exc) → Act
  Dies : (cause : Cause) → Act

abbrev pub store_act : Option Store → Act
store_act None = Nothing
store_act (Some x) = Stores x

-- exit is its caller's death
abbrev pub act_at_call : Cpu → Bool → Act
act_at_call cpu true = Dies (cause.Exit (reg cpu 4))
act_at_call cpu false = Calls (called cpu)

abbrev pub call_act : Cpu → Act
call_act cpu = act_at_call cpu (reg cpu 2 == exit_number)

-- a trap is its death, where it has no handler of exceptions
abbrev pub trap_act : ℕ → Exc → Act
trap_act handler exc = if handler == 0 then Dies (cause.Trapped exc.code) else Raises exc

abbrev pub act_of : Solo → Step → Act
act_of s (Retired after write) = store_act (store_of s write)
act_of s Called = call_act s.cpu
act_of s (Trapped exc) = trap_act s.handlers.exception exc

-- the environment after its act
abbrev pub acted : Act → Solo → Solo
acted Nothing s = s
acted (Stores x) s = with_store x s
acted (Calls call) s = s
acted (Raises exc) s = raise exc s
acted (Dies cause) s = dead cause s

-- the environment after a step
abbrev pub stepped : Solo → Step → Solo
stepped s step = acted (act_of s step) (record s { cpu = cpu_after s.cpu step })
