-- Whether an environment is quiet, tick by tick.
use Rattle.std.specs.Prelude.{◌≡◌, ◌↔◌, ℕ, zero, suc, Bool, true, not, ◌==◌, ◌&&◌, ◌||◌}
use Rattle.std.specs.List.{list_any}
use Rattle.mips_exec.specs.declared.registers.Cpu.{Cpu}
use Rattle.world_model.specs.Book.{is_runner}
use Rattle.world_model.specs.Step.{Act, Calls}
use Rattle.world_model.specs.Tick.{act_now}
use Rattle.world_model.specs.World.{World}
use Rattle.run_model.specs.Boot.{boot_world}
use Rattle.run_model.specs.Run.{System, at_step}
use Rattle.quiet_law.specs.Alone.{is_quiet_call}
use Rattle.quiet_law.specs.Quiet.{IsQuiet, is_asking}

-- an act that isn't a call is quiet
abbrev pub is_quiet_act : Cpu → Act → Bool
is_quiet_act cpu (Calls call) = is_quiet_call cpu call
is_quiet_act cpu act = true

-- an environment doesn't run, or its act is quiet
abbrev pub acts_quietly : ℕ → World → Bool
acts_quietly e w = not (is_runner e w.book.runner) || is_quiet_act (w.solos e).cpu (act_now w e)

-- in a tick it acts quietly, and nobody asks it for pages
abbrev pub is_quiet_in : System → ℕ → ℕ → Bool
is_quiet_in system e u = acts_quietly e (at_step system u) && not (list_any (is_asking e) (system.schedule u))

-- at boot it accepts nobody, and so it is in each tick below t
abbrev pub is_quiet_so_far : System → ℕ → ℕ → Bool
is_quiet_so_far system e zero = ((boot_world system.image).solos e).mask == 0
is_quiet_so_far system e (suc t) = is_quiet_so_far system e t && is_quiet_in system e t

-- This decides whether it is quiet.
abbrev pub QuietIsDecided : Type 0
QuietIsDecided = (system : System) (e t : ℕ) → (is_quiet_so_far system e t ≡ true) ↔ IsQuiet system e t
