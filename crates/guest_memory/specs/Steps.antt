-- Steps of a machine, one after another.
use Rattle.std.specs.Prelude.{◌≡◌, ◌<◌, ℕ, zero, suc, List, Option}
use Rattle.mips_exec.specs.declared.registers.Cpu.{Cpu}
use Rattle.mips_exec.specs.declared.exception.Outcome.TheVariants as outcome
use Rattle.mips_exec.specs.Step.{Step, cpu_after, outcome_of, write_after}
use Rattle.env_frames.specs.declared.mapping.Mapping.{Mapping}
use Rattle.guest_memory.specs.Look.{frames_after, guest_step}

-- what a step changes: the registers, and physical memory
pub record Machine : Type 0 where
  pub cpu : Cpu
  pub frames : List (List ℕ)

-- its next step, where VPNs lead by this look-up
abbrev pub next_step : (ℕ → Option Mapping) → Machine → Step
next_step lookup m = guest_step m.frames lookup m.cpu

abbrev pub stepped_by : (ℕ → Option Mapping) → Machine → Step → Machine
stepped_by lookup m step = record {
  cpu = cpu_after m.cpu step;
  frames = frames_after m.frames lookup (write_after step);
}

-- the machine after so many steps
abbrev pub after_steps : (ℕ → Option Mapping) → Machine → ℕ → Machine
after_steps lookup m zero = m
after_steps lookup m (suc k) = let n = after_steps lookup m k in stepped_by lookup n (next_step lookup n)

-- Each of the first steps, so many, retires.
pub record AllRetire (lookup : ℕ → Option Mapping) (m : Machine) (steps : ℕ) : Type 0 where
  pub each : (k : ℕ) → k < steps → outcome_of (next_step lookup (after_steps lookup m k)) ≡ outcome.Retired
