-- What an instruction's step leaves, by what the instruction does.
use Rattle.std.proofs.Common.{◌≡◌, Option, rules}
use Rattle.mips_exec.specs.declared.registers.Cpu.{Cpu}
use Rattle.mips_exec.specs.Access.{Write}
use Rattle.mips_exec.specs.declared.change.Change.{Change}
use Rattle.mips_exec.specs.Effect.{changed}
use Rattle.mips_exec.specs.Step.{cpu_after, ended, outcome_of, report_of}
use Rattle.mips_step.specs.WordStep.{has_retired, is_retired}

pub cpu_ended : (c : Cpu) (e : Change) (w : Option Write) → cpu_after c (ended c e w) ≡ changed c e
cpu_ended c e w = search rules

pub outcome_ended : (c : Cpu) (e : Change) (w : Option Write) → outcome_of (ended c e w) ≡ report_of e
outcome_ended c e w = search rules

pub retired_ended : (c : Cpu) (e : Change) (w : Option Write) → has_retired (ended c e w) ≡ is_retired (report_of e)
retired_ended c e w = search rules
