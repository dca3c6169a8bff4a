use Rattle.std.proofs.Common.{◌≡◌, ◌++◌}
use Rattle.std.specs.List.{flat_map}
use Rattle.line_text.specs.WrittenLine.{spaced}
use Rattle.machine_text.specs.Differences.{register_difference}
use Rattle.machine_text.specs.Series.{for_each}
use Rattle.machine_text.proofs.difference.push_registers.Given as goal

abbrev pub invariant-loop-place : goal.invariant-loop-place
invariant-loop-place l = l.out.items ≡ l.fn.out.items ++ flat_map spaced (for_each (register_difference l.before l.after) l.place)
