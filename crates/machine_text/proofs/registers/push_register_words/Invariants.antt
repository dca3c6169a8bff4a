use Rattle.std.proofs.Common.{◌≡◌, ◌++◌}
use Rattle.std.specs.List.{flat_map}
use Rattle.line_text.specs.WrittenLine.{spaced}
use Rattle.machine_text.specs.Registers.{register_word}
use Rattle.machine_text.specs.Series.{for_each}
use Rattle.machine_text.proofs.registers.push_register_words.Given as goal

abbrev pub invariant-loop-place : goal.invariant-loop-place
invariant-loop-place l = l.out.items ≡ l.fn.out.items ++ flat_map spaced (for_each (register_word l.cpu) l.place)
