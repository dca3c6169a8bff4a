use Rattle.std.proofs.Common.{◌≡◌, ◌++◌, drop}
use Rattle.elf_static.specs.Layout.{halves}
use Rattle.elf_static.proofs.writing.push_halves.Given as goal

abbrev pub invariant-loop-number : goal.invariant-loop-number
invariant-loop-number l = l.file.items ++ halves (drop l.number-index l.numbers) ≡ l.fn.file.items ++ halves l.numbers
