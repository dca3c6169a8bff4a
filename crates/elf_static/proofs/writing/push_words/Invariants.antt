use Rattle.std.proofs.Common.{◌≡◌, ◌++◌, drop}
use Rattle.elf_static.specs.Layout.{words}
use Rattle.elf_static.proofs.writing.push_words.Given as goal

abbrev pub invariant-loop-number : goal.invariant-loop-number
invariant-loop-number l = l.file.items ++ words (drop l.number-index l.numbers) ≡ l.fn.file.items ++ words l.numbers
