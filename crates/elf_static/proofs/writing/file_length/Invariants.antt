use Rattle.std.proofs.Common.{◌≡◌, ◌+◌, drop}
use Rattle.elf_static.specs.Layout.{file_length, bodies_length}
use Rattle.elf_static.specs.Seen.{parts_seen}
use Rattle.elf_static.proofs.writing.file_length.Given as goal

abbrev pub invariant-loop-part : goal.invariant-loop-part
invariant-loop-part l = l.length + bodies_length (parts_seen (drop l.part-index l.parts)) ≡ file_length (parts_seen l.parts)
