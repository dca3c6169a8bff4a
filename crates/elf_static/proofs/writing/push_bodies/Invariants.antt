use Rattle.std.proofs.Common.{◌≡◌, ◌++◌, drop}
use Rattle.elf_static.specs.Layout.{bodies}
use Rattle.elf_static.specs.Seen.{parts_seen}
use Rattle.elf_static.proofs.writing.push_bodies.Given as goal

abbrev pub invariant-loop-part : goal.invariant-loop-part
invariant-loop-part l = l.file.items ++ bodies (parts_seen (drop l.part-index l.parts)) ≡ l.fn.file.items ++ bodies (parts_seen l.parts)
