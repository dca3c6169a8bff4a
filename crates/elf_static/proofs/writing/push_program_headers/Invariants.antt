use Rattle.std.proofs.Common.{◌≡◌, ◌+◌, ◌<◌, ◌^◌, ◌++◌, drop}
use Rattle.elf_static.specs.Layout.{bytes_start, bodies_length, program_headers}
use Rattle.elf_static.specs.Seen.{parts_seen}
use Rattle.elf_static.proofs.writing.push_program_headers.Given as goal

-- the headers that stand, and those of the parts that are left, are all of them
abbrev pub invariant-loop-part : goal.invariant-loop-part
invariant-loop-part l = record {
  room : l.offset + bodies_length (parts_seen (drop l.part-index l.parts)) < 2 ^ 27;
  text :
      l.file.items ++ program_headers l.offset (parts_seen (drop l.part-index l.parts))
      ≡ l.fn.file.items ++ program_headers (bytes_start (parts_seen l.parts)) (parts_seen l.parts);
}
