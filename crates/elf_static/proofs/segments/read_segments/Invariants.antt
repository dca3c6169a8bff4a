use Rattle.std.proofs.Common.{◌≡◌, ◌≤◌, ◌+◌, ◌*◌, ◌-◌, ◌++◌, [], length}
use Rattle.elf_static.specs.ElfValue.{headers_from, segments_of}
use Rattle.elf_static.specs.ElfFaults.{headers_fault}
use Rattle.elf_static.specs.SegmentSeen.{segments_seen}
use Rattle.elf_static.proofs.segments.read_segments.Given as goal

-- The segments so far and those of the headers that are left are all of the file's, and the rest has the
-- first fault.
abbrev pub invariant-loop : goal.invariant-loop
invariant-loop l = record {
  fault : headers_fault l.file (segments_seen l.segments.items) (headers_from (l.fn.table.count - l.counter) l.header)
      ≡ headers_fault l.file [] (headers_from l.fn.table.count l.fn.table.first);
  list : segments_seen l.segments.items ++ segments_of l.file (headers_from (l.fn.table.count - l.counter) l.header)
      ≡ segments_of l.file (headers_from l.fn.table.count l.fn.table.first);
  place : l.header ≡ l.fn.table.first + 32 * l.counter;
  few : length l.segments.items ≤ l.counter;
}
