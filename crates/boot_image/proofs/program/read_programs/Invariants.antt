-- The programs that were read, and those that are left.
use Rattle.std.proofs.Common.{◌≡◌, ◌≤◌, ◌-◌, ◌++◌, None, length, map}
use Rattle.boot_image.specs.ImageValue.{program_at, headers_from, bodies_end}
use Rattle.elf_static.specs.Faulting.{◌or_else◌}
use Rattle.boot_image.specs.ImageFaults.{first_fault, program_fault, mappings_fault}
use Rattle.boot_image.proofs.program.read_programs.Given as goal

-- The programs so far and those that are left are all of the file's, and the rest has the first fault.
abbrev pub invariant-loop : goal.invariant-loop
invariant-loop l = record {
  fault : first_fault (program_fault l.file) (headers_from (l.count - l.counter) l.file l.end) ≡ first_fault (program_fault l.file) (headers_from l.count l.file l.first);
  crowded : (l.crowded or_else first_fault (mappings_fault l.file) (headers_from (l.count - l.counter) l.file l.end)) ≡ first_fault (mappings_fault l.file) (headers_from l.count l.file l.first);
  list : l.crowded ≡ None → l.list.items ++ map (program_at l.file) (headers_from (l.count - l.counter) l.file l.end) ≡ map (program_at l.file) (headers_from l.count l.file l.first);
  last : bodies_end (l.count - l.counter) l.file l.end ≡ bodies_end l.count l.file l.first;
  within : l.end ≤ length l.file;
  count : length l.list.items ≤ l.counter;
}
