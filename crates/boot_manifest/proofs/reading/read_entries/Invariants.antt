use Rattle.std.proofs.Common.{◌≡◌, ◌≤◌, ◌++◌, suc, length}
use Rattle.std.specs.List.{AllByRecursion}
use Rattle.line_text.specs.Statements.{end_of}
use Rattle.boot_manifest.specs.Limited.{IsEntry}
use Rattle.boot_manifest.specs.Reading.{entries_said, lines_fault}
use Rattle.boot_manifest.proofs.reading.read_entries.Given as goal
use Rattle.aegis_limits.specs.VersionLimits.{most_environments_of}

-- the entries so far and those of the lines to come are all of them, and the rest has the first fault
abbrev pub invariant-loop-line : goal.invariant-loop-line
invariant-loop-line l = record {
  can : (goal.iterator-loop-line).can_next l.line-iterator;
  finite : (goal.iterator-loop-line).is_finite l.line-iterator;
  fault : lines_fault l.version (end_of l.text) (suc (suc (suc (length l.entries.items)))) l.line-iterator ≡ lines_fault l.version (end_of l.text) 3 l.fn.lines;
  told : l.entries.items ++ entries_said l.line-iterator ≡ entries_said l.fn.lines;
  most : length l.entries.items ≤ most_environments_of l.version;
  limits : AllByRecursion IsEntry l.entries.items;
}
