-- The runs so far, and those of the pages that are left after the open one.
use Rattle.std.proofs.Common.{◌≡◌, ◌≤◌, ◌+◌, ◌++◌, drop}
use Rattle.core_file.specs.Runs.{runs_from, runs_of}
use Rattle.core_file.specs.Seen.{pages_shown}
use Rattle.core_file.proofs.runs.runs_of.Given as goal

abbrev pub invariant-loop-page : goal.invariant-loop-page
invariant-loop-page l = record {
  runs : l.runs.items ++ runs_from l.open (pages_shown (drop l.page-index l.rest)) ≡ runs_of (pages_shown l.pages);
  count : l.open.count ≤ l.page-index + 1;
}
