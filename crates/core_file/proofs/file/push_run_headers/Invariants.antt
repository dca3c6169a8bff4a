-- The headers so far, and those of the runs that are left.
use Rattle.std.proofs.Common.{◌≡◌, ◌<◌, ◌+◌, ◌*◌, ◌^◌, ◌++◌, drop}
use Rattle.aegis_limits.specs.Limits.{page_size}
use Rattle.core_file.specs.Core.{run_headers}
use Rattle.core_file.specs.Seen.{AreUserPages, pages_in}
use Rattle.core_file.proofs.file.push_run_headers.Given as goal

abbrev pub invariant-loop-run : goal.invariant-loop-run
invariant-loop-run l = record {
  text : l.file.items ++ run_headers l.offset (drop l.run-index l.runs) ≡ l.fn.file.items ++ run_headers l.start l.runs;
  within : AreUserPages (drop l.run-index l.runs);
  room : l.offset + page_size * pages_in (drop l.run-index l.runs) < 2 ^ 32;
}
