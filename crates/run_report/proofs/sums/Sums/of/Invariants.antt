use Rattle.std.proofs.Common.{take}
use Rattle.run_report.specs.Sums.{AreSums}
use Rattle.run_report.proofs.sums.Sums.of.Given as goal

-- The sums are those of the rows so far.
abbrev pub invariant-loop-row : goal.invariant-loop-row
invariant-loop-row l = AreSums (take l.row-index l.rows) l.sums
