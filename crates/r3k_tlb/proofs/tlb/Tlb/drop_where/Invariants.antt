-- The rows so far are emptied where the test says so, and those that are left are as they were.
use Rattle.std.proofs.Common.{◌≡◌, ◌++◌, length, map, take, drop}
use Rattle.r3k_tlb.specs.Rows.{emptied_if, row_count}
use Rattle.r3k_tlb.proofs.tlb.Tlb.drop_where.Given as goal

abbrev pub invariant-loop-i : goal.invariant-loop-i
invariant-loop-i g l = record {
  rows : l.self ≡ map (emptied_if (g.T.RowTest.test l.test)) (take l.i l.fn.self) ++ drop l.i l.fn.self;
  count : length l.fn.self ≡ row_count;
}
