use Rattle.r3k_tlb.proofs.Emptying.{one_emptied, one_left}
use Rattle.r3k_tlb.proofs.tlb.Tlb.drop_where.Goals.{then-holds, else-holds}
use Rattle.r3k_tlb.proofs.tlb.Tlb.drop_where.Goals as goal

pub loop-i-preserved : goal.loop-i-preserved
loop-i-preserved g c =
    let test = g.T.RowTest.test c.args.test.now in
    let old = c.args.self.now in
    let now = c.loop-i.self in
    let was = c.loop-i.invariant in
    record {
      rows =
          elim c.if-holds.branch [
            | then-holds w ↦ one_emptied test old now c.if-holds.self w.empty.new.self c.holds.result c.loop-i.i c.read.result was.count c.loop-i-test.true was.rows c.read.ensures.count c.read.ensures.row c.holds.ensures w.if-holds.true w.self-is w.empty.ensures
            | else-holds w ↦ one_left test old now c.if-holds.self c.holds.result c.loop-i.i c.read.result was.count c.loop-i-test.true was.rows c.read.ensures.count c.read.ensures.row c.holds.ensures w.if-holds.false w.self-is
          ];
      count = was.count;
    }
