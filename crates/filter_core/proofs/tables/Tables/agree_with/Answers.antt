use Rattle.filter_core.proofs.Tabling.{held_more}
use Rattle.filter_core.proofs.tables.Tables.agree_with.Goals as goal

pub loop-i-preserved : goal.loop-i-preserved
loop-i-preserved c = record {
  offset = c.from-offset.ensures;
  width = c.from-width.ensures;
  so_far = held_more c.args.self.now.masks c.args.self.now.values c.args.atom.now c.loop-i.i c.from-offset.result c.from-width.result c.byte_of-mask.result c.byte_of-value.result
      c.from-offset.ensures c.from-width.ensures c.loop-i-test.true c.byte_of-mask.ensures c.byte_of-value.ensures c.if-self-offset.false c.loop-i.invariant.so_far;
}
