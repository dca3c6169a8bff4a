use Rattle.std.proofs.Common.{◌+◌, ◌<◌, length, arith}
use Rattle.filter_core.proofs.Asks.{good}
use Rattle.filter_core.proofs.Tabling.{added_all, added_inside, added_outside}
use Rattle.filter_core.proofs.tables.add_bytes.Goals as goal

pub returns : goal.returns
returns c = λ p below. added_all c.args.table.now c.loop-i.table c.args.atom.now c.args.number c.loop-i.i (omega arith) c.loop-i.invariant.inside c.loop-i.invariant.outside p

pub loop-i-preserved : goal.loop-i-preserved
loop-i-preserved c =
    let inside : c.loop-i.i < c.args.atom.now.width = omega arith in
    let is = good c.args.atom.now c.requires in
    let within : c.args.atom.now.offset + c.loop-i.i < length c.loop-i.table = omega (arith, is.within) in
    record {
      offset = c.from-offset.ensures;
      width = c.from-width.ensures;
      inside = rw c.from-offset.ensures (added_inside c.args.table.now c.loop-i.table c.args.atom.now c.args.number c.loop-i.i c.byte_of.result inside within (rw c.from-width.ensures at c.byte_of.ensures) c.loop-i.invariant.inside c.loop-i.invariant.outside);
      outside = rw c.from-offset.ensures (added_outside c.args.table.now c.loop-i.table c.args.atom.now c.loop-i.i c.byte_of.result c.loop-i.invariant.outside);
    }
