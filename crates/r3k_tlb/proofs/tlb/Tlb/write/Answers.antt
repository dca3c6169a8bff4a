use Rattle.std.proofs.Common.{arith, ◌<◌, length}
use Rattle.std.proofs.lemmas.List.{get_or_default}
use Rattle.r3k_tlb.specs.Row.{emptied_row}
use Rattle.r3k_tlb.proofs.Writing.{written_indexed}
use Rattle.r3k_tlb.proofs.tlb.Tlb.write.Goals as goal

pub invariant_of-self : goal.invariant_of-self
invariant_of-self c =
    let rows = c.self.inside.rows in
    let was = c.self.invariant in
    let there : c.args.i < length rows = omega (arith, was.all) in
    let same = get_or_default rows c.args.i (record { hi = 0; lo = 0 }) emptied_row there in
    let clear = rw (c.from.ensures, same) at c.mark.ensures in
    let odd = rw c.is_odd.ensures at c.set_bit-self-inside.ensures in
    rw c.from-2.ensures
    (written_indexed rows c.self.inside.index c.mark.new.index c.mark-2.new.index c.self.inside.odd c.set_bit-self-inside.result c.args.i (record { hi = c.args.hi; lo = c.args.lo }) c.requires was clear c.mark-2.ensures odd)
