use Rattle.std.proofs.Common.{◌*◌, ◌/◌, length, length-append, sym, ◌∙◌, arith}
use Rattle.std.proofs.lemmas.Grind.{common_steps}
use Rattle.filter_core.proofs.Atoms.{bad_atom, good_is, good_more, one_more, wrong_count}
use Rattle.filter_core.proofs.reading.good_atoms.Goals as goal

pub returns-then-not-contains : goal.returns-then-not-contains
returns-then-not-contains c = wrong_count c.args.bytes.now (grind (arith, common_steps))

pub returns-in_err-good_atom : goal.returns-in_err-good_atom
returns-in_err-good_atom c =
    rw c.from_residual.ensures (bad_atom c.args.bytes.now c.loop-i.atoms.items c.loop-i.i (length c.args.bytes.now / 12) c.loop-i-test.true c.loop-i.invariant.all
    (sym c.in_err-good_atom.was ∙ c.good_atom.ensures))

pub loop-i-preserved : goal.loop-i-preserved
loop-i-preserved c =
    let next = good_is c.args.bytes.now (c.loop-i.i * 12) c.in_ok-good_atom.field-0 (sym c.in_ok-good_atom.was ∙ c.good_atom.ensures) in
    rw c.push.ensures.items record {
      count = simp length-append (omega arith);
      good = good_more c.loop-i.atoms.items c.in_ok-good_atom.field-0 c.loop-i.invariant.good next.1;
      all = one_more c.args.bytes.now c.loop-i.atoms.items c.in_ok-good_atom.field-0 c.loop-i.i (length c.args.bytes.now / 12) c.loop-i-test.true c.loop-i.invariant.all next.0;
    }
