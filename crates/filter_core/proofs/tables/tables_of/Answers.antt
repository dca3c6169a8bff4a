use Rattle.filter_core.specs.Asking.{asked, mask_at, value_at}
use Rattle.filter_core.proofs.Tabling.{entry_all, entry_more, entry_none}
use Rattle.filter_core.proofs.tables.tables_of.Goals as goal

pub loop-atom-init : goal.loop-atom-init
loop-atom-init c = record {
  masks = λ p below. entry_none 1514 p (asked (mask_at p) c.args.atoms.now);
  values = λ p below. entry_none 1514 p (asked (value_at p) c.args.atoms.now);
}

pub loop-atom-preserved : goal.loop-atom-preserved
loop-atom-preserved c = record {
  masks = λ p below. entry_more (mask_at p) c.args.atoms.now c.loop-atom.atom-index _ _ _ _ c.loop-atom-test.true (c.loop-atom.invariant.masks p below) (c.add_bytes.ensures p below);
  values = λ p below. entry_more (value_at p) c.args.atoms.now c.loop-atom.atom-index _ _ _ _ c.loop-atom-test.true (c.loop-atom.invariant.values p below) (c.add_bytes-in-loop-atom.ensures p below);
}

pub returns-clause-masks : goal.returns-clause-masks
returns-clause-masks c = record {
  entry = λ p below. entry_all (mask_at p) c.args.atoms.now c.loop-atom.atom-index _ _ c.loop-atom-test.false (c.loop-atom.invariant.masks p below);
}

pub returns-clause-values : goal.returns-clause-values
returns-clause-values c = record {
  entry = λ p below. entry_all (value_at p) c.args.atoms.now c.loop-atom.atom-index _ _ c.loop-atom-test.false (c.loop-atom.invariant.values p below);
}
