use Rattle.filter_core.specs.Asking.{value_at}
use Rattle.filter_core.proofs.Tabling.{entry_all, entry_more}
use Rattle.filter_core.proofs.tables.add_values.Goals as goal

pub loop-atom-preserved : goal.loop-atom-preserved
loop-atom-preserved c = λ p below.
    entry_more (value_at p) c.args.atoms.now c.loop-atom.atom-index _ _ _ _ c.loop-atom-test.true (c.loop-atom.invariant p below) (c.add_bytes.ensures p below)

pub returns : goal.returns
returns c = λ p below. entry_all (value_at p) c.args.atoms.now c.loop-atom.atom-index _ _ c.loop-atom-test.false (c.loop-atom.invariant p below)
