use Rattle.std.proofs.Common.{◌≡◌, ◌∙◌, true}
use Rattle.filter_core.specs.Asking.{agree}
use Rattle.filter_core.specs.Filters.{is_filter}
use Rattle.filter_core.proofs.Holding.{held_is_agree}
use Rattle.filter_core.proofs.Overlapping.{tells}
use Rattle.filter_core.proofs.layout.Layout.overlaps.Goals as goal

rule : (c : goal.After-agree_with_all) → is_filter c.self.inside.filter.now ≡ true
rule c = c.self.invariant.rule

is_agree : (c : goal.After-agree_with_all) → c.agree_with_all.result ≡ agree c.self.inside.filter.now c.args.other.now
is_agree c =
    let other : is_filter c.atoms.result.now ≡ true = rw c.atoms.ensures.atoms c.atoms.ensures.rule in
    rw (← c.atoms.ensures.atoms) (c.agree_with_all.ensures
    ∙ held_is_agree c.self.inside.filter.now c.atoms.result.now c.self.inside.tables.masks c.self.inside.tables.values (rule c) other c.self.invariant.masks_table c.self.invariant.values_table)

pub returns-clause-value : goal.returns-clause-value
returns-clause-value c = rw (← c.self.view_is) (is_agree c)

pub returns-clause-exact : goal.returns-clause-exact
returns-clause-exact c = rw (← c.self.view_is) (tells c.agree_with_all.result c.self.inside.filter.now c.args.other.now (rule c) c.atoms.ensures.rule (is_agree c))
