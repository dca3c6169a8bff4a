use Rattle.std.proofs.Common.{sym, ◌∙◌}
use Rattle.filter_tree.proofs.Halving.{found_at}
use Rattle.filter_tree.proofs.search.place_by_distance.Goals as goal

pub returns-then-is_numbered-clause-some : goal.returns-then-is_numbered-clause-some
returns-then-is_numbered-clause-some c = λ d.
    found_at c.args.id _ c.index-rows-place.result d c.args.rows.now c.requires c.if-place-rows.true c.index-rows-place.is (sym c.is_numbered.ensures ∙ c.if-is_numbered.true)
