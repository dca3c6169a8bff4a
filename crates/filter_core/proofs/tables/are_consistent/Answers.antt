use Rattle.std.proofs.Common.{◌∙◌}
use Rattle.filter_core.proofs.Holding.{own_is_agree}
use Rattle.filter_core.proofs.tables.are_consistent.Goals as goal

pub returns : goal.returns
returns c =
    c.agree_with_all.ensures
    ∙ own_is_agree c.args.atoms.now c.tables_of.result.masks c.tables_of.result.values c.requires c.tables_of.ensures.masks c.tables_of.ensures.values
