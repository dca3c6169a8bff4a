use Rattle.std.proofs.Common.{sym, ap, set, ◌∙◌}
use Rattle.filter_tree.specs.Claims.{row_after_packet}
use Rattle.filter_tree.proofs.Halving.{none_changes, one_changes}
use Rattle.filter_tree.proofs.withdrawal.turn_in.Goals as goal

pub returns-in-Some : goal.returns-in-Some
returns-in-Some c =
    ap (set c.args.rows.now c.in-Some.place) c.turn.ensures
    ∙ sym (one_changes row_after_packet c.args.id c.in-Some.place c.index-rows-place.result c.args.rows.now c.requires c.in-Some.ensures.within (c.in-Some.ensures.some c.index-rows-place.result))

pub returns-in_default : goal.returns-in_default
returns-in_default c = sym (none_changes row_after_packet c.args.id c.args.rows.now c.in_default.ensures.none)
