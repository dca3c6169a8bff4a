use Rattle.std.proofs.Common.{Some, sym, ap, ◌∙◌}
use Rattle.std.specs.Option.{option_map}
use Rattle.filter_tree.specs.Claims.{claim_seen}
use Rattle.filter_tree.proofs.Halving.{held_none, held_other, held_own}
use Rattle.filter_tree.proofs.search.claim_held.Goals as goal

pub returns-in_err-row : goal.returns-in_err-row
returns-in_err-row c = c.from_residual.ensures ∙ sym (ap (option_map claim_seen) (held_none c.args.env c.args.id c.args.rows.now c.in_err-row.ensures.none))

pub returns-then-is_of_env : goal.returns-then-is_of_env
returns-then-is_of_env c =
    ap Some c.claim.ensures
    ∙ sym (ap (option_map claim_seen) (held_own c.args.env c.args.id c.index-rows-branch.result c.args.rows.now c.requires (c.in_ok-row.ensures.some c.index-rows-branch.result ∙ ap Some (sym c.index-rows-branch.is)) (sym c.is_of_env.ensures ∙ c.if-is_of_env.true)))

pub returns-else-is_of_env : goal.returns-else-is_of_env
returns-else-is_of_env c =
    sym (ap (option_map claim_seen) (held_other c.args.env c.args.id c.index-rows-branch.result c.args.rows.now c.requires (c.in_ok-row.ensures.some c.index-rows-branch.result ∙ ap Some (sym c.index-rows-branch.is)) (sym c.is_of_env.ensures ∙ c.if-is_of_env.false)))
