use Rattle.std.proofs.Common.{[], ◌++◌, ◌∷◌, arith, ap, ◌∙◌}
use Rattle.std.proofs.Math.ListN.{drop_of_length-le}
use Rattle.filter_tree.specs.declared.node.Node.TheVariants.{Claim}
use Rattle.filter_tree.specs.declared.node.Onward.{Onward}
use Rattle.filter_tree.proofs.Laid.{claim_laid}
use Rattle.filter_tree.proofs.laying.lay_claim.Goals as goal

pub returns-clause-laid : goal.returns-clause-laid
returns-clause-laid c =
    let next : Onward = c.args.next in
    claim_laid c.args.depth c.args.leaf.now next _ c.args.nodes.now.items c.push.new.nodes.items c.requires.nodes c.requires.next
    (drop_of_length-le c.args.leaf.now.filter c.requires.last) c.push.ensures.place (omega (arith, c.push.ensures.least)) (omega (arith, c.push.ensures.least, c.id-id.ensures))
    (c.push.ensures.nodes ∙ ap (λ id. c.args.nodes.now.items ++ Claim id next.place next.least ∷ []) c.id-id.ensures)
