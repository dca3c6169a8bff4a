use Rattle.std.proofs.Common.{rules, sym, ◌∙◌, arith}
use Rattle.std.proofs.lemmas.List.Sorted.{IsPartitionPoint-from_clause}
use Rattle.filter_tree.specs.Tree.{begins}
use Rattle.filter_tree.proofs.Order.{begin_together, branch_from_point, branch_of_one, second}
use Rattle.filter_tree.proofs.branching.branch_length.Goals as goal

pub returns : goal.returns
returns c =
    let together = begin_together c.args.depth c.args.atom.now c.args.leaves.now c.requires.order c.requires.first in
    let point = IsPartitionPoint-from_clause (begins c.args.depth c.args.atom.now) _ _ c.partition_point.ensures.partitioned together (λ a r q k. search rules) in
    branch_from_point c.args.depth c.args.atom.now c.args.leaves.now c.partition_point.result c.requires.first c.partition_point.ensures.bound (λ k d below. point.0 k d (omega arith) below) point.1

pub returns-then-not-begins : goal.returns-then-not-begins
returns-then-not-begins c =
    branch_of_one c.args.depth c.args.atom.now c.args.leaves.now c.requires.order c.requires.first
    (λ d within. second c.args.leaves.now d c.index-leaves-1.result (begins c.args.depth c.args.atom.now) within c.index-leaves-1.is (sym c.begins.ensures ∙ c.if-not-begins.true))
