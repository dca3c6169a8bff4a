use Rattle.std.proofs.Common.{rules, ltb, arith, ◌∙◌}
use Rattle.std.proofs.lemmas.List.Sorted.{IsPartitionPoint-from_clause, IsPartitionedBy-ltb}
use Rattle.filter_tree.specs.Tree.{leaf_value}
use Rattle.filter_tree.proofs.Splitting.{back_is}
use Rattle.filter_tree.proofs.laying.from.Goals as goal

pub returns : goal.returns
returns c =
    let parted = IsPartitionedBy-ltb (leaf_value c.args.depth) _ c.args.bound c.requires in
    let point = IsPartitionPoint-from_clause (λ leaf. ltb (leaf_value c.args.depth leaf) c.args.bound) _ _ c.partition_point.ensures.partitioned parted (λ a r q k. search rules) in
    c.behind.ensures ∙ back_is (λ leaf. ltb (leaf_value c.args.depth leaf) c.args.bound) c.args.leaves.now c.partition_point.result c.partition_point.ensures.bound (λ k d below. point.0 k d (omega arith) below) point.1
