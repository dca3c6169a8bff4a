use Rattle.std.proofs.Common.{rules, ltb, sym, ◌∙◌, arith}
use Rattle.std.proofs.lemmas.List.Sorted.{IsPartitionPoint-from_clause, IsPartitionedBy-ltb}
use Rattle.filter_tree.specs.ClaimBook.{RowValue}
use Rattle.filter_tree.proofs.Halving.{fails_at, found_at, none_at, numbered, rising_ids}
use Rattle.filter_tree.proofs.search.place_by_halving.Goals as goal
use Rattle.filter_tree.proofs.search.place_by_halving.Goals.{else-place-rows-via-then-place-rows+else-is_numbered, else-place-rows-via-else-place-rows}

pub returns-then-is_numbered-clause-some : goal.returns-then-is_numbered-clause-some
returns-then-is_numbered-clause-some c = λ d.
    found_at c.args.id c.partition_point-place.result c.index-rows-place.result d c.args.rows.now c.requires c.if-place-rows.true c.index-rows-place.is (sym c.is_numbered.ensures ∙ c.if-is_numbered.true)

pub returns-else-place-rows-clause-none : goal.returns-else-place-rows-clause-none
returns-else-place-rows-clause-none c =
    let parted = IsPartitionedBy-ltb (λ (r : RowValue). r.claim.id) _ c.args.id (rising_ids c.args.rows.now c.requires) in
    let point = IsPartitionPoint-from_clause (λ (r : RowValue). ltb r.claim.id c.args.id) _ _ c.partition_point-place.ensures.partitioned parted (λ a r q k. search rules) in
    none_at c.args.id c.partition_point-place.result c.args.rows.now c.requires c.partition_point-place.ensures.bound (λ k d below. point.0 k d (omega arith) below)
    (λ d within.
    elim c.else-place-rows.branch [
      | else-place-rows-via-then-place-rows+else-is_numbered w ↦
          fails_at (numbered c.args.id) c.partition_point-place.result d w.index-rows-place.result c.args.rows.now within w.index-rows-place.is (sym w.is_numbered.ensures ∙ w.if-is_numbered.false)
      | else-place-rows-via-else-place-rows w ↦ absurd (omega (arith, within, w.if-place-rows.false))
    ])
    point.1
