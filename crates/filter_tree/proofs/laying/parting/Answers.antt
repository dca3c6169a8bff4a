use Rattle.std.proofs.Common.{◌≡◌, ◌+◌, ◌-◌, ◌/◌, ◌≤◌, arith, not, length, ap}
use Rattle.std.specs.Prelude.{nat_lt, slice_index_or}
use Rattle.std.proofs.lemmas.Bool.{le-ltb}
use Rattle.filter_tree.specs.ClaimBook.{ClaimValue}
use Rattle.filter_tree.specs.Tree.{leaf_value}
use Rattle.filter_tree.proofs.Parting.{all_one, first_is, same_value, some_passing}
use Rattle.filter_tree.proofs.laying.parting.Goals as goal

pub returns-then-low-high-clause-none : goal.returns-then-low-high-clause-none
returns-then-low-high-clause-none c =
    let leaves = c.args.leaves.now in
    let depth = c.args.depth in
    let first = c.index-leaves-0.result in
    let last = c.index-leaves-leaves.result in
    let low : leaf_value depth first ≡ leaf_value depth (slice_index_or leaves 0 first) = ap (leaf_value depth) c.index-leaves-0.is in
    let high : leaf_value depth last ≡ leaf_value depth (slice_index_or leaves (length leaves - 1) last) = ap (leaf_value depth) c.index-leaves-leaves.is in
    all_one depth (length leaves - 1) leaves last c.requires.rise (omega (arith, c.requires.some))
    (omega (arith, c.value-low.ensures, c.value-high.ensures, c.if-low-high.true, low, high, first_is depth leaves first c.requires.some))

pub overflow_add-result : goal.overflow_add-result
overflow_add-result c =
    let leaves = c.args.leaves.now in
    let depth = c.args.depth in
    let first = c.index-leaves-0.result in
    let last = c.index-leaves-leaves.result in
    let low : leaf_value depth first ≡ leaf_value depth (slice_index_or leaves 0 first) = ap (leaf_value depth) c.index-leaves-0.is in
    let high : leaf_value depth last ≡ leaf_value depth (slice_index_or leaves (length leaves - 1) last) = ap (leaf_value depth) c.index-leaves-leaves.is in
    let rise = c.requires.rise 0 (length leaves - 1) last (omega arith) (omega (arith, c.requires.some)) in
    omega (arith, low, high, rise, same_value depth 0 leaves first last c.requires.some, c.value-low.ensures, c.value-high.ensures, c.value-high.type_inv, c.if-low-high.false)

pub returns-then-middle-low-clause-high : goal.returns-then-middle-low-clause-high
returns-then-middle-low-clause-high c =
    let leaves = c.args.leaves.now in
    let depth = c.args.depth in
    let last = c.index-leaves-leaves.result in
    let other = c.index-leaves-leaves-2.result in
    let m = c.value-middle.result in
    let middle : leaf_value depth other ≡ leaf_value depth (slice_index_or leaves (length leaves / 2) other) = ap (leaf_value depth) c.index-leaves-leaves-2.is in
    let rise = c.requires.rise (length leaves / 2) (length leaves - 1) last (omega (arith, c.requires.some)) (omega (arith, c.requires.some)) in
    let high : m ≤ leaf_value depth (slice_index_or leaves (length leaves - 1) last) =
    omega (arith, middle, rise, same_value depth (length leaves / 2) leaves other last (omega (arith, c.requires.some)), c.value-middle.ensures) in
    some_passing (λ (x : ClaimValue). not (nat_lt (leaf_value depth x) m)) leaves (length leaves - 1) last (omega (arith, c.requires.some)) (ap not (le-ltb (leaf_value depth (slice_index_or leaves (length leaves - 1) last)) m high))

pub returns-else-middle-low-clause-high : goal.returns-else-middle-low-clause-high
returns-else-middle-low-clause-high c =
    let leaves = c.args.leaves.now in
    let depth = c.args.depth in
    let first = c.index-leaves-0.result in
    let last = c.index-leaves-leaves.result in
    let m = c.value-low.result + 1 in
    let low : leaf_value depth first ≡ leaf_value depth (slice_index_or leaves 0 first) = ap (leaf_value depth) c.index-leaves-0.is in
    let own : leaf_value depth last ≡ leaf_value depth (slice_index_or leaves (length leaves - 1) last) = ap (leaf_value depth) c.index-leaves-leaves.is in
    let rise = c.requires.rise 0 (length leaves - 1) last (omega arith) (omega (arith, c.requires.some)) in
    let high : m ≤ leaf_value depth (slice_index_or leaves (length leaves - 1) last) =
    omega (arith, low, own, rise, same_value depth 0 leaves first last c.requires.some, c.value-low.ensures, c.value-high.ensures, c.if-low-high.false) in
    some_passing (λ (x : ClaimValue). not (nat_lt (leaf_value depth x) m)) leaves (length leaves - 1) last (omega (arith, c.requires.some)) (ap not (le-ltb (leaf_value depth (slice_index_or leaves (length leaves - 1) last)) m high))
