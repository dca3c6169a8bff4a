use Rattle.std.proofs.Common.{◌≡◌, ℕ, ◌+◌, ◌<◌, List, ◌∷◌, ◌++◌, [], true, not, ap, arith, sym, drop, filter, length, subst, ◌∙◌, refl, rules, Option}
use Rattle.std.specs.List.{list_all}
use Rattle.std.specs.Prelude.{◌==◌, nat_lt}
use Rattle.std.proofs.lemmas.Bool.{and_parts}
use Rattle.std.proofs.lemmas.List.Kept.{AllPairs-filter}
use Rattle.filter_core.specs.declared.atom.Atom.{Atom}
use Rattle.filter_tree.specs.ClaimBook.{ClaimValue}
use Rattle.filter_tree.specs.Laying.{first_asked, nodes_for}
use Rattle.filter_tree.specs.Prefixes.{prefixes_from}
use Rattle.filter_tree.specs.Tree.{AreInOrder, begins, comes_before, is_branch, lower_number, lowest, number_if, starts_with, leaf_value}
use Rattle.filter_tree.proofs.Counting.{prefixes_apart}
use Rattle.filter_tree.proofs.Laid.{all_asked, below_parted, equal_parted, join_laid, nodes_deeper, nodes_parts, onward_extends, read_laid, some_claims, test_laid}
use Rattle.filter_tree.proofs.Lowest.{lower_none, lowest_parts}
use Rattle.filter_tree.proofs.Order.{branch_rises, order_tail}
use Rattle.filter_tree.proofs.Parting.{asks_for, branch_asks, branch_part, first_cut, first_is, good_width, no_prefix, nodes_least, same_first}
use Rattle.filter_tree.proofs.Reaching.{branch_is, reached_order, starts}
use Rattle.filter_tree.proofs.laying.+laying.Goals as goal

-- the claims of a branch, from a depth on
all_of : (depth : ℕ) (a : Atom) (claims : List ClaimValue) → is_branch depth a claims ≡ true → list_all (begins depth a) claims ≡ true
all_of depth a claims branch = (and_parts (starts_with depth a claims) (list_all (begins depth a) claims) branch).1

-- deeper they are in order too, if all ask for one value
deeper : (depth n : ℕ) (a : Atom) (claims : List ClaimValue) → AreInOrder depth claims → is_branch depth a claims ≡ true → list_all (λ c. n == leaf_value depth c) claims ≡ true
    → AreInOrder (depth + 1) claims
deeper depth n a claims order branch asked = subst (AreInOrder (depth + 1)) (all_asked depth n claims asked) (reached_order depth n a claims order (all_of depth a claims branch))

pub lay-lay-next-requires : goal.lay-lay-next-requires
lay-lay-next-requires t c =
    let leaves = c.args.leaves.now in
    let depth = c.args.depth in
    let a = c.in-Some.atom in
    let back = c.behind.ensures ∙ c.branch_length-end.ensures.back in
    let some : 0 < length leaves = omega arith in
    let first = starts depth a _ leaves c.index-leaves-0-2.result some c.index-leaves-0-2.is c.in-Some.ensures.atom in
    let own = some_claims depth a (filter (begins depth a) leaves) (branch_is depth a leaves first) in
    let parts = nodes_parts depth (begins depth a) leaves in
    let least = nodes_least depth (filter (begins depth a) leaves) in
    let count = ap (nodes_for depth) back in (
      omega (arith, c.decreases, count, parts, least, own),
      record {
        order = rw back (AllPairs-filter (λ x y. comes_before depth x y ≡ true) (λ x. not (begins depth a x)) leaves c.requires.order);
        nodes = c.requires.nodes;
        onward = c.requires.onward;
        room = omega (arith, count, parts, c.requires.room);
        few = omega (arith, count, parts, c.requires.few);
      },
    )

pub lay-lay_branch-requires : goal.lay-lay_branch-requires
lay-lay_branch-requires t c =
    let leaves = c.args.leaves.now in
    let depth = c.args.depth in
    let a = c.in-Some.atom in
    let back = c.behind.ensures ∙ c.branch_length-end.ensures.back in
    let front = c.front.ensures ∙ c.branch_length-end.ensures.front in
    let some : 0 < length leaves = omega arith in
    let first = starts depth a _ leaves c.index-leaves-0-2.result some c.index-leaves-0-2.is c.in-Some.ensures.atom in
    let asks = asks_for depth a _ leaves c.index-leaves-0-2.result some c.index-leaves-0-2.is c.in-Some.ensures.atom in
    let parts = nodes_parts depth (begins depth a) leaves in
    let count = ap (nodes_for depth) front in
    let rest = ap (nodes_for depth) back in
    let laid = c.lay-next.ensures.laid in (
      omega (arith, c.decreases, count, parts),
      (
        record {
          order = rw front (AllPairs-filter (λ x y. comes_before depth x y ≡ true) (begins depth a) leaves c.requires.order);
          nodes = laid.nodes;
          onward = laid.onward;
          room = omega (arith, count, rest, parts, laid.few, c.requires.room, c.lay-next.ensures.room);
          few = omega (arith, count, rest, parts, laid.few, c.requires.few);
        },
        (
          c.in-Some.ensures.good,
          (
            asks ∙ sym (ap (first_asked depth) front ∙ branch_asks depth a leaves first),
            (rw front (branch_is depth a leaves first), c.in-Some.ensures.within),
          ),
        ),
      ),
    )

pub lay-lay-next-requires-in-None : goal.lay-lay-next-requires-in-None
lay-lay-next-requires-in-None t c =
    let leaves = c.args.leaves.now in
    let depth = c.args.depth in
    let some : 0 < length leaves = search rules in
    let first = c.index-leaves-0-2.result in
    let cut = first_cut leaves first some c.index-leaves-0-2.is in
    let count = ap (nodes_for depth) cut in
    let own = ap (nodes_for depth) c.behind-in-None.ensures in (
      omega (arith, c.decreases, count, own),
      record {
        order = rw c.behind-in-None.ensures (order_tail depth first (drop 1 leaves) (subst (AreInOrder depth) cut c.requires.order));
        nodes = c.requires.nodes;
        onward = c.requires.onward;
        room = omega (arith, count, own, c.requires.room);
        few = omega (arith, count, own, c.requires.few);
      },
    )

pub lay-returns-in-None-clause-laid : goal.lay-returns-in-None-clause-laid
lay-returns-in-None-clause-laid t c =
    let leaves = c.args.leaves.now in
    let depth = c.args.depth in
    let some : 0 < length leaves = search rules in
    let first = c.index-leaves-0-2.result in
    let cut = first_cut leaves first some c.index-leaves-0-2.is in
    let same : c.index-leaves-0-in-None.result ≡ first = same_first leaves c.index-leaves-0-in-None.result first some c.index-leaves-0-in-None.is c.index-leaves-0-2.is in
    let none = c.in-None.ensures.none in
    let back = rw c.behind-in-None.ensures at c.lay-next-in-None.ensures.laid in
    let front = rw same at c.lay_claim.ensures.laid in
    join_laid depth leaves (first ∷ []) (drop 1 leaves) c.args.next c.lay-next-in-None.result c.lay_claim.result
    c.args.nodes.now.items c.lay-next-in-None.new.nodes.items c.lay_claim.new.nodes.items c.requires.onward back front
    (λ t. ap (λ (y : Option ℕ). lower_number y (lowest t (drop 1 leaves))) (lower_none (number_if t first)) ∙ sym (ap (lowest t) cut))
    (omega (arith, no_prefix depth first [] none, no_prefix depth first (drop 1 leaves) none, ap (prefixes_from depth) cut)) (omega (arith, ap (nodes_for depth) cut))

pub lay-returns-in-Some-clause-laid : goal.lay-returns-in-Some-clause-laid
lay-returns-in-Some-clause-laid t c =
    let leaves = c.args.leaves.now in
    let depth = c.args.depth in
    let a = c.in-Some.atom in
    let back = c.behind.ensures ∙ c.branch_length-end.ensures.back in
    let front = c.front.ensures ∙ c.branch_length-end.ensures.front in
    join_laid depth leaves (filter (begins depth a) leaves) (filter (λ x. not (begins depth a x)) leaves) c.args.next c.lay-next.result c.lay_branch.result
    c.args.nodes.now.items c.lay-next.new.nodes.items c.lay_branch.new.nodes.items c.requires.onward (rw back at c.lay-next.ensures.laid) (rw front at c.lay_branch.ensures.laid)
    (λ t. lowest_parts t (begins depth a) leaves) (prefixes_apart depth a leaves) (omega (arith, nodes_parts depth (begins depth a) leaves))

pub lay_branch-parting-requires-clause-rise : goal.lay_branch-parting-requires-clause-rise
lay_branch-parting-requires-clause-rise t c = branch_rises c.args.depth c.args.atom.now c.args.leaves.now c.requires.may.order (all_of c.args.depth c.args.atom.now c.args.leaves.now c.requires.branch)

pub lay_branch-lay-inside-requires : goal.lay_branch-lay-inside-requires
lay_branch-lay-inside-requires t c =
    let leaves = c.args.leaves.now in
    let depth = c.args.depth in
    let a = c.args.atom.now in
    let fewer = nodes_deeper depth a leaves (all_of depth a leaves c.requires.branch) in
    let some = some_claims depth a leaves c.requires.branch in (
      omega (arith, c.decreases, fewer, some),
      record {
        order = deeper depth (first_asked depth leaves) a leaves c.requires.may.order c.requires.branch c.in-None.ensures.none;
        nodes = c.requires.may.nodes;
        onward = c.requires.may.onward;
        room = omega (arith, fewer, c.requires.may.room);
        few = omega (arith, fewer, c.requires.may.few);
      },
    )

pub lay_branch-push-requires-clause-room : goal.lay_branch-push-requires-clause-room
lay_branch-push-requires-clause-room t c =
    let leaves = c.args.leaves.now in
    let fewer = nodes_deeper c.args.depth c.args.atom.now leaves (all_of c.args.depth c.args.atom.now leaves c.requires.branch) in
    omega (arith, fewer, some_claims c.args.depth c.args.atom.now leaves c.requires.branch, c.lay-inside.ensures.laid.few, c.lay-inside.ensures.room, c.requires.may.room)

pub lay_branch-push-requires-clause-few : goal.lay_branch-push-requires-clause-few
lay_branch-push-requires-clause-few t c =
    let leaves = c.args.leaves.now in
    let fewer = nodes_deeper c.args.depth c.args.atom.now leaves (all_of c.args.depth c.args.atom.now leaves c.requires.branch) in
    omega (arith, fewer, some_claims c.args.depth c.args.atom.now leaves c.requires.branch, c.lay-inside.ensures.laid.few, c.requires.may.few)

pub lay_branch-returns-in-None-clause-laid : goal.lay_branch-returns-in-None-clause-laid
lay_branch-returns-in-None-clause-laid t c =
    let leaves = c.args.leaves.now in
    let depth = c.args.depth in
    let asked = subst (λ n. list_all (λ x. n == leaf_value depth x) leaves ≡ true) (sym c.requires.value) c.in-None.ensures.none in
    test_laid depth c.args.atom.now leaves c.args.next c.lay-inside.result _ c.args.nodes.now.items c.lay-inside.new.nodes.items c.push.new.nodes.items c.requires.may.onward c.requires.atom c.requires.branch asked
    c.lay-inside.ensures.laid c.push.ensures.place c.push.ensures.least (c.push.ensures.nodes ∙ ap (λ n. c.lay-inside.new.nodes.items ++ n ∷ []) c.test_node-node.ensures)

pub lay_branch-returns-in-Some-clause-laid : goal.lay_branch-returns-in-Some-clause-laid
lay_branch-returns-in-Some-clause-laid t c =
    read_laid c.args.depth c.args.atom.now c.args.leaves.now c.args.next c.lay_values-inside.result _ c.args.nodes.now.items c.lay_values-inside.new.nodes.items c.push-in-Some.new.nodes.items
    c.requires.may.onward (good_width c.args.atom.now c.requires.atom) c.requires.branch c.lay_values-inside.ensures.parted c.push-in-Some.ensures.place c.push-in-Some.ensures.least c.push-in-Some.ensures.nodes

pub lay_values-parting-requires-clause-rise : goal.lay_values-parting-requires-clause-rise
lay_values-parting-requires-clause-rise t c = branch_rises c.args.depth c.args.atom.now c.args.leaves.now c.requires.may.order (all_of c.args.depth c.args.atom.now c.args.leaves.now c.requires.branch)

pub lay_values-below-requires : goal.lay_values-below-requires
lay_values-below-requires t c = branch_rises c.args.depth c.args.atom.now c.args.leaves.now c.requires.may.order (all_of c.args.depth c.args.atom.now c.args.leaves.now c.requires.branch)

pub lay_values-from-requires : goal.lay_values-from-requires
lay_values-from-requires t c = branch_rises c.args.depth c.args.atom.now c.args.leaves.now c.requires.may.order (all_of c.args.depth c.args.atom.now c.args.leaves.now c.requires.branch)

pub lay_values-lay-inside-requires : goal.lay_values-lay-inside-requires
lay_values-lay-inside-requires t c =
    let leaves = c.args.leaves.now in
    let depth = c.args.depth in
    let a = c.args.atom.now in
    let fewer = nodes_deeper depth a leaves (all_of depth a leaves c.requires.branch) in
    let some = some_claims depth a leaves c.requires.branch in (
      omega (arith, c.decreases, fewer, some),
      record {
        order = deeper depth (first_asked depth leaves) a leaves c.requires.may.order c.requires.branch c.in-None.ensures.none;
        nodes = c.requires.may.nodes;
        onward = c.requires.may.onward;
        room = omega (arith, fewer, c.requires.may.room);
        few = omega (arith, fewer, c.requires.may.few);
      },
    )

pub lay_values-push-requires-clause-room : goal.lay_values-push-requires-clause-room
lay_values-push-requires-clause-room t c =
    let leaves = c.args.leaves.now in
    let fewer = nodes_deeper c.args.depth c.args.atom.now leaves (all_of c.args.depth c.args.atom.now leaves c.requires.branch) in
    omega (arith, fewer, some_claims c.args.depth c.args.atom.now leaves c.requires.branch, c.lay-inside.ensures.laid.few, c.lay-inside.ensures.room, c.requires.may.room)

pub lay_values-push-requires-clause-few : goal.lay_values-push-requires-clause-few
lay_values-push-requires-clause-few t c =
    let leaves = c.args.leaves.now in
    let fewer = nodes_deeper c.args.depth c.args.atom.now leaves (all_of c.args.depth c.args.atom.now leaves c.requires.branch) in
    omega (arith, fewer, some_claims c.args.depth c.args.atom.now leaves c.requires.branch, c.lay-inside.ensures.laid.few, c.requires.may.few)

pub lay_values-lay_values-low-requires : goal.lay_values-lay_values-low-requires
lay_values-lay_values-low-requires t c =
    let leaves = c.args.leaves.now in
    let depth = c.args.depth in
    let a = c.args.atom.now in
    let bound = c.in-Some.bound in
    let lows : List ClaimValue = filter (λ x. nat_lt (leaf_value depth x) bound) leaves in
    let highs : List ClaimValue = filter (λ x. not (nat_lt (leaf_value depth x) bound)) leaves in
    let is = c.below.ensures in
    let parts = nodes_parts depth (λ x. nat_lt (leaf_value depth x) bound) leaves in
    let least = nodes_least depth highs in
    let count = ap (nodes_for depth) is in (
      omega (arith, c.decreases, count, parts, least, c.in-Some.ensures.high),
      (
        record {
          order = rw is (AllPairs-filter (λ x y. comes_before depth x y ≡ true) (λ x. nat_lt (leaf_value depth x) bound) leaves c.requires.may.order);
          nodes = c.requires.may.nodes;
          onward = c.requires.may.onward;
          room = omega (arith, count, parts, c.requires.may.room);
          few = omega (arith, count, parts, c.requires.may.few);
        },
        (rw is (branch_part depth a (λ x. nat_lt (leaf_value depth x) bound) leaves c.requires.branch c.in-Some.ensures.low), c.requires.deep),
      ),
    )

pub lay_values-lay_values-high-requires : goal.lay_values-lay_values-high-requires
lay_values-lay_values-high-requires t c =
    let leaves = c.args.leaves.now in
    let depth = c.args.depth in
    let a = c.args.atom.now in
    let bound = c.in-Some.bound in
    let lows : List ClaimValue = filter (λ x. nat_lt (leaf_value depth x) bound) leaves in
    let is = c.from.ensures in
    let other = ap (nodes_for depth) c.below.ensures in
    let parts = nodes_parts depth (λ x. nat_lt (leaf_value depth x) bound) leaves in
    let least = nodes_least depth lows in
    let count = ap (nodes_for depth) is in
    let parted = c.lay_values-low.ensures.parted in (
      omega (arith, c.decreases, count, parts, least, c.in-Some.ensures.low),
      (
        record {
          order = rw is (AllPairs-filter (λ x y. comes_before depth x y ≡ true) (λ x. not (nat_lt (leaf_value depth x) bound)) leaves c.requires.may.order);
          nodes = parted.nodes;
          onward = onward_extends c.args.next c.args.nodes.now.items c.lay_values-low.new.nodes.items c.requires.may.onward parted.extends;
          room = omega (arith, count, other, parts, parted.few, c.requires.may.room, c.lay_values-low.ensures.room);
          few = omega (arith, count, other, parts, parted.few, c.requires.may.few);
        },
        (rw is (branch_part depth a (λ x. not (nat_lt (leaf_value depth x) bound)) leaves c.requires.branch c.in-Some.ensures.high), c.requires.deep),
      ),
    )

pub lay_values-push-requires-in-Some-clause-room : goal.lay_values-push-requires-in-Some-clause-room
lay_values-push-requires-in-Some-clause-room t c =
    let depth = c.args.depth in
    omega (
      arith,
      nodes_parts depth (λ x. nat_lt (leaf_value depth x) c.in-Some.bound) c.args.leaves.now,
      ap (nodes_for depth) c.below.ensures,
      ap (nodes_for depth) c.from.ensures,
      c.lay_values-low.ensures.parted.few,
      c.lay_values-high.ensures.parted.few,
      c.lay_values-low.ensures.room,
      c.lay_values-high.ensures.room,
      c.requires.may.room,
    )

pub lay_values-push-requires-in-Some-clause-few : goal.lay_values-push-requires-in-Some-clause-few
lay_values-push-requires-in-Some-clause-few t c =
    let depth = c.args.depth in
    omega (
      arith,
      nodes_parts depth (λ x. nat_lt (leaf_value depth x) c.in-Some.bound) c.args.leaves.now,
      ap (nodes_for depth) c.below.ensures,
      ap (nodes_for depth) c.from.ensures,
      c.lay_values-low.ensures.parted.few,
      c.lay_values-high.ensures.parted.few,
      c.requires.may.few,
    )

pub lay_values-returns-in-None-clause-parted : goal.lay_values-returns-in-None-clause-parted
lay_values-returns-in-None-clause-parted t c =
    let leaves = c.args.leaves.now in
    let depth = c.args.depth in
    let some = some_claims depth c.args.atom.now leaves c.requires.branch in
    let value : first_asked depth leaves ≡ c.value-value.result =
    first_is depth leaves c.index-leaves-0.result (omega (arith, some)) ∙ ap (leaf_value depth) (sym c.index-leaves-0.is) ∙ sym c.value-value.ensures in
    equal_parted depth c.value-value.result c.args.atom.now leaves c.args.next c.lay-inside.result _ c.args.nodes.now.items c.lay-inside.new.nodes.items c.push.new.nodes.items c.requires.may.onward c.requires.branch
    (subst (λ n. list_all (λ x. n == leaf_value depth x) leaves ≡ true) value c.in-None.ensures.none) c.lay-inside.ensures.laid c.push.ensures.place c.push.ensures.least c.push.ensures.nodes

pub lay_values-returns-in-Some-clause-parted : goal.lay_values-returns-in-Some-clause-parted
lay_values-returns-in-Some-clause-parted t c =
    below_parted c.args.depth c.in-Some.bound c.args.leaves.now c.args.next c.lay_values-low.result c.lay_values-high.result _
    c.args.nodes.now.items c.lay_values-low.new.nodes.items c.lay_values-high.new.nodes.items c.push-in-Some.new.nodes.items c.requires.may.onward
    (rw c.below.ensures at c.lay_values-low.ensures.parted) (rw c.from.ensures at c.lay_values-high.ensures.parted)
    c.push-in-Some.ensures.place (omega (arith, c.push-in-Some.ensures.least)) (omega (arith, c.push-in-Some.ensures.least)) c.push-in-Some.ensures.nodes
