use Rattle.std.proofs.Common.{arith, ◌∙◌, sym, subst, ap, insert}
use Rattle.filter_tree.specs.ClaimBook.{ClaimValue}
use Rattle.filter_tree.specs.Laying.{nodes_for}
use Rattle.filter_tree.specs.Tree.{AreInOrder, leaf_place}
use Rattle.filter_tree.proofs.Parting.{length_planted, planted_short, short_room}
use Rattle.filter_tree.proofs.Planting.{place_within, planted_is, planted_order}
use Rattle.filter_tree.proofs.tree.Tree.plant.Goals as goal

pub insert-requires : goal.insert-requires
insert-requires c = omega (arith, c.place_of-place.ensures, place_within c.leaf.inside.filter c.deref.result.now, c.deref.ensures.len)

pub unwrap-requires : goal.unwrap-requires
unwrap-requires c =
    let below = rw (← c.self.view_is) at c.requires in
    c.insert.ensures.succeeds (omega (arith, c.self.inside.leaves.ok.0, below, c.self.invariant.1.leaf_room))

pub lay_out-self-inside-requires-clause-order : goal.lay_out-self-inside-requires-clause-order
lay_out-self-inside-requires-clause-order c =
    let items = rw c.unwrap.ensures at c.insert.ensures.items in
    let place = c.place_of-place.ensures ∙ ap (leaf_place c.leaf.inside.filter) c.deref.ensures.value ∙ ap (λ (x : ClaimValue). leaf_place x.filter c.self.inside.leaves.items) c.leaf.view_is in
    let all = items ∙ ap (λ n. insert c.self.inside.leaves.items n c.args.leaf) place ∙ planted_is c.args.leaf c.self.inside.leaves.items in
    subst (AreInOrder 0) (sym (c.deref-2.ensures.value ∙ all)) (planted_order c.args.leaf c.self.inside.leaves.items c.self.invariant.0.order)

pub lay_out-self-inside-requires-clause-node_room : goal.lay_out-self-inside-requires-clause-node_room
lay_out-self-inside-requires-clause-node_room c =
    let items = rw c.unwrap.ensures at c.insert.ensures.items in
    let place = c.place_of-place.ensures ∙ ap (leaf_place c.leaf.inside.filter) c.deref.ensures.value ∙ ap (λ (x : ClaimValue). leaf_place x.filter c.self.inside.leaves.items) c.leaf.view_is in
    let all = items ∙ ap (λ n. insert c.self.inside.leaves.items n c.args.leaf) place ∙ planted_is c.args.leaf c.self.inside.leaves.items in
    let own = c.law_short.ensures in
    let short = planted_short c.args.leaf c.self.inside.leaves.items own c.self.invariant.0.short in
    let below = rw (← c.self.view_is) at c.requires in
    let count = length_planted c.args.leaf c.self.inside.leaves.items in
    omega (arith, ap (nodes_for 0) (c.deref-2.ensures.value ∙ all), short_room _ short, count, below, c.self.invariant.1.node_room)

pub lay_out-self-inside-requires-clause-few : goal.lay_out-self-inside-requires-clause-few
lay_out-self-inside-requires-clause-few c =
    let items = rw c.unwrap.ensures at c.insert.ensures.items in
    let place = c.place_of-place.ensures ∙ ap (leaf_place c.leaf.inside.filter) c.deref.ensures.value ∙ ap (λ (x : ClaimValue). leaf_place x.filter c.self.inside.leaves.items) c.leaf.view_is in
    let all = items ∙ ap (λ n. insert c.self.inside.leaves.items n c.args.leaf) place ∙ planted_is c.args.leaf c.self.inside.leaves.items in
    let own = c.law_short.ensures in
    let short = planted_short c.args.leaf c.self.inside.leaves.items own c.self.invariant.0.short in
    let below = rw (← c.self.view_is) at c.requires in
    let count = length_planted c.args.leaf c.self.inside.leaves.items in
    omega (arith, ap (nodes_for 0) (c.deref-2.ensures.value ∙ all), short_room _ short, count, below, c.self.invariant.1.most)

pub invariant_of-self : goal.invariant_of-self
invariant_of-self c =
    let items = rw c.unwrap.ensures at c.insert.ensures.items in
    let place = c.place_of-place.ensures ∙ ap (leaf_place c.leaf.inside.filter) c.deref.ensures.value ∙ ap (λ (x : ClaimValue). leaf_place x.filter c.self.inside.leaves.items) c.leaf.view_is in
    let all = items ∙ ap (λ n. insert c.self.inside.leaves.items n c.args.leaf) place ∙ planted_is c.args.leaf c.self.inside.leaves.items in
    let own = c.law_short.ensures in
    let short = planted_short c.args.leaf c.self.inside.leaves.items own c.self.invariant.0.short in
    let below = rw (← c.self.view_is) at c.requires in
    let count = length_planted c.args.leaf c.self.inside.leaves.items in
    let len = rw c.unwrap.ensures at c.insert.ensures.len in (
      record {
        order = subst (AreInOrder 0) (sym all) (planted_order c.args.leaf c.self.inside.leaves.items c.self.invariant.0.order);
        short = rw all short;
        few = rw all (omega (arith, count, below));
        laid = rw c.deref-2.ensures.value at c.lay_out-self-inside.ensures.laid;
      },
      record {
        most = c.self.invariant.1.most;
        leaf_room = omega (arith, c.insert.new.self.ok.0, len, c.self.inside.leaves.ok.0, c.insert.ensures.capacity, c.self.invariant.1.leaf_room);
        branch_room = omega (arith, c.lay_out-self-inside.ensures.branch_room, c.self.invariant.1.branch_room);
        node_room = omega (arith, c.lay_out-self-inside.ensures.node_room, c.self.invariant.1.node_room);
      },
    )

pub returns-clause-leaves : goal.returns-clause-leaves
returns-clause-leaves c =
    let items = rw c.unwrap.ensures at c.insert.ensures.items in
    let place = c.place_of-place.ensures ∙ ap (leaf_place c.leaf.inside.filter) c.deref.ensures.value ∙ ap (λ (x : ClaimValue). leaf_place x.filter c.self.inside.leaves.items) c.leaf.view_is in
    let all = items ∙ ap (λ n. insert c.self.inside.leaves.items n c.args.leaf) place ∙ planted_is c.args.leaf c.self.inside.leaves.items in
    rw (← c.self.view_is) all
