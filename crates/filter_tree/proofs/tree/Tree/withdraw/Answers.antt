use Rattle.std.proofs.Common.{◌≡◌, true, not, rules, arith, ap, ◌∙◌}
use Rattle.std.proofs.lemmas.Fn.{filter_same}
use Rattle.std.proofs.lemmas.List.Kept.{AllPairs-filter}
use Rattle.filter_tree.specs.Withdrawals.{is_withdrawn}
use Rattle.filter_tree.specs.Laying.{nodes_for}
use Rattle.filter_tree.specs.Tree.{comes_before}
use Rattle.filter_tree.proofs.Parting.{is_short, short_room}
use Rattle.filter_tree.proofs.Room.{all_kept}
use Rattle.filter_tree.proofs.Rooted.{filter_short}
use Rattle.filter_tree.proofs.tree.Tree.withdraw.Goals as goal

pub lay_out-self-inside-requires-clause-order : goal.lay_out-self-inside-requires-clause-order
lay_out-self-inside-requires-clause-order c =
    let left = filter_same _ (λ claim. not (is_withdrawn c.args.withdrawal claim)) _ (λ x b f' k. search rules) _ _ c.retain.ensures.filtered in
    rw (c.deref.ensures.value, left) (AllPairs-filter (λ x y. comes_before 0 x y ≡ true) (λ claim. not (is_withdrawn c.args.withdrawal claim)) _ c.self.invariant.0.order)

pub lay_out-self-inside-requires-clause-node_room : goal.lay_out-self-inside-requires-clause-node_room
lay_out-self-inside-requires-clause-node_room c =
    let left = filter_same _ (λ claim. not (is_withdrawn c.args.withdrawal claim)) _ (λ x b f' k. search rules) _ _ c.retain.ensures.filtered in
    let short = short_room _ (all_kept is_short (λ claim. not (is_withdrawn c.args.withdrawal claim)) c.self.inside.leaves.items c.self.invariant.0.short) in
    omega (arith, ap (nodes_for 0) (c.deref.ensures.value ∙ left), short, filter_short (λ claim. not (is_withdrawn c.args.withdrawal claim)) c.self.inside.leaves.items, c.self.invariant.0.few, c.self.invariant.1.node_room)

pub lay_out-self-inside-requires-clause-few : goal.lay_out-self-inside-requires-clause-few
lay_out-self-inside-requires-clause-few c =
    let left = filter_same _ (λ claim. not (is_withdrawn c.args.withdrawal claim)) _ (λ x b f' k. search rules) _ _ c.retain.ensures.filtered in
    let short = short_room _ (all_kept is_short (λ claim. not (is_withdrawn c.args.withdrawal claim)) c.self.inside.leaves.items c.self.invariant.0.short) in
    omega (arith, ap (nodes_for 0) (c.deref.ensures.value ∙ left), short, filter_short (λ claim. not (is_withdrawn c.args.withdrawal claim)) c.self.inside.leaves.items, c.self.invariant.0.few, c.self.invariant.1.most)

pub invariant_of-self : goal.invariant_of-self
invariant_of-self c =
    let left = filter_same _ (λ claim. not (is_withdrawn c.args.withdrawal claim)) _ (λ x b f' k. search rules) _ _ c.retain.ensures.filtered in (
      record {
        order = rw left (AllPairs-filter (λ x y. comes_before 0 x y ≡ true) (λ claim. not (is_withdrawn c.args.withdrawal claim)) _ c.self.invariant.0.order);
        short = rw left (all_kept is_short (λ claim. not (is_withdrawn c.args.withdrawal claim)) _ c.self.invariant.0.short);
        few = rw left (omega (arith, filter_short (λ claim. not (is_withdrawn c.args.withdrawal claim)) c.self.inside.leaves.items, c.self.invariant.0.few));
        laid = rw c.deref.ensures.value at c.lay_out-self-inside.ensures.laid;
      },
      record {
        most = c.self.invariant.1.most;
        leaf_room = omega (arith, c.retain.ensures.capacity, c.self.invariant.1.leaf_room);
        branch_room = omega (arith, c.lay_out-self-inside.ensures.branch_room, c.self.invariant.1.branch_room);
        node_room = omega (arith, c.lay_out-self-inside.ensures.node_room, c.self.invariant.1.node_room);
      },
    )

pub returns-clause-leaves : goal.returns-clause-leaves
returns-clause-leaves c = rw (← c.self.view_is) (filter_same _ (λ claim. not (is_withdrawn c.args.withdrawal claim)) _ (λ x b f' k. search rules) _ _ c.retain.ensures.filtered)
