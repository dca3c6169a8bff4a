use Rattle.std.proofs.Common.{◌≡◌, ◌+◌, ◌-◌, ◌<◌, [], ◌∷◌, ◌++◌, true, ap, arith, drop, length, sym, ◌∙◌, subst, refl}
use Rattle.std.specs.Prelude.{slice_index_or}
use Rattle.std.proofs.lemmas.List.{drop_more}
use Rattle.filter_core.specs.declared.atom.Atom.{Atom}
use Rattle.filter_core.specs.Filters.{is_filter}
use Rattle.filter_tree.specs.ClaimBook.{ClaimValue}
use Rattle.filter_tree.specs.Laying.{IsLaid, test_node}
use Rattle.filter_tree.proofs.Laid.{test_laid}
use Rattle.filter_tree.proofs.Parting.{alone_branch, good_atom}
use Rattle.filter_tree.proofs.laying.lay_alone.Goals as goal

pub loop-left-preserved : goal.loop-left-preserved
loop-left-preserved c =
    let leaf = c.args.leaf.now in
    let none : Atom = record { offset = 0; width = 0; mask = 0; value = 0 } in
    let left = c.loop-left.left - 1 in
    let a : Atom = slice_index_or leaf.filter left none in
    let within : left < length leaf.filter = omega (arith, c.loop-left.invariant.within c.loop-left-test.true, c.loop-left-test.true) in
    let more : left + 1 ≡ c.loop-left.left = omega (arith, c.loop-left-test.true) in
    let alone = alone_branch left leaf a (drop (left + 1) leaf.filter) (drop_more leaf.filter left none within) in
    let inside = ap (λ (x : ClaimValue). x.filter) c.leaf.view_is in
    let good = good_atom leaf.filter left none (subst (λ f. is_filter f ≡ true) inside c.atoms-atoms.ensures.rule) within in
    let laid : IsLaid (left + 1) (leaf ∷ []) c.args.next c.args.nodes.now.items c.loop-left.nodes.items c.loop-left.inside =
    subst (λ n. IsLaid n (leaf ∷ []) c.args.next c.args.nodes.now.items c.loop-left.nodes.items c.loop-left.inside) (sym more) c.loop-left.invariant.laid in
    record {
      above = omega (arith, c.loop-left-test.true);
      within = λ _. omega (arith, within);
      laid = test_laid left a (leaf ∷ []) c.args.next c.loop-left.inside _ c.args.nodes.now.items c.loop-left.nodes.items c.push-inside.new.nodes.items c.requires.next good alone.0 alone.1 laid
          c.push-inside.ensures.place c.push-inside.ensures.least
          (c.push-inside.ensures.nodes ∙ ap (λ n. c.loop-left.nodes.items ++ n ∷ []) c.test_node-node.ensures ∙ ap (λ f. c.loop-left.nodes.items ++ test_node (slice_index_or f left none) c.loop-left.inside.place c.args.next.place ∷ []) (c.atoms-atoms.ensures.atoms ∙ inside));
      room = omega (arith, c.push-inside.ensures.room, c.loop-left.invariant.room);
    }
