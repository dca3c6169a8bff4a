use Rattle.std.proofs.Common.{◌≡◌, ◌∙◌, ◌<◌, Some, ap, arith, length, sym}
use Rattle.filter_tree.specs.declared.node.Node.TheVariants.{Claim}
use Rattle.filter_tree.specs.Nodes.{Way, way}
use Rattle.filter_tree.specs.Tree.{lower_number}
use Rattle.filter_tree.proofs.Lowest.{lower_join, lower_none}
use Rattle.filter_tree.proofs.Ways.{is_node, nothing_behind, way_at}
use Rattle.filter_tree.proofs.walk.walk.Goals as goal

pub returns-then-lowest-least-clause-answer : goal.returns-then-lowest-least-clause-answer
returns-then-lowest-least-clause-answer g c =
    let nodes = c.args.nodes.now in
    let packet = c.args.packet.now in
    let at = c.past_tests-place.result in
    let read = c.past_tests-place.new.read in
    let below : at < length nodes = omega (arith, c.past_tests-place.ensures.onward, c.loop-place.invariant.within) in
    let node = Claim c.in-Claim.id c.in-Claim.other c.in-Claim.least in
    let good = is_node nodes at node c.requires.nodes below c.in-Claim.is in
    let here = way_at packet nodes at read node c.requires.nodes below c.in-Claim.is in
    let rest = way packet nodes c.in-Claim.other read in
    let joined = ap (λ x. lower_number x rest.found) c.lower_number-lowest.ensures ∙ sym (lower_join c.loop-place.found (Some c.in-Claim.id) rest.found)
    ∙ ap (λ (w : Way). lower_number c.loop-place.found w.found) (sym here) ∙ ap (lower_number c.loop-place.found) c.past_tests-place.ensures.found ∙ c.loop-place.invariant.answer in
    sym (good.1.none packet read c.lower_number-lowest.result c.if-lowest-least.true) ∙ joined

pub loop-place-preserved : goal.loop-place-preserved
loop-place-preserved g c =
    let nodes = c.args.nodes.now in
    let packet = c.args.packet.now in
    let at = c.past_tests-place.result in
    let read = c.past_tests-place.new.read in
    let below : at < length nodes = omega (arith, c.past_tests-place.ensures.onward, c.loop-place.invariant.within) in
    let node = Claim c.in-Claim.id c.in-Claim.other c.in-Claim.least in
    let good = is_node nodes at node c.requires.nodes below c.in-Claim.is in
    let here = way_at packet nodes at read node c.requires.nodes below c.in-Claim.is in
    let rest = way packet nodes c.in-Claim.other read in
    let joined = ap (λ x. lower_number x rest.found) c.lower_number-lowest.ensures ∙ sym (lower_join c.loop-place.found (Some c.in-Claim.id) rest.found)
    ∙ ap (λ (w : Way). lower_number c.loop-place.found w.found) (sym here) ∙ ap (lower_number c.loop-place.found) c.past_tests-place.ensures.found ∙ c.loop-place.invariant.answer in
    record {
      within = omega (arith, good.0, below);
      answer = joined;
      steps = omega (arith, ap (λ (w : Way). w.reads) here, c.past_tests-place.ensures.steps, c.loop-place.invariant.steps);
    }

pub returns-in_default : goal.returns-in_default
returns-in_default g c =
    let below : c.past_tests-place.result < length c.args.nodes.now = omega (arith, c.past_tests-place.ensures.onward, c.loop-place.invariant.within) in
    let none = nothing_behind c.args.packet.now c.args.nodes.now c.past_tests-place.result c.past_tests-place.new.read c.requires.nodes below c.past_tests-place.ensures.stop c.in_default.not-Claim in
    record {
      answer =
          sym (lower_none c.loop-place.found) ∙ ap (λ (w : Way). lower_number c.loop-place.found w.found) (sym none) ∙ ap (lower_number c.loop-place.found) c.past_tests-place.ensures.found
          ∙ c.loop-place.invariant.answer;
      steps = omega (arith, c.past_tests-place.ensures.steps, c.loop-place.invariant.steps);
    }
