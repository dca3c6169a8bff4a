use Rattle.std.proofs.Common.{◌≡◌, ◌∙◌, ◌<◌, length, ap, arith, inl, inr, sym, ℕ, refl}
use Rattle.std.specs.Prelude.{slice_index_or}
use Rattle.std.proofs.lemmas.Bool.{cases_Bool, cases_eq}
use Rattle.filter_core.specs.Matching.{atom_matches}
use Rattle.filter_tree.specs.declared.node.Node.TheVariants.{Byte, End}
use Rattle.filter_tree.specs.Nodes.{Way}
use Rattle.filter_tree.proofs.Ways.{is_node, way_at}
use Rattle.filter_tree.proofs.walk.past_bytes.Goals as goal

pub loop-place-init : goal.loop-place-init
loop-place-init g c = record { within = omega arith; found = λ v. refl; steps = λ v. omega arith }

pub loop-place-preserved : goal.loop-place-preserved
loop-place-preserved g c =
    let nodes = c.args.nodes.now in
    let packet = c.args.packet.now in
    let a = c.in-Byte.atom in
    let node = Byte a c.in-Byte.hit c.in-Byte.miss in
    let below : c.loop-place.place < length nodes = omega (arith, c.loop-place.invariant.within, c.requires.within) in
    let good = is_node nodes c.loop-place.place node c.requires.nodes below c.in-Byte.is in
    let here = λ (v : ℕ). way_at packet nodes c.loop-place.place v node c.requires.nodes below c.in-Byte.is in
    elim (cases_Bool (atom_matches a packet)) [
      | inl is ↦
          let onward : c.onward-place.result ≡ c.in-Byte.hit = rw is at c.onward-place.ensures in
          record {
            within = omega (arith, good.1, onward, c.loop-place.invariant.within);
            found = λ v. rw onward (ap (λ (w : Way). w.found) (sym (rw is at (here v))) ∙ c.loop-place.invariant.found v);
            steps = λ v. rw onward (omega (arith, ap (λ (w : Way). w.reads) (rw is at (here v)), c.loop-place.invariant.steps v, c.tick.ensures));
          }
      | inr differs ↦
          let onward : c.onward-place.result ≡ c.in-Byte.miss = rw differs at c.onward-place.ensures in
          record {
            within = omega (arith, good.2, onward, c.loop-place.invariant.within);
            found = λ v. rw onward (ap (λ (w : Way). w.found) (sym (rw differs at (here v))) ∙ c.loop-place.invariant.found v);
            steps = λ v. rw onward (omega (arith, ap (λ (w : Way). w.reads) (rw differs at (here v)), c.loop-place.invariant.steps v, c.tick.ensures));
          }
    ]

pub returns-clause-onward : goal.returns-clause-onward
returns-clause-onward g c = λ a hit miss is.
    let nodes = c.args.nodes.now in
    elim (cases_eq c.loop-place.place c.args.start) [
      | inl same ↦ absurd (c.in_default.not-Byte a hit miss (ap (λ n. slice_index_or nodes n End) same ∙ is))
      | inr other ↦ omega (arith, other, c.loop-place.invariant.within)
    ]
