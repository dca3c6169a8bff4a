use Rattle.std.proofs.Common.{◌≡◌, ◌<◌, ◌∙◌, ap, arith, length, sym, true, false}
use Rattle.std.specs.Prelude.{◌==◌, bit_and, nat_lt}
use Rattle.std.proofs.lemmas.Bool.{eq-eqb, le-ltb, lt-ltb, ne_eqb}
use Rattle.filter_core.specs.Matching.{atom_matches, field}
use Rattle.filter_tree.specs.declared.node.Node.TheVariants.{Test, Read, Below, Equal}
use Rattle.filter_tree.specs.Nodes.{Way, found_at, reads_at}
use Rattle.filter_tree.proofs.Reaching.{read_none, read_some}
use Rattle.filter_tree.proofs.Ways.{is_node, way_at}
use Rattle.filter_tree.proofs.walk.past_tests.Goals as goal

pub loop-place-preserved-then-matches : goal.loop-place-preserved-then-matches
loop-place-preserved-then-matches g c =
    let nodes = c.args.nodes.now in
    let packet = c.args.packet.now in
    let node = Test c.in-Test.atom c.in-Test.hit c.in-Test.miss in
    let below : c.loop-place.place < length nodes = omega (arith, c.loop-place.invariant.within, c.requires.within) in
    let is = c.in-Test.is in
    let good = is_node nodes c.loop-place.place node c.requires.nodes below is in
    let test : atom_matches c.in-Test.atom packet ≡ true = sym c.matches.ensures ∙ c.if-matches.true in
    let here = rw test at (way_at packet nodes c.loop-place.place c.loop-place.read node c.requires.nodes below is) in
    record {
      within = omega (arith, good.1, c.loop-place.invariant.within);
      found = ap (λ (w : Way). w.found) (sym here) ∙ c.loop-place.invariant.found;
      steps = omega (arith, ap (λ (w : Way). w.reads) here, c.loop-place.invariant.steps, c.tick.ensures);
    }

pub loop-place-preserved-else-matches : goal.loop-place-preserved-else-matches
loop-place-preserved-else-matches g c =
    let nodes = c.args.nodes.now in
    let packet = c.args.packet.now in
    let node = Test c.in-Test.atom c.in-Test.hit c.in-Test.miss in
    let below : c.loop-place.place < length nodes = omega (arith, c.loop-place.invariant.within, c.requires.within) in
    let is = c.in-Test.is in
    let good = is_node nodes c.loop-place.place node c.requires.nodes below is in
    let test : atom_matches c.in-Test.atom packet ≡ false = sym c.matches.ensures ∙ c.if-matches.false in
    let here = rw test at (way_at packet nodes c.loop-place.place c.loop-place.read node c.requires.nodes below is) in
    record {
      within = omega (arith, good.2, c.loop-place.invariant.within);
      found = ap (λ (w : Way). w.found) (sym here) ∙ c.loop-place.invariant.found;
      steps = omega (arith, ap (λ (w : Way). w.reads) here, c.loop-place.invariant.steps, c.tick.ensures);
    }

pub loop-place-preserved-in-Byte-1 : goal.loop-place-preserved-in-Byte-1
loop-place-preserved-in-Byte-1 g c =
    let behind = c.past_bytes-place.ensures in
    record {
      within = omega (arith, behind.onward c.in-Byte.atom c.in-Byte.hit c.in-Byte.miss c.in-Byte.is, c.loop-place.invariant.within);
      found = behind.found c.loop-place.read ∙ c.loop-place.invariant.found;
      steps = omega (arith, behind.steps c.loop-place.read, c.loop-place.invariant.steps);
    }

pub loop-place-preserved-then-read-bound : goal.loop-place-preserved-then-read-bound
loop-place-preserved-then-read-bound g c =
    let nodes = c.args.nodes.now in
    let packet = c.args.packet.now in
    let node = Below c.in-Below.bound c.in-Below.low c.in-Below.high in
    let below : c.loop-place.place < length nodes = omega (arith, c.loop-place.invariant.within, c.requires.within) in
    let is = c.in-Below.is in
    let good = is_node nodes c.loop-place.place node c.requires.nodes below is in
    let test : nat_lt c.loop-place.read c.in-Below.bound ≡ true = lt-ltb c.loop-place.read c.in-Below.bound c.if-read-bound.true in
    let here = rw test at (way_at packet nodes c.loop-place.place c.loop-place.read node c.requires.nodes below is) in
    record {
      within = omega (arith, good.0, c.loop-place.invariant.within);
      found = ap (λ (w : Way). w.found) (sym here) ∙ c.loop-place.invariant.found;
      steps = omega (arith, ap (λ (w : Way). w.reads) here, c.loop-place.invariant.steps);
    }

pub loop-place-preserved-else-read-bound : goal.loop-place-preserved-else-read-bound
loop-place-preserved-else-read-bound g c =
    let nodes = c.args.nodes.now in
    let packet = c.args.packet.now in
    let node = Below c.in-Below.bound c.in-Below.low c.in-Below.high in
    let below : c.loop-place.place < length nodes = omega (arith, c.loop-place.invariant.within, c.requires.within) in
    let is = c.in-Below.is in
    let good = is_node nodes c.loop-place.place node c.requires.nodes below is in
    let test : nat_lt c.loop-place.read c.in-Below.bound ≡ false = le-ltb c.loop-place.read c.in-Below.bound c.if-read-bound.false in
    let here = rw test at (way_at packet nodes c.loop-place.place c.loop-place.read node c.requires.nodes below is) in
    record {
      within = omega (arith, good.1, c.loop-place.invariant.within);
      found = ap (λ (w : Way). w.found) (sym here) ∙ c.loop-place.invariant.found;
      steps = omega (arith, ap (λ (w : Way). w.reads) here, c.loop-place.invariant.steps);
    }

pub loop-place-preserved-then-value-read : goal.loop-place-preserved-then-value-read
loop-place-preserved-then-value-read g c =
    let nodes = c.args.nodes.now in
    let packet = c.args.packet.now in
    let node = Equal c.in-Equal.value c.in-Equal.hit c.in-Equal.miss in
    let below : c.loop-place.place < length nodes = omega (arith, c.loop-place.invariant.within, c.requires.within) in
    let is = c.in-Equal.is in
    let good = is_node nodes c.loop-place.place node c.requires.nodes below is in
    let test : (c.in-Equal.value == c.loop-place.read) ≡ true = eq-eqb c.in-Equal.value c.loop-place.read c.if-value-read.true in
    let here = rw test at (way_at packet nodes c.loop-place.place c.loop-place.read node c.requires.nodes below is) in
    record {
      within = omega (arith, good.0, c.loop-place.invariant.within);
      found = ap (λ (w : Way). w.found) (sym here) ∙ c.loop-place.invariant.found;
      steps = omega (arith, ap (λ (w : Way). w.reads) here, c.loop-place.invariant.steps);
    }

pub loop-place-preserved : goal.loop-place-preserved
loop-place-preserved g c =
    let nodes = c.args.nodes.now in
    let packet = c.args.packet.now in
    let node = Equal c.in-Equal.value c.in-Equal.hit c.in-Equal.miss in
    let below : c.loop-place.place < length nodes = omega (arith, c.loop-place.invariant.within, c.requires.within) in
    let is = c.in-Equal.is in
    let good = is_node nodes c.loop-place.place node c.requires.nodes below is in
    let test : (c.in-Equal.value == c.loop-place.read) ≡ false = ne_eqb c.in-Equal.value c.loop-place.read c.if-value-read.false in
    let here = rw test at (way_at packet nodes c.loop-place.place c.loop-place.read node c.requires.nodes below is) in
    record {
      within = omega (arith, good.1, c.loop-place.invariant.within);
      found = ap (λ (w : Way). w.found) (sym here) ∙ c.loop-place.invariant.found;
      steps = omega (arith, ap (λ (w : Way). w.reads) here, c.loop-place.invariant.steps);
    }

pub loop-place-preserved-in-Some : goal.loop-place-preserved-in-Some
loop-place-preserved-in-Some g c =
    let nodes = c.args.nodes.now in
    let packet = c.args.packet.now in
    let node = Read c.in-Read.atom c.in-Read.hit c.in-Read.miss in
    let below : c.loop-place.place < length nodes = omega (arith, c.loop-place.invariant.within, c.requires.within) in
    let is = c.in-Read.is in
    let good = is_node nodes c.loop-place.place node c.requires.nodes below is in
    let read = read_some _ _ _ c.in-Some.ensures in
    let test = read.0 in
    let value : bit_and c.in-Some.field c.in-Read.atom.mask ≡ bit_and (field c.in-Read.atom.offset c.in-Read.atom.width packet) c.in-Read.atom.mask = ap (λ n. bit_and n c.in-Read.atom.mask) read.1 in
    let here = rw test at (way_at packet nodes c.loop-place.place c.loop-place.read node c.requires.nodes below is) in
    record {
      within = omega (arith, good.1, c.loop-place.invariant.within);
      found = ap (λ v. found_at packet nodes c.in-Read.hit v) value ∙ ap (λ (w : Way). w.found) (sym here) ∙ c.loop-place.invariant.found;
      steps = omega (arith, ap (λ v. reads_at packet nodes c.in-Read.hit v) value, ap (λ (w : Way). w.reads) here, c.loop-place.invariant.steps, c.tick-in-Read.ensures);
    }

pub loop-place-preserved-in-None : goal.loop-place-preserved-in-None
loop-place-preserved-in-None g c =
    let nodes = c.args.nodes.now in
    let packet = c.args.packet.now in
    let node = Read c.in-Read.atom c.in-Read.hit c.in-Read.miss in
    let below : c.loop-place.place < length nodes = omega (arith, c.loop-place.invariant.within, c.requires.within) in
    let is = c.in-Read.is in
    let good = is_node nodes c.loop-place.place node c.requires.nodes below is in
    let test = read_none _ _ c.in-None.ensures in
    let here = rw test at (way_at packet nodes c.loop-place.place c.loop-place.read node c.requires.nodes below is) in
    record {
      within = omega (arith, good.2, c.loop-place.invariant.within);
      found = ap (λ (w : Way). w.found) (sym here) ∙ c.loop-place.invariant.found;
      steps = omega (arith, ap (λ (w : Way). w.reads) here, c.loop-place.invariant.steps, c.tick-in-Read.ensures);
    }
