-- One station more.
use Rattle.std.proofs.Common.{◌≡◌, ◌<◌, ℕ, arith, ap, sym, ◌∙◌, length, get_or, inl, inr}
use Rattle.std.proofs.lemmas.Bool.{cases_eq}
use Rattle.std.proofs.lemmas.List.{get_or_default}
use Rattle.wire_net.specs.declared.net.Station.{Station}
use Rattle.wire_net.proofs.net.first_tick.Goals as goal

pub loop-station-preserved : goal.loop-station-preserved
loop-station-preserved c =
    let stations = c.args.stations.now in
    let place = c.loop-station.station-index in
    let one = c.station-item.result in
    let within : place < length stations = omega arith in
    let is : (s : Station) → (get_or stations place s).time ≡ one.time =
    λ s. ap (λ (x : Station). x.time) (sym (c.station-item.is ∙ get_or_default stations place one s within)) in
    let lower = c.min-first.ensures in
    let loop = c.loop-station.invariant in
    record {
      most = let before = loop.most in omega (arith, lower);
      each = λ i s less. elim (cases_eq i place) [
        | inl here ↦
            let same = ap (λ (n : ℕ). (get_or stations n s).time) here ∙ is s in
            omega (arith, lower, same)
        | inr other ↦ let before = loop.each i s (omega arith) in omega (arith, lower, before)
      ];
      least = λ t most all.
          let before = loop.least t most all in
          let here = all place one within in
          let same = is one in
          omega (arith, lower, before, here, same);
    }
