-- Each turn of the loop is a machine more.
use Rattle.std.proofs.Common.{◌∙◌, ◌≡◌, ap, subst, ◌++◌, ◌<◌, ℕ, arith, length, length-set, get_or}
use Rattle.std.proofs.lemmas.List.{get_or_default}
use Rattle.board_model.specs.Shown.{Shown}
use Rattle.wire_net.specs.declared.net.Station.{Station}
use Rattle.wire_net.specs.Sending.{sent_by_first}
use Rattle.wire_net.specs.Station.{IsThrough, Partly}
use Rattle.wire_net.proofs.Happening.{on_err}
use Rattle.wire_net.proofs.Ticking.{done_more, left_more, out_more, refused_each}
use Rattle.wire_net.proofs.net.tick_all.Goals as goal

pub returns-in_err-tick_one-clause-part : goal.returns-in_err-tick_one-clause-part
returns-in_err-tick_one-clause-part c =
    let place = c.loop-place.place in
    let t = c.args.moment.time in
    let until = c.args.moment.until in
    let due = c.args.due_now.now in
    let loop = c.loop-place.invariant in
    let within : place < length c.loop-place.boards = omega (arith, c.loop-place-test.true, loop.count) in
    let inside : place < length c.loop-place.stations = omega (arith, c.loop-place-test.true, loop.stations, c.requires.stations) in
    let old = get_or c.loop-place.boards place c.index-boards-place.result in
    let before = get_or c.loop-place.stations place c.index-stations-place.result in
    let was : (b : Shown) → old ≡ get_or c.args.boards.now place b =
    λ b. get_or_default c.loop-place.boards place c.index-boards-place.result b within ∙ loop.left place b (omega arith) in
    let stood : (s : Station) → before ≡ get_or c.args.stations.now place s =
    λ s. get_or_default c.loop-place.stations place c.index-stations-place.result s inside ∙ loop.left_stations place s (omega arith) in
    on_err c.from_residual.result (λ i b s less.
    refused_each t until due c.args.boards.now c.loop-place.boards c.args.stations.now c.loop-place.stations place c.tick_one.new.board within loop.done loop.left
    (λ b s.
    subst (λ (x : Shown). Partly place t until due x (get_or c.args.stations.now place s) c.tick_one.new.board) (was b)
    (subst (λ (x : Station). Partly place t until due old x c.tick_one.new.board) (stood s) c.in_err-tick_one.ensures.part))
    i b s)

pub loop-place-preserved : goal.loop-place-preserved
loop-place-preserved c =
    let place = c.loop-place.place in
    let t = c.args.moment.time in
    let until = c.args.moment.until in
    let due = c.args.due_now.now in
    let loop = c.loop-place.invariant in
    let board = c.tick_one.new.board in
    let station = c.tick_one.new.station in
    let within : place < length c.loop-place.boards = omega (arith, c.loop-place-test.true, loop.count) in
    let inside : place < length c.loop-place.stations = omega (arith, c.loop-place-test.true, loop.stations, c.requires.stations) in
    let old = get_or c.loop-place.boards place c.index-boards-place.result in
    let before = get_or c.loop-place.stations place c.index-stations-place.result in
    let was : (b : Shown) → old ≡ get_or c.args.boards.now place b =
    λ b. get_or_default c.loop-place.boards place c.index-boards-place.result b within ∙ loop.left place b (omega arith) in
    let stood : (s : Station) → before ≡ get_or c.args.stations.now place s =
    λ s. get_or_default c.loop-place.stations place c.index-stations-place.result s inside ∙ loop.left_stations place s (omega arith) in
    record {
      count = length-set c.loop-place.boards place board ∙ loop.count;
      stations = length-set c.loop-place.stations place station ∙ loop.stations;
      done = done_more (λ (i : ℕ) (b : Shown) (s : Station) (v : Shown) (r : Station). IsThrough i t until due b s v r) c.args.boards.now c.loop-place.boards c.args.stations.now c.loop-place.stations place board station within inside loop.done
          (λ b s.
          subst (λ (x : Shown). IsThrough place t until due x (get_or c.args.stations.now place s) board station) (was b)
          (subst (λ (x : Station). IsThrough place t until due old x board station) (stood s) c.in_ok-tick_one.ensures.through));
      left = left_more c.args.boards.now c.loop-place.boards place board loop.left;
      left_stations = left_more c.args.stations.now c.loop-place.stations place station loop.left_stations;
      out = λ b. out_more c.args.moment.arrival c.args.boards.now c.loop-place.boards place board b old c.args.out.now.items c.loop-place.out.items c.tick_one.new.out.items within (was b) (loop.out b) c.in_ok-tick_one.ensures.out;
    }

pub returns-clause-out : goal.returns-clause-out
returns-clause-out c = λ b.
    let whole : c.loop-place.place ≡ length c.args.boards.now = omega (arith, c.loop-place-test.false, c.loop-place.auto.place-end) in
    c.loop-place.invariant.out b ∙ ap (λ (n : ℕ). c.args.out.now.items ++ sent_by_first n c.args.moment.arrival c.args.boards.now c.loop-place.boards b) whole
