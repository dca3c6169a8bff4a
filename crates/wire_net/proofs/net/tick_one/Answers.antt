-- The tick leaves the environments that are counted, and what they sent since then is sent; in the silent ticks behind it
-- nobody sends more.
use Rattle.std.proofs.Common.{◌∙◌, ◌≡◌, refl, ap, sym, subst, arith, ◌+◌, ◌-◌, ◌≤◌, ◌++◌, List, ℕ, length, drop, get_or, ◌<◌, inl, inr}
use Rattle.std.proofs.lemmas.List.{append-nil, with_items_is}
use Rattle.external_event.specs.EventValue.{EventValue}
use Rattle.board_model.specs.Showing.{world_of}
use Rattle.world_model.specs.World.{World}
use Rattle.aegis_tick.specs.Agenda.{next_time_of}
use Rattle.wire_model.specs.Wire.{after_tick}
use Rattle.wire_net.specs.Delivery.{deliveries_of}
use Rattle.wire_net.specs.Station.{AreCounted, AreSilent, happening}
use Rattle.wire_net.proofs.Ahead.{counted_behind, none_are_silent, none_between, sent_by_then, steady_behind, steady_itself}
use Rattle.wire_net.proofs.Happening.{on_err}
use Rattle.wire_net.proofs.Ticking.{same_count, sent_since}
use Rattle.wire_net.proofs.net.tick_one.Goals as goal

pub returns-then-station-moment-clause-out : goal.returns-then-station-moment-clause-out
returns-then-station-moment-clause-out c =
    let w = world_of c.args.board.now in
    let out = c.args.out.now.items in
    sym (ap (λ (packets : List (List ℕ)). out ++ deliveries_of c.args.machine c.args.moment.arrival packets) (none_between w w w (steady_itself w) (steady_itself w)) ∙ append-nil out)

pub send_new-requires-clause-envs : goal.send_new-requires-clause-envs
send_new-requires-clause-envs c =
    let happens = happening c.args.machine c.due-now.result.now c.args.due_now.now in
    ap length c.deref_mut.ensures.value ∙ c.requires.here.counted.count
    ∙ sym (ap (λ (w : World). w.count) c.in_ok-advance.ensures.world ∙ same_count happens (world_of c.args.board.now))

pub returns-in_err-send_new-clause-part : goal.returns-in_err-send_new-clause-part
returns-in_err-send_new-clause-part c =
    let time = c.args.moment.time in
    let due = c.args.due_now.now in
    let old = world_of c.args.board.now in
    let mid = world_of c.advance.new.board in
    let is = c.in_ok-advance.ensures.world ∙ ap (λ (events : List EventValue). after_tick (happening c.args.machine events due) old) c.due-now.ensures.now in
    let later = c.requires.later in
    let not = c.if-station-moment.false in
    on_err c.from_residual-in_err-send_new.result
    (inr (record {
      turn = omega arith;
      further = 0;
      silent = subst (λ (w : World). AreSilent (time + 1) 0 w mid) is (none_are_silent (time + 1) 0 mid refl);
      before_event = omega arith;
      before_arrival = omega arith;
    }))

pub returns-clause-through : goal.returns-clause-through
returns-clause-through c =
    let time = c.args.moment.time in
    let coming = c.args.station.now.agenda in
    let due = c.args.due_now.now in
    let ticks = c.run_on.result in
    let board = c.advance.new.board in
    let old = world_of c.args.board.now in
    let mid = world_of board in
    let new = world_of c.run_on.new.board in
    let later = c.requires.later in
    let not = c.if-station-moment.false in
    let is = c.in_ok-advance.ensures.world ∙ ap (λ (events : List EventValue). after_tick (happening c.args.machine events due) old) c.due-now.ensures.now in
    let rest = c.due-now.ensures.left ∙ ap (λ (events : List EventValue). drop (length events) coming) c.due-now.ensures.now in
    let known = with_items_is c.args.station.now.sent c.send_new.new.known (c.send_new.ensures.envs ∙ ap length c.deref_mut.ensures.value ∙ sym c.args.station.now.sent.ok.0) in
    let steady = steady_behind (time + 1) ticks mid new c.run_on.ensures.silent in
    inl (record {
      went = record {
        turn = omega arith;
        further = ticks;
        silent = subst (λ (w : World). AreSilent (time + 1) ticks w new) is c.run_on.ensures.silent;
        before_event = subst (λ (events : List EventValue). ticks ≤ next_time_of events - (time + 1)) rest c.run_on.ensures.before_event;
        before_arrival = c.run_on.ensures.before_arrival;
      };
      next = refl;
      agenda = rest;
      here = record {
        between = c.run_on.ensures.between;
        counted = counted_behind board c.run_on.new.board _ steady (subst (AreCounted board) (sym known) c.in_ok-send_new.ensures.counted);
      };
    })

pub returns-clause-out : goal.returns-clause-out
returns-clause-out c =
    let old = world_of c.args.board.now in
    let mid = world_of c.advance.new.board in
    let new = world_of c.run_on.new.board in
    let happens = happening c.args.machine c.due-now.result.now c.args.due_now.now in
    let same : mid.count ≡ old.count = ap (λ (w : World). w.count) c.in_ok-advance.ensures.world ∙ same_count happens old in
    let steady = steady_behind (c.args.moment.time + 1) c.run_on.result mid new c.run_on.ensures.silent in
    c.in_ok-send_new.ensures.sent
    ∙ ap (λ (packets : List (List ℕ)). c.args.out.now.items ++ deliveries_of c.args.machine c.args.moment.arrival packets)
    (sent_since old mid c.deref_mut.result.now
    (λ e within. ap (λ (counts : List ℕ). get_or counts e 0) c.deref_mut.ensures.value ∙ c.requires.here.counted.each e (subst (λ (n : ℕ). e < n) same within))
    ∙ sym (sent_by_then old mid new steady))
