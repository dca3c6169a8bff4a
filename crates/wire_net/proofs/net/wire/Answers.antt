-- Each turn of the loop is a tick of all machines that aren't ahead of it.
use Rattle.std.proofs.Common.{◌∙◌, ◌≡◌, ap, refl, sym, subst, ◌+◌, ◌<◌, ◌≤◌, ◌++◌, ℕ, List, [], arith, length}
use Rattle.std.specs.Vec.{with_items}
use Rattle.std.proofs.lemmas.List.{with_items_is}
use Rattle.wire_model.specs.Wire.{Wire}
use Rattle.wire_net.specs.Course.{IsWireOf}
use Rattle.wire_net.specs.Delivery.{due_at, first_arrival, rise_between}
use Rattle.wire_net.specs.Sending.{sent_by_all}
use Rattle.wire_net.specs.Stations.{NoneBefore}
use Rattle.wire_net.specs.declared.delivery.Delivery.{Delivery}
use Rattle.wire_net.proofs.Happening.{on_err}
use Rattle.wire_net.proofs.Machine.{IsUntil}
use Rattle.wire_net.proofs.Progress.{AllAhead, AllPlaced, AreMany, all_ahead_first, all_ahead_from, all_ahead_next, all_came_first, all_came_to, all_came_when, all_placed_first, all_placed_from, all_placed_next, all_show, due_next}
use Rattle.wire_net.proofs.Queue.{first_is_later, first_is_within, none_arrives, rises_earlier, rises_from_first, wider}
use Rattle.wire_net.proofs.Wiring.{Laws, none_at_first, witness}
use Rattle.wire_net.proofs.net.wire.Goals as goal
use Rattle.wire_net.proofs.net.wire.Goals.{After-deref, After-first_tick-time, After-put}

-- ---- at the start

pub loop-time-init : goal.loop-time-init
loop-time-init c =
    let boards = c.args.boards.now in
    let events = c.args.schedules.now in
    let stations = c.in_ok-stations.stations.items in
    let start = c.in_ok-stations.ensures in
    let empty = c.new-under_way.ensures.items in
    record {
      count = refl;
      stations = start.count;
      within = omega arith;
      placed = all_placed_first c.args.ticks events boards stations c.requires.fresh c.requires.order start;
      rise = ap (rise_between 0 (0 + c.args.delay)) empty;
      ahead = λ net is. all_ahead_first events c.args.delay net boards stations is start;
      due = λ net is s from before. ap (due_at s) empty ∙ sym (none_at_first net s (omega (arith, is.delay, before)));
    }

-- ---- before the tick of all machines

laws : (c : After-deref) → Laws
laws c = record {
  worlds = c.law_settled.ensures.worlds;
  frames = c.law_settled.ensures.frames;
  happens = c.law_tick.ensures.happens;
  ticks = c.law_tick.ensures.ticks;
  timed = c.law_time.ensures;
  agendas = c.law_agenda.ensures;
}

many : (c : After-deref) → AreMany (length c.args.boards.now) c.args.schedules.now c.loop-time.boards c.deref_mut.result.now
many c = record {
  schedules = c.requires.schedules;
  boards_are = c.loop-time.invariant.count;
  stations_are = ap length c.deref_mut.ensures.value ∙ c.loop-time.invariant.stations;
}

placed : (c : After-deref) → AllPlaced c.args.schedules.now c.loop-time.time c.args.ticks c.loop-time.boards c.deref_mut.result.now
placed c = subst (AllPlaced c.args.schedules.now c.loop-time.time c.args.ticks c.loop-time.boards) (sym c.deref_mut.ensures.value) c.loop-time.invariant.placed

ahead : (c : After-deref) (net : Wire) → IsWireOf c.args.boards.now c.args.schedules.now c.args.delay net → AllAhead net c.loop-time.time c.loop-time.boards c.deref_mut.result.now
ahead c net is = subst (AllAhead net c.loop-time.time c.loop-time.boards) (sym c.deref_mut.ensures.value) (c.loop-time.invariant.ahead net is)

times : (c : After-deref) → IsUntil c.loop-time.time c.first_arrival.result c.args.ticks
times c =
    let t = c.loop-time.time in
    let rest = c.take_due-due_now.new.queue.items in
    let is = c.first_arrival.ensures in
    let least = c.min.ensures in
    let before = c.loop-time-test.true in
    let delay = c.requires.delay_least in
    let most = first_is_within c.min.result rest in
    let later = first_is_later (t + 1) (t + c.args.delay) c.min.result rest c.take_due-due_now.ensures.rise (omega (arith, least, before, delay)) in
    record { behind = omega (arith, is, later); within = omega (arith, is, most, least) }

early : (c : After-deref) → c.first_arrival.result ≤ c.loop-time.time + c.args.delay
early c =
    let is = c.first_arrival.ensures in
    let least = c.min.ensures in
    let most = first_is_within c.min.result c.take_due-due_now.new.queue.items in
    omega (arith, is, most, least)

none : (c : After-deref) (u : ℕ) → u < c.first_arrival.result → due_at u c.take_due-due_now.new.queue.items ≡ []
none c u before =
    let is = c.first_arrival.ensures in
    none_arrives (c.loop-time.time + 1) (c.loop-time.time + c.args.delay) c.min.result u c.take_due-due_now.new.queue.items c.take_due-due_now.ensures.rise (omega (arith, is, before))

-- ---- behind it

-- after a tick of all machines: each is through with it, and none is refused
through_many : (c : After-put) → AreMany (length c.args.boards.now) c.args.schedules.now c.tick_all.new.boards c.tick_all.new.stations
through_many c = record {
  schedules = c.requires.schedules;
  boards_are = c.tick_all.ensures.count ∙ c.loop-time.invariant.count;
  stations_are = c.tick_all.ensures.stations ∙ ap length c.deref_mut.ensures.value ∙ c.loop-time.invariant.stations;
}

placed_behind : (c : After-put) → AllPlaced c.args.schedules.now (c.loop-time.time + 1) c.args.ticks c.tick_all.new.boards c.tick_all.new.stations
placed_behind c =
    let at = (goal.at.After-put c).After-deref in
    all_placed_next c.law_agenda.ensures (length c.args.boards.now) c.loop-time.time c.first_arrival.result c.args.ticks c.args.schedules.now c.loop-time.boards c.deref_mut.result.now c.deref.result.now
    c.tick_all.new.boards c.tick_all.new.stations (many at) (through_many c) (times at) (placed at) c.in_ok-tick_all.ensures.through

ahead_behind : (c : After-put) (net : Wire) → IsWireOf c.args.boards.now c.args.schedules.now c.args.delay net → AllAhead net (c.loop-time.time + 1) c.tick_all.new.boards c.tick_all.new.stations
ahead_behind c net is =
    let at = (goal.at.After-put c).After-deref in
    all_ahead_next (laws at) c.args.boards.now c.args.schedules.now c.args.delay net is c.requires.fresh c.requires.delay_least
    c.loop-time.time c.first_arrival.result c.args.ticks c.loop-time.boards c.deref_mut.result.now c.loop-time.under_way.items c.take_due-due_now.new.queue.items c.deref.result.now
    (many at) (times at) (early at) (placed at) (ahead at net is) (c.loop-time.invariant.due net is) (c.deref.ensures.value ∙ c.take_due-due_now.ensures.due) c.take_due-due_now.ensures.rest (none at)
    c.tick_all.new.boards c.tick_all.new.stations (through_many c) c.in_ok-tick_all.ensures.through

-- ---- the answers

pub returns-in_err-stations-clause-part : goal.returns-in_err-stations-clause-part
returns-in_err-stations-clause-part c =
    let now : Laws = record { worlds = c.law_settled.ensures.worlds; frames = c.law_settled.ensures.frames; happens = c.law_tick.ensures.happens; ticks = c.law_tick.ensures.ticks; timed = c.law_time.ensures; agendas = c.law_agenda.ensures } in
    on_err c.from_residual.result
    (λ net is. all_came_first now c.args.boards.now c.args.schedules.now c.args.delay net is c.requires.fresh c.requires.delay_least c.args.ticks)

pub tick_all-requires-clause-later : goal.tick_all-requires-clause-later
tick_all-requires-clause-later c = λ i s within.
    let at = (goal.at.tick_all-requires-clause-later c).After-deref in
    let are = many at in
    let boards = are.boards_are in
    let stations = are.stations_are in
    let inside : i < length c.loop-time.boards = omega (arith, boards, stations, within) in
    let b = witness c.loop-time.boards i inside in
    let v = witness c.args.schedules.now i (omega (arith, c.requires.schedules, boards, inside)) in
    (placed at i b s v inside).later

pub tick_all-requires-clause-here : goal.tick_all-requires-clause-here
tick_all-requires-clause-here c = λ i b s within.
    let at = (goal.at.tick_all-requires-clause-here c).After-deref in
    let count = c.loop-time.invariant.count in
    let v = witness c.args.schedules.now i (omega (arith, c.requires.schedules, within, count)) in
    (placed at i b s v within).here

pub returns-in_err-tick_all-clause-part : goal.returns-in_err-tick_all-clause-part
returns-in_err-tick_all-clause-part c =
    let at = (goal.at.returns-in_err-tick_all-clause-part c).After-deref in
    on_err c.from_residual-in_err-tick_all.result
    (λ net is.
    all_came_when (laws at) c.args.boards.now c.args.schedules.now c.args.delay net is c.requires.fresh c.requires.delay_least
    c.loop-time.time c.first_arrival.result c.args.ticks c.loop-time.boards c.deref_mut.result.now c.loop-time.under_way.items c.take_due-due_now.new.queue.items c.deref.result.now
    (many at) (times at) (early at) (placed at) (ahead at net is) (c.loop-time.invariant.due net is) (c.deref.ensures.value ∙ c.take_due-due_now.ensures.due) c.take_due-due_now.ensures.rest (none at)
    c.tick_all.new.boards (c.tick_all.ensures.count ∙ c.loop-time.invariant.count) c.in_err-tick_all.ensures.part)

pub returns-clause-world : goal.returns-clause-world
returns-clause-world c =
    let now : Laws = record { worlds = c.law_settled.ensures.worlds; frames = c.law_settled.ensures.frames; happens = c.law_tick.ensures.happens; ticks = c.law_tick.ensures.ticks; timed = c.law_time.ensures; agendas = c.law_agenda.ensures } in
    let loop = c.loop-time.invariant in
    λ net is.
    all_show now c.args.boards.now c.args.schedules.now c.args.delay net is c.requires.fresh c.requires.delay_least c.loop-time.time c.args.ticks c.loop-time.boards c.loop-time.stations.items
    c.loop-time-test.false (record { schedules = c.requires.schedules; boards_are = loop.count; stations_are = loop.stations }) loop.placed (loop.ahead net is)

pub returns-in_err-put-clause-part : goal.returns-in_err-put-clause-part
returns-in_err-put-clause-part c =
    let at = (goal.at.returns-in_err-put-clause-part c).After-put in
    let before = (goal.at.returns-in_err-put-clause-part c).After-deref in
    on_err c.from_residual-in_err-put.result
    (λ net is.
    all_came_to (laws before) c.args.boards.now c.args.schedules.now c.args.delay net is c.requires.fresh c.requires.delay_least (c.loop-time.time + 1) c.args.ticks
    c.tick_all.new.boards c.tick_all.new.stations (through_many at) (placed_behind at) (ahead_behind at net is))

-- ---- the next tick that one of them makes

stations_behind : (c : After-first_tick-time) → (with_items c.loop-time.stations c.tick_all.new.stations).items ≡ c.tick_all.new.stations
stations_behind c =
    with_items_is c.loop-time.stations c.tick_all.new.stations (c.tick_all.ensures.stations ∙ ap length c.deref_mut.ensures.value ∙ sym c.loop-time.stations.ok.0)

-- it is no later than any of theirs, and behind this one
each_later : (c : After-first_tick-time) → NoneBefore c.first_tick-time.result c.tick_all.new.stations
each_later c =
    subst (NoneBefore c.first_tick-time.result) (c.deref-in-loop-time.ensures.value ∙ stations_behind c) c.first_tick-time.ensures.each

later_than : (c : After-first_tick-time) → c.loop-time.time + 1 ≤ c.first_tick-time.result
later_than c =
    let t = c.loop-time.time in
    let at = (goal.at.After-first_tick-time c).After-put in
    let before = (goal.at.After-first_tick-time c).After-deref in
    let are = through_many at in
    let boards = are.boards_are in
    let stations = are.stations_are in
    let until = (times before).behind in
    let each : NoneBefore (t + 1) c.tick_all.new.stations =
    λ i s within.
    let b = witness c.tick_all.new.boards i (omega (arith, boards, stations, within)) in
    let v = witness c.args.schedules.now i (omega (arith, c.requires.schedules, stations, within)) in
    (placed_behind at i b s v (omega (arith, boards, stations, within))).later in
    c.first_tick-time.ensures.least (t + 1) (omega (arith, until))
    (subst (NoneBefore (t + 1)) (sym (c.deref-in-loop-time.ensures.value ∙ stations_behind c)) each)

pub loop-time-smaller : goal.loop-time-smaller
loop-time-smaller c =
    let before = c.loop-time-test.true in
    let later = later_than (goal.at.loop-time-smaller c).After-first_tick-time in
    omega (arith, before, later)

pub loop-time-preserved : goal.loop-time-preserved
loop-time-preserved c =
    let last = (goal.at.loop-time-preserved c).After-first_tick-time in
    let at = (goal.at.loop-time-preserved c).After-put in
    let before = (goal.at.loop-time-preserved c).After-deref in
    let t = c.loop-time.time in
    let next = c.first_tick-time.result in
    let arrival = t + c.args.delay in
    let boards = c.tick_all.new.boards in
    let stations = c.tick_all.new.stations in
    let rest = c.take_due-due_now.new.queue.items in
    let put = c.put.new.queue.items in
    let rises = c.take_due-due_now.ensures.rise in
    let behind = stations_behind last in
    let are = through_many at in
    let later = later_than last in
    let most = c.first_tick-time.ensures.most in
    let within = (times before).within in
    let soon = early before in
    let until = c.first_arrival.ensures in
    let from = rises_earlier next (first_arrival c.min.result rest) arrival rest (rises_from_first (t + 1) arrival c.min.result rest rises) (omega (arith, most, until)) in
    record {
      count = are.boards_are;
      stations = ap length behind ∙ are.stations_are;
      within = omega (arith, most, within);
      placed = subst (AllPlaced c.args.schedules.now next c.args.ticks boards) (sym behind)
          (all_placed_from (t + 1) next c.args.ticks c.args.schedules.now boards stations (are.stations_are ∙ sym are.boards_are) (each_later last) (placed_behind at));
      rise = wider next (arrival + 1) (next + c.args.delay) put (c.in_ok-put.ensures.rise next (omega (arith, most, soon)) from) (omega (arith, later));
      ahead = λ net is. subst (AllAhead net next boards) (sym behind)
          (all_ahead_from (laws before) c.args.boards.now c.args.schedules.now c.args.delay net is c.requires.fresh c.requires.delay_least (t + 1) next boards stations later (ahead_behind at net is));
      due = λ net is.
          let b = witness c.args.boards.now 0 c.requires.some in
          due_next (laws before) c.args.boards.now c.args.schedules.now c.args.delay net is c.requires.fresh c.requires.delay_least
          t c.first_arrival.result c.args.ticks c.loop-time.boards c.deref_mut.result.now c.loop-time.under_way.items rest c.deref.result.now
          (many before) (times before) soon (placed before) (ahead before net is) (c.loop-time.invariant.due net is) (c.deref.ensures.value ∙ c.take_due-due_now.ensures.due) c.take_due-due_now.ensures.rest (none before)
          boards stations are c.in_ok-tick_all.ensures.through
          next c.tick_all.new.out.items put b later (each_later last)
          (c.in_ok-tick_all.ensures.out b ∙ ap (λ (xs : List Delivery). xs ++ sent_by_all arrival c.loop-time.boards boards b) c.new-out.ensures.items)
          c.in_ok-put.ensures.others (c.in_ok-put.ensures.last (t + 1) rises) (c.in_ok-put.ensures.rise (t + 1) (omega (arith, c.requires.delay_least)) rises);
    }
