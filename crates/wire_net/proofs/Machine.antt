-- A machine on the wire in a tick, and in the silent ones behind it.
use Rattle.std.proofs.Common.{◌≡◌, ℕ, suc, ◌+◌, ◌<◌, ◌≤◌, true, List, [], ◌++◌, refl, sym, ◌∙◌, ap, subst, arith, inl, inr}
use Rattle.external_event.specs.declared.event.Occurrence.{Occurrence}
use Rattle.external_event.specs.EventValue.{EventValue}
use Rattle.external_event.specs.Order.{are_in_order}
use Rattle.world_model.specs.Event.{schedule_of}
use Rattle.world_model.specs.World.{World}
use Rattle.board_model.specs.Shown.{Shown}
use Rattle.board_model.specs.Showing.{world_of}
use Rattle.board_model.specs.Stretch.{IsQuiet}
use Rattle.board_model.specs.Ticks.{IsFresh}
use Rattle.aegis_tick.specs.Agenda.{AgendasAreRight, AreComing}
use Rattle.wire_model.specs.Laws.{BeginAtZero}
use Rattle.wire_model.specs.Wire.{Wire, after_tick, arrivals, sent_between, wired, world_on_wire}
use Rattle.wire_net.specs.declared.delivery.Delivery.{Delivery}
use Rattle.wire_net.specs.declared.net.Station.{Station}
use Rattle.wire_net.specs.Course.{CameSoFar}
use Rattle.wire_net.specs.Station.{AreCounted, Happened, IsAt, IsThrough, WentOn, happening_at, still_coming}
use Rattle.wire_net.proofs.Ahead.{IsWorldAt, ahead_by, none_between, quiet_on_wire, sent_by_then, steady_behind, steady_itself, world_from}
use Rattle.wire_net.proofs.Wiring.{Laws, came_into, came_to, coming_at, happening_is, sent_in_tick}

-- A machine stands at a tick between two, with what is still to come for it from there on.
pub record IsPlaced (t limit : ℕ) (all : List EventValue) (s : Station) (b : Shown) : Type 0 where
  pub later : t ≤ s.time
  pub most : s.time ≤ limit
  pub here : IsAt s b
  pub coming : AreComing all s.time s.agenda

pub placed_from : (t next limit : ℕ) (all : List EventValue) (s : Station) (b : Shown) → next ≤ s.time → IsPlaced t limit all s b → IsPlaced next limit all s b
placed_from t next limit all s b later placed = record { later = later; most = placed.most; here = placed.here; coming = placed.coming }

-- so it stands at the start
pub placed_first : (limit : ℕ) (all : List EventValue) (s : Station) (b : Shown) → IsFresh b → are_in_order 0 all ≡ true → s.time ≡ 0 → s.agenda ≡ all → AreCounted b s.sent.items
    → IsPlaced 0 limit all s b
placed_first limit all s b fresh ordered time agenda counted =
    let first : AreComing all 0 all = record { order = ordered; same = λ t from. refl } in
    record {
      later = omega arith;
      most = omega (arith, time);
      here = record {
        between = record { whole = fresh.whole; time = λ busy. fresh.time ∙ sym time; numbers = omega (arith, fresh.numbers) };
        counted = counted;
      };
      coming = subst (λ (t : ℕ). AreComing all t s.agenda) (sym time) (subst (AreComing all 0) (sym agenda) first);
    }

-- Nothing arrives behind a tick until another.
pub record IsUntil (t until limit : ℕ) : Type 0 where
  pub behind : t < until
  pub within : until ≤ limit

-- so it stands once it is through with a tick
pub placed_next : AgendasAreRight → (i t until limit : ℕ) (due : List Delivery) (all : List EventValue) (b : Shown) (s : Station) (c : Shown) (r : Station)
    → IsUntil t until limit → IsPlaced t limit all s b → IsThrough i t until due b s c r → IsPlaced (t + 1) limit all r c
placed_next agendas i t until limit due all b s c r is placed (inl ticked) =
    let went = ticked.went in
    let behind = is.behind in
    let within = is.within in
    let next = ticked.next in
    let before = went.before_arrival in
    let here = subst (λ (n : ℕ). AreComing all n s.agenda) went.turn placed.coming in
    let on = agendas.still all (still_coming t s.agenda) (t + 1) went.further (agendas.later all s.agenda t here) went.before_event in
    record {
      later = omega arith;
      most = omega arith;
      here = ticked.here;
      coming = subst (λ (n : ℕ). AreComing all n r.agenda) (sym next) (subst (AreComing all (t + 1 + went.further)) (sym ticked.agenda) on);
    }
placed_next agendas i t until limit due all b s c r is placed (inr ahead) =
    subst (λ (x : Shown). IsPlaced (t + 1) limit all r x) (sym ahead.board)
    (subst (λ (x : Station). IsPlaced (t + 1) limit all x b) (sym ahead.station)
    (placed_from t (t + 1) limit all s b (let later = ahead.later in omega arith) placed))

-- A machine on the wire before a tick: its board shows its world, and what is still to come for it, and what is due, is
-- what its schedule and the wire say.
pub record IsReady (net : Wire) (i t until limit : ℕ) (all : List EventValue) (s : Station) (deliveries : List Delivery) (b : Shown) : Type 0 where
  pub zeros : BeginAtZero net
  pub inside : i < net.count
  pub least : 1 ≤ net.delay
  pub schedule : (net.machines i).schedule ≡ schedule_of all
  pub placed : IsPlaced t limit all s b
  pub times : IsUntil t until limit
  pub due : deliveries ≡ coming_at net t
  pub none : (u : ℕ) → t + 1 ≤ u → u < until → coming_at net u ≡ []
  pub shown : IsWorldAt net i t s.time (world_of b)

module _ (laws : Laws) (net : Wire) (i t until limit : ℕ) (all : List EventValue) (s : Station) (due : List Delivery) (b : Shown)
    (ready : IsReady net i t until limit all s due b) where
  abbrev now : List Occurrence
  now = (net.machines i).schedule t ++ arrivals net (wired net t) t i

  coming_here : s.time ≡ t → AreComing all t s.agenda
  coming_here turn = subst (λ (n : ℕ). AreComing all n s.agenda) turn ready.placed.coming

  shown_here : s.time ≡ t → world_of b ≡ world_on_wire net i t
  shown_here turn = ready.shown.world ∙ ap (world_on_wire net i) turn

  happens_now : s.time ≡ t → happening_at i t due s.agenda ≡ now
  happens_now turn =
      ap (λ (xs : List Delivery). happening_at i t xs s.agenda) ready.due
      ∙ happening_is laws.frames laws.agendas net i t all s.agenda ready.zeros ready.least (ap (λ (schedule : ℕ → List Occurrence). schedule t) ready.schedule) (coming_here turn)

  next_shown : s.time ≡ t → after_tick (happening_at i t due s.agenda) (world_of b) ≡ world_on_wire net i (t + 1)
  next_shown turn =
      let one : suc t ≡ t + 1 = omega arith in
      ap (λ (xs : List Occurrence). after_tick xs (world_of b)) (happens_now turn)
      ∙ ap (after_tick now) (shown_here turn)
      ∙ sym (laws.ticks net i t ready.zeros ready.inside)
      ∙ ap (world_on_wire net i) one

  -- once it made the tick and went on it is ahead
  went_ahead : (c : Shown) (went : WentOn i t until due b s c) → IsWorldAt net i (t + 1) (t + 1 + went.further) (world_of c)
  went_ahead c went =
      let rest = still_coming t s.agenda in
      let coming = laws.agendas.later all s.agenda t (coming_here went.turn) in
      let own = laws.agendas.quiet all rest (t + 1) went.further coming went.before_event in
      let behind = ready.times.behind in
      let before = went.before_arrival in
      ahead_by laws net i ready.zeros ready.inside (t + 1) went.further (after_tick (happening_at i t due s.agenda) (world_of b)) (world_of c) (next_shown went.turn)
      (quiet_on_wire laws net i ready.zeros ready.inside (t + 1) (t + 1 + went.further) ready.least
      (subst (λ (schedule : ℕ → List Occurrence). IsQuiet schedule (t + 1) (t + 1 + went.further)) (sym ready.schedule) own)
      (λ u from below. ready.none u from (omega arith)))
      went.silent

  pub shown_next : (c : Shown) (r : Station) → IsThrough i t until due b s c r → IsWorldAt net i (t + 1) r.time (world_of c)
  shown_next c r (inl ticked) = subst (λ (n : ℕ). IsWorldAt net i (t + 1) n (world_of c)) (sym ticked.next) (went_ahead c ticked.went)
  shown_next c r (inr ahead) =
      subst (λ (x : Shown). IsWorldAt net i (t + 1) r.time (world_of x)) (sym ahead.board)
      (subst (λ (x : Station). IsWorldAt net i (t + 1) x.time (world_of b)) (sym ahead.station)
      (world_from net i t (t + 1) s.time (world_of b) (omega arith) ready.shown))

  -- what its board shows that it sent is what it sends in the tick
  pub sent_now : (c : Shown) (r : Station) → IsThrough i t until due b s c r → sent_between (world_of b) (world_of c) ≡ sent_in_tick net t i
  sent_now c r (inl ticked) =
      let went = ticked.went in
      let next = after_tick (happening_at i t due s.agenda) (world_of b) in
      sent_by_then (world_of b) next (world_of c) (steady_behind (t + 1) went.further next (world_of c) went.silent)
      ∙ ap (λ (w : World). sent_between w next) (shown_here went.turn)
      ∙ ap (sent_between (world_on_wire net i t)) (next_shown went.turn)
  sent_now c r (inr ahead) =
      ap (λ (x : Shown). sent_between (world_of b) (world_of x)) ahead.board
      ∙ none_between (world_of b) (world_of b) (world_of b) (steady_itself (world_of b)) (steady_itself (world_of b))
      ∙ sym (ready.shown.silent t (omega arith) ahead.later)

  -- where it was refused it came so far
  pub came_when : (c : Shown) → Happened i t until due b s c → CameSoFar (wired net limit i) (net.machines i).start limit (world_of c)
  came_when c (inl (inl part)) =
      let behind = ready.times.behind in
      let within = ready.times.within in
      came_into laws.worlds laws.happens laws.timed net i t limit (happening_at i t due s.agenda) (world_of b) (world_of c) ready.zeros ready.inside (omega arith)
      (shown_here part.turn) (happens_now part.turn) part.busy part.part
  came_when c (inl (inr went)) =
      let behind = ready.times.behind in
      let within = ready.times.within in
      let before = went.before_arrival in
      came_to laws.worlds net i (t + 1 + went.further) limit (world_of c) ready.zeros ready.inside (omega arith) (went_ahead c went).world
  came_when c (inr same) = came_to laws.worlds net i s.time limit (world_of c) ready.zeros ready.inside ready.placed.most (ap world_of same ∙ ready.shown.world)
