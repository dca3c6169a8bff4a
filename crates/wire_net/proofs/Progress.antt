-- From tick to tick.
use Rattle.std.proofs.Common.{◌≡◌, ℕ, ◌+◌, ◌-◌, ◌<◌, ◌≤◌, List, [], length, get_or, sym, ◌∙◌, ap, arith, subst, inl, inr, true}
use Rattle.std.specs.Prelude.{Vec}
use Rattle.std.specs.Global.{Global}
use Rattle.std.proofs.lemmas.Bool.{cases_eq, cases_lt}
use Rattle.external_event.specs.EventValue.{EventValue}
use Rattle.external_event.specs.Order.{are_in_order}
use Rattle.board_model.specs.Shown.{Shown}
use Rattle.board_model.specs.Showing.{world_of}
use Rattle.board_model.specs.Ticks.{IsFresh}
use Rattle.aegis_tick.specs.Agenda.{AgendasAreRight}
use Rattle.wire_model.specs.Laws.{BeginAtZero}
use Rattle.wire_model.specs.Wire.{Wire, sent_between, world_on_wire}
use Rattle.wire_net.specs.declared.delivery.Batch.{Batch}
use Rattle.wire_net.specs.declared.delivery.Delivery.{Delivery}
use Rattle.wire_net.specs.declared.net.Station.{Station}
use Rattle.wire_net.specs.Course.{AllCameSoFar, AllShow, IsWireOf}
use Rattle.wire_net.specs.Delivery.{Rise, due_at}
use Rattle.wire_net.specs.Sending.{sent_by_all}
use Rattle.wire_net.specs.Stations.{AreAtStart, AreThrough, HaveHappened, NoneBefore}
use Rattle.wire_net.proofs.Ahead.{IsWorldAt, world_from}
use Rattle.wire_net.proofs.Machine.{IsPlaced, IsReady, IsUntil, came_when, placed_first, placed_from, placed_next, sent_now, shown_next}
use Rattle.wire_net.proofs.Queue.{none_from}
use Rattle.wire_net.proofs.Wiring.{Laws, begin_at_zero, came_to, coming_at, none_is_coming, sent_in_tick, sent_is_coming, shown_first, witness}

-- all machines stand between two ticks
abbrev pub AllPlaced : List (Vec EventValue Global) → ℕ → ℕ → List Shown → List Station → Type 0
AllPlaced events t limit boards stations = (i : ℕ) (b : Shown) (s : Station) (v : Vec EventValue Global) → i < length boards
    → IsPlaced t limit (get_or events i v).items (get_or stations i s) (get_or boards i b)

-- each board shows its world at the tick that it makes next
abbrev pub AllAhead : Wire → ℕ → List Shown → List Station → Type 0
AllAhead net t boards stations = (i : ℕ) (b : Shown) (s : Station) → i < length boards
    → IsWorldAt net i t (get_or stations i s).time (world_of (get_or boards i b))

-- how many boards, stations and schedules there are
pub record AreMany (count : ℕ) (events : List (Vec EventValue Global)) (boards : List Shown) (stations : List Station) : Type 0 where
  pub schedules : length events ≡ count
  pub boards_are : length boards ≡ count
  pub stations_are : length stations ≡ count

-- so they stand at the start
pub all_placed_first : (limit : ℕ) (events : List (Vec EventValue Global)) (boards : List Shown) (stations : List Station) → ((i : ℕ) (b : Shown) → i < length boards → IsFresh (get_or boards i b))
    → ((i : ℕ) (v : Vec EventValue Global) → i < length boards → are_in_order 0 (get_or events i v).items ≡ true) → AreAtStart boards events stations → AllPlaced events 0 limit boards stations
all_placed_first limit events boards stations fresh ordered start i b s v within =
    placed_first limit (get_or events i v).items (get_or stations i s) (get_or boards i b) (fresh i b within) (ordered i v within) (start.time i s within) (start.agenda i s v within) (start.sent i s b within)

pub all_ahead_first : (events : List (Vec EventValue Global)) (delay : ℕ) (net : Wire) (boards : List Shown) (stations : List Station) → IsWireOf boards events delay net
    → AreAtStart boards events stations → AllAhead net 0 boards stations
all_ahead_first events delay net boards stations is start i b s within =
    let time = start.time i s within in
    record {
      world = shown_first boards events delay net is i b within ∙ ap (world_on_wire net i) (sym time);
      silent = λ u from before. absurd (omega arith);
    }

pub all_placed_next : AgendasAreRight → (count t until limit : ℕ) (events : List (Vec EventValue Global)) (boards : List Shown) (stations : List Station) (now : List Delivery) (next : List Shown) (behind : List Station)
    → AreMany count events boards stations → AreMany count events next behind → IsUntil t until limit → AllPlaced events t limit boards stations
    → AreThrough t until now boards stations next behind → AllPlaced events (t + 1) limit next behind
all_placed_next agendas count t until limit events boards stations now next behind are becoming is placed through i b s v within =
    let many = are.boards_are in
    let more = becoming.boards_are in
    placed_next agendas i t until limit now (get_or events i v).items (get_or boards i b) (get_or stations i s) (get_or next i b) (get_or behind i s) is
    (placed i b s v (omega arith)) (through i b s (omega arith))

pub all_placed_from : (t next limit : ℕ) (events : List (Vec EventValue Global)) (boards : List Shown) (stations : List Station) → length stations ≡ length boards
    → NoneBefore next stations → AllPlaced events t limit boards stations → AllPlaced events next limit boards stations
all_placed_from t next limit events boards stations same each placed i b s v within =
    placed_from t next limit (get_or events i v).items (get_or stations i s) (get_or boards i b) (each i s (omega arith)) (placed i b s v within)

-- the boards at the start, and their schedules
module _ (laws : Laws) (first : List Shown) (events : List (Vec EventValue Global)) (delay : ℕ) (net : Wire) (is : IsWireOf first events delay net)
    (fresh : (i : ℕ) (b : Shown) → i < length first → IsFresh (get_or first i b)) (least : 1 ≤ delay) where
  zeros : BeginAtZero net
  zeros = begin_at_zero first events delay net is fresh

  inside : (i : ℕ) → i < length first → i < net.count
  inside i within = subst (λ (n : ℕ). i < n) (sym is.count) within

  within : (i : ℕ) → i < net.count → i < length first
  within i inside = subst (λ (n : ℕ). i < n) is.count inside

  -- boards that show their worlds came so far
  pub all_came_to : (t limit : ℕ) (boards : List Shown) (stations : List Station) → AreMany (length first) events boards stations → AllPlaced events t limit boards stations → AllAhead net t boards stations
      → AllCameSoFar net limit boards
  all_came_to t limit boards stations are placed ahead i b within =
      let many = are.boards_are in
      let men = are.stations_are in
      let plans = are.schedules in
      let s = witness stations i (omega arith) in
      let v = witness events i (omega arith) in
      came_to laws.worlds net i (get_or stations i s).time limit (world_of (get_or boards i b)) zeros (inside i (omega arith)) (placed i b s v within).most (ahead i b s within).world

  pub all_came_first : (limit : ℕ) → AllCameSoFar net limit first
  all_came_first limit i b within = came_to laws.worlds net i 0 limit (world_of (get_or first i b)) zeros (inside i within) (omega arith) (shown_first first events delay net is i b within)

  pub all_ahead_from : (t next : ℕ) (boards : List Shown) (stations : List Station) → t ≤ next → AllAhead net t boards stations → AllAhead net next boards stations
  all_ahead_from t next boards stations later ahead i b s within = world_from net i t next (get_or stations i s).time (world_of (get_or boards i b)) later (ahead i b s within)

  -- at the end each shows its last world
  pub all_show : (t limit : ℕ) (boards : List Shown) (stations : List Station) → limit ≤ t → AreMany (length first) events boards stations → AllPlaced events t limit boards stations → AllAhead net t boards stations
      → AllShow net limit boards
  all_show t limit boards stations over are placed ahead i b within =
      let many = are.boards_are in
      let men = are.stations_are in
      let plans = are.schedules in
      let s = witness stations i (omega arith) in
      let v = witness events i (omega arith) in
      let from = (placed i b s v within).later in
      let most = (placed i b s v within).most in
      let end : (get_or stations i s).time ≡ limit = omega arith in
      (ahead i b s within).world ∙ ap (world_on_wire net i) end

  -- the boards and stations before a tick, what is under way then, what is due, and until when nothing else arrives
  module _ (t until limit : ℕ) (boards : List Shown) (stations : List Station) (queue rest : List Batch) (now : List Delivery)
      (are : AreMany (length first) events boards stations) (times : IsUntil t until limit) (early : until ≤ t + delay) (placed : AllPlaced events t limit boards stations)
      (ahead : AllAhead net t boards stations) (due : (s : ℕ) → t ≤ s → s < t + delay → due_at s queue ≡ coming_at net s) (taken : now ≡ due_at t queue)
      (others : (u : ℕ) → t < u → due_at u rest ≡ due_at u queue) (none : (u : ℕ) → u < until → due_at u rest ≡ []) where
    ready : (i : ℕ) (b : Shown) (s : Station) (v : Vec EventValue Global) → i < length first → IsReady net i t until limit (get_or events i v).items (get_or stations i s) now (get_or boards i b)
    ready i b s v within =
        let many = are.boards_are in
        record {
          zeros = zeros;
          inside = inside i within;
          least = omega (arith, is.delay, least);
          schedule = is.schedules i v within;
          placed = placed i b s v (omega arith);
          times = times;
          due = taken ∙ due t (omega arith) (omega arith);
          none = λ u from before. sym (due u (omega arith) (omega arith)) ∙ sym (others u (omega arith)) ∙ none u before;
          shown = ahead i b s (omega arith);
        }

    -- where it was refused, each came so far
    pub all_came_when : (next : List Shown) → length next ≡ length first
        → HaveHappened t until now boards stations next → AllCameSoFar net limit next
    all_came_when next same happened i b within =
        let many = are.boards_are in
        let men = are.stations_are in
        let plans = are.schedules in
        let here : i < length first = omega arith in
        let s = witness stations i (omega arith) in
        let v = witness events i (omega arith) in
        came_when laws net i t until limit (get_or events i v).items (get_or stations i s) now (get_or boards i b) (ready i b s v here) (get_or next i b) (happened i b s (omega arith))

    module _ (next : List Shown) (behind : List Station) (becoming : AreMany (length first) events next behind) (through : AreThrough t until now boards stations next behind) where
      -- once all are through with the tick, each board shows its world
      pub all_ahead_next : AllAhead net (t + 1) next behind
      all_ahead_next i b s within =
          let many = are.boards_are in
          let more = becoming.boards_are in
          let plans = are.schedules in
          let here : i < length first = omega arith in
          let v = witness events i (omega arith) in
          shown_next laws net i t until limit (get_or events i v).items (get_or stations i s) now (get_or boards i b) (ready i b s v here) (get_or next i b) (get_or behind i s) (through i b s (omega arith))

      -- what was sent in it is what was sent between the boards
      all_sent : (b : Shown) (i : ℕ) → i < length first → sent_between (world_of (get_or boards i b)) (world_of (get_or next i b)) ≡ sent_in_tick net t i
      all_sent b i within =
          let many = are.boards_are in
          let men = are.stations_are in
          let plans = are.schedules in
          let s = witness stations i (omega arith) in
          let v = witness events i (omega arith) in
          sent_now laws net i t until limit (get_or events i v).items (get_or stations i s) now (get_or boards i b) (ready i b s v within) (get_or next i b) (get_or behind i s) (through i b s (omega arith))

      -- in the ticks before the first that one of them makes next nothing is sent
      none_sent : (later : ℕ) → NoneBefore later behind → (u : ℕ) → t + 1 ≤ u → u < later → coming_at net (u + delay) ≡ []
      none_sent later each u from below =
          none_is_coming laws.worlds net u delay zeros is.delay
          (λ i in_net.
          let more = becoming.boards_are in
          let men = becoming.stations_are in
          let here = within i in_net in
          let s = witness behind i (omega arith) in
          let b = witness next i (omega arith) in
          let last = each i s (omega arith) in
          (all_ahead_next i b s (omega arith)).silent u from (omega arith))

      -- what was sent in the tick is delivered once the delay is over, the rest as before, and nothing behind it
      pub due_next : (later : ℕ) (out : List Delivery) (put : List Batch) (b : Shown)
          → t + 1 ≤ later → NoneBefore later behind
          → out ≡ sent_by_all (t + delay) boards next b
          → ((u : ℕ) → u < t + delay → due_at u put ≡ due_at u rest) → due_at (t + delay) put ≡ out → Rise (t + 1) (t + delay + 1) put
          → (s : ℕ) → later ≤ s → s < later + delay → due_at s put ≡ coming_at net s
      due_next later out put b after each sent before last rises s from below =
          elim (cases_eq s (t + delay)) [
            | inl here ↦
                subst (λ (u : ℕ). due_at u put ≡ coming_at net u) (sym here)
                (last ∙ sent ∙ sent_is_coming first events delay net is laws.worlds zeros t boards next b (all_sent b) are.boards_are)
            | inr other ↦
                elim (cases_lt s (t + delay)) [
                  | inl sooner ↦ before s sooner ∙ others s (omega arith) ∙ due s (omega arith) (omega arith)
                  | inr not ↦
                      let u = s - delay in
                      let back : u + delay ≡ s = omega arith in
                      none_from (t + 1) (t + delay + 1) s put rises (omega arith)
                      ∙ sym (subst (λ (x : ℕ). coming_at net x ≡ []) back (none_sent later each u (omega arith) (omega arith)))
                ]
          ]
