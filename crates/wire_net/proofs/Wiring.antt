-- What is under way is what arrives, and what happens in a machine is what its schedule and the wire say.
use Rattle.std.proofs.Common.{◌≡◌, ℕ, zero, suc, ◌+◌, ◌-◌, ◌<◌, ◌≤◌, Bool, true, false, List, [], ◌∷◌, ◌++◌, map, length, take, get_or, refl, sym, ◌∙◌, ap, subst, arith, inl, inr, rules}
use Rattle.std.specs.Prelude.{filter, nat_lt, if◌then◌else◌, Vec}
use Rattle.std.specs.Global.{Global}
use Rattle.std.proofs.lemmas.Bool.{cases_lt, le-ltb, lt-ltb}
use Rattle.std.proofs.lemmas.List.{map-append}
use Rattle.external_event.specs.declared.event.Occurrence.{Occurrence}
use Rattle.external_event.specs.EventValue.{EventValue}
use Rattle.world_model.specs.Book.{is_idle_book}
use Rattle.world_model.specs.Event.{schedule_of}
use Rattle.world_model.specs.World.{World}
use Rattle.board_model.specs.Shown.{Shown}
use Rattle.board_model.specs.Showing.{world_of}
use Rattle.board_model.specs.Ticks.{IsFresh}
use Rattle.run_model.specs.Run.{TimeIsTick, happens_in}
use Rattle.aegis_tick.specs.Agenda.{AgendasAreRight, AreComing}
use Rattle.aegis_tick.specs.Course.{HappenedInPart, world_with}
use Rattle.wire_model.specs.Laws.{BeginAtZero, FramesAreSettled, HappensOnWire, TicksOnWire, WorldsAreSettled}
use Rattle.wire_model.specs.Wire.{Frame, Wire, arrival, arrivals, framed, is_frame_for, joined, put_on_wire, sent_between, wired, world_in, world_on_wire}
use Rattle.wire_net.specs.declared.delivery.Delivery.{Delivery}
use Rattle.wire_net.specs.Course.{AllShow, CameSoFar, IsWireOf}
use Rattle.wire_net.specs.Delivery.{arriving, delivered_at, deliveries_of, is_delivery_for}
use Rattle.wire_net.specs.Sending.{sent_by, sent_by_all}
use Rattle.wire_net.specs.Station.{happening_at}

-- ---- frames

-- what is put on the wire in a tick
abbrev pub sent_on_wire : Wire → ℕ → List Frame
sent_on_wire net t = put_on_wire net (wired net (suc t)) t

-- what is delivered in a tick
abbrev pub coming_at : Wire → ℕ → List Delivery
coming_at net t = if nat_lt t net.delay then [] else map (delivered_at t) (sent_on_wire net (t - net.delay))

frames_arrive : (i time : ℕ) (frames : List Frame) → arriving i (map (delivered_at time) frames) ≡ map arrival (filter (is_frame_for i) frames)
frames_arrive i time [] = refl
frames_arrive i time (frame ∷ frames) = by_test (is_frame_for i frame) (frames_arrive i time frames)
  where
    by_test : (test : Bool) → arriving i (map (delivered_at time) frames) ≡ map arrival (filter (is_frame_for i) frames)
        → map (λ (x : Delivery). x.event.what) (if test then delivered_at time frame ∷ filter (is_delivery_for i) (map (delivered_at time) frames) else filter (is_delivery_for i) (map (delivered_at time) frames))
        ≡ map arrival (if test then frame ∷ filter (is_frame_for i) frames else filter (is_frame_for i) frames)
    by_test true rest = ap (λ (xs : List Occurrence). arrival frame ∷ xs) rest
    by_test false rest = rest

-- what is delivered to a machine is what arrives at it
pub arrivals_are : FramesAreSettled → (net : Wire) (i t : ℕ) → BeginAtZero net → 1 ≤ net.delay → arriving i (coming_at net t) ≡ arrivals net (wired net t) t i
arrivals_are settled net i t zeros least = elim (cases_lt t net.delay) [
  | inl below ↦ rw (lt-ltb t net.delay below) refl
  | inr past ↦
      rw (le-ltb t net.delay past)
      (frames_arrive i t (sent_on_wire net (t - net.delay))
      ∙ ap (λ (frames : List Frame). map arrival (filter (is_frame_for i) frames)) (sym (settled net (t - net.delay) t zeros (omega arith))))
]

map_joined : {A B : Type 0} (f : A → B) (g : ℕ → List A) (n : ℕ) → map f (joined g n) ≡ joined (λ i. map f (g i)) n
map_joined f g zero = refl
map_joined {B = B} f g (suc n) = map-append f (joined g n) (g n) ∙ ap (λ (xs : List B). xs ++ map f (g n)) (map_joined f g n)

pub joined_alike : {A : Type 0} (f g : ℕ → List A) (n : ℕ) → ((i : ℕ) → i < n → f i ≡ g i) → joined f n ≡ joined g n
joined_alike f g zero same = refl
joined_alike {A = A} f g (suc n) same =
    ap (λ (xs : List A). xs ++ f n) (joined_alike f g n (λ i less. same i (omega arith))) ∙ ap (λ (xs : List A). joined g n ++ xs) (same n (omega arith))

framed_deliveries : (i time : ℕ) (packets : List (List ℕ)) → deliveries_of i time packets ≡ map (delivered_at time) (map (framed i) packets)
framed_deliveries i time [] = refl
framed_deliveries i time (packet ∷ packets) = ap (λ (xs : List Delivery). delivered_at time (framed i packet) ∷ xs) (framed_deliveries i time packets)

-- what is put on the wire in a tick is delivered once the delay is over
coming_later : (net : Wire) (t delay : ℕ) → net.delay ≡ delay → coming_at net (t + delay) ≡ map (delivered_at (t + delay)) (sent_on_wire net t)
coming_later net t delay is =
    let late : nat_lt (t + delay) net.delay ≡ false = le-ltb (t + delay) net.delay (omega arith) in
    let back : t + delay - net.delay ≡ t = omega arith in
    ap (λ (test : Bool). if test then [] else map (delivered_at (t + delay)) (sent_on_wire net (t + delay - net.delay))) late
    ∙ ap (λ (u : ℕ). map (delivered_at (t + delay)) (sent_on_wire net u)) back

-- and before that nothing is
pub none_at_first : (net : Wire) (t : ℕ) → t < net.delay → coming_at net t ≡ []
none_at_first net t below = rw (lt-ltb t net.delay below) refl

-- what a machine sends in a tick
abbrev pub sent_in_tick : Wire → ℕ → ℕ → List (List ℕ)
sent_in_tick net t i = sent_between (world_on_wire net i t) (world_on_wire net i (t + 1))

sent_by_each : WorldsAreSettled → (net : Wire) (t : ℕ) → BeginAtZero net → sent_on_wire net t ≡ joined (λ i. map (framed i) (sent_in_tick net t i)) net.count
sent_by_each settled net t zeros =
    let one : suc t ≡ t + 1 = omega arith in
    joined_alike
    (λ i. map (framed i) (sent_between (world_in net (wired net (suc t)) i t) (world_in net (wired net (suc t)) i (suc t))))
    (λ i. map (framed i) (sent_in_tick net t i))
    net.count
    (λ i inside.
    ap (λ (w : World). map (framed i) (sent_between w (world_on_wire net i (suc t)))) (settled net i t (suc t) zeros inside (omega arith))
    ∙ ap (λ (n : ℕ). map (framed i) (sent_between (world_on_wire net i t) (world_on_wire net i n))) one)

pub joined_none : {A : Type 0} (f : ℕ → List A) (n : ℕ) → ((i : ℕ) → i < n → f i ≡ []) → joined f n ≡ []
joined_none f zero none = refl
joined_none {A = A} f (suc n) none =
    ap (λ (xs : List A). xs ++ f n) (joined_none f n (λ i less. none i (omega arith))) ∙ none n (omega arith)

-- where no machine sends in a tick, nothing is delivered so many ticks later
pub none_is_coming : WorldsAreSettled → (net : Wire) (t delay : ℕ) → BeginAtZero net → net.delay ≡ delay → ((i : ℕ) → i < net.count → sent_in_tick net t i ≡ []) → coming_at net (t + delay) ≡ []
none_is_coming settled net t delay zeros is none =
    coming_later net t delay is
    ∙ ap (map (delivered_at (t + delay)))
    (sent_by_each settled net t zeros ∙ joined_none (λ i. map (framed i) (sent_in_tick net t i)) net.count (λ i inside. ap (map (framed i)) (none i inside)))

-- ---- the machines of a wire

pub witness : {A : Type 0} (xs : List A) (i : ℕ) → i < length xs → A
witness {A = A} [] i within = elim within [ ]
witness (x ∷ xs) i within = x

module _ (boards : List Shown) (schedules : List (Vec EventValue Global)) (delay : ℕ) (net : Wire) (is : IsWireOf boards schedules delay net) where
  pub begin_at_zero : ((i : ℕ) (b : Shown) → i < length boards → IsFresh (get_or boards i b)) → BeginAtZero net
  begin_at_zero fresh i within =
      let inside : i < length boards = subst (λ (n : ℕ). i < n) is.count within in
      let b = witness boards i inside in
      ap (λ (w : World). w.book.time) (is.starts i b inside) ∙ (fresh i b inside).time

  -- at first they are as they start
  pub shown_first : AllShow net 0 boards
  shown_first i b within = sym (is.starts i b within)

  -- what the machines sent in a tick is what is delivered so many ticks later
  pub sent_is_coming : WorldsAreSettled → BeginAtZero net → (t : ℕ) (old new : List Shown) (b : Shown)
      → ((i : ℕ) → i < length boards → sent_between (world_of (get_or old i b)) (world_of (get_or new i b)) ≡ sent_in_tick net t i)
      → length old ≡ length boards → sent_by_all (t + delay) old new b ≡ coming_at net (t + delay)
  sent_is_coming settled zeros t old new b are many =
      let late = t + delay in
      ap (joined (λ i. sent_by i late (get_or old i b) (get_or new i b))) many
      ∙ joined_alike
      (λ i. sent_by i late (get_or old i b) (get_or new i b))
      (λ i. map (delivered_at late) (map (framed i) (sent_in_tick net t i)))
      (length boards)
      (λ i within. ap (deliveries_of i late) (are i within) ∙ framed_deliveries i late (sent_in_tick net t i))
      ∙ sym (map_joined (delivered_at late) (λ i. map (framed i) (sent_in_tick net t i)) (length boards))
      ∙ ap (λ (n : ℕ). map (delivered_at late) (joined (λ i. map (framed i) (sent_in_tick net t i)) n)) (sym is.count)
      ∙ ap (map (delivered_at late)) (sym (sent_by_each settled net t zeros))
      ∙ sym (coming_later net t delay is.delay)

-- ---- a tick

-- what happens in a machine is what its schedule says, and then what arrives
pub happening_is : FramesAreSettled → AgendasAreRight → (net : Wire) (i t : ℕ) (all coming : List EventValue) → BeginAtZero net → 1 ≤ net.delay
    → (net.machines i).schedule t ≡ schedule_of all t → AreComing all t coming
    → happening_at i t (coming_at net t) coming ≡ (net.machines i).schedule t ++ arrivals net (wired net t) t i
happening_is settled agendas net i t all coming zeros least schedule are =
    ap (λ (xs : List Occurrence). xs ++ arriving i (coming_at net t)) (agendas.now all coming t are ∙ sym schedule)
    ∙ ap (λ (xs : List Occurrence). (net.machines i).schedule t ++ xs) (arrivals_are settled net i t zeros least)

-- the laws of the model, and of agendas
pub record Laws : Type 0 where
  pub worlds : WorldsAreSettled
  pub frames : FramesAreSettled
  pub happens : HappensOnWire
  pub ticks : TicksOnWire
  pub timed : TimeIsTick
  pub agendas : AgendasAreRight

-- a machine that came to the end of a tick, and one in which some of it happened
pub came_to : WorldsAreSettled → (net : Wire) (i t ticks : ℕ) (v : World) → BeginAtZero net → i < net.count → t ≤ ticks → v ≡ world_on_wire net i t
    → CameSoFar (wired net ticks i) (net.machines i).start ticks v
came_to settled net i t ticks v zeros inside within is = record {
  done = t;
  within = within;
  events = 0;
  busy = λ some. search (arith, rules);
  is = is ∙ sym (settled net i t ticks zeros inside within);
}

pub came_into : WorldsAreSettled → HappensOnWire → TimeIsTick → (net : Wire) (i t ticks : ℕ) (happens : List Occurrence) (w v : World) → BeginAtZero net → i < net.count → t < ticks
    → w ≡ world_on_wire net i t → happens ≡ (net.machines i).schedule t ++ arrivals net (wired net t) t i
    → is_idle_book w.book ≡ false → HappenedInPart happens w v
    → CameSoFar (wired net ticks i) (net.machines i).start ticks v
came_into settled known timed net i t ticks happens w v zeros inside within shown are busy part =
    let u = world_in net (wired net ticks) i t in
    let here : w ≡ u = shown ∙ sym (settled net i t ticks zeros inside (omega arith)) in
    let awake : is_idle_book u.book ≡ false = ap (λ (x : World). is_idle_book x.book) (sym here) ∙ busy in
    let time : u.book.time ≡ t = timed (wired net ticks i) (net.machines i).start t (zeros i inside) awake in
    let now : happens_in (wired net ticks i) u ≡ happens = ap (wired net ticks i) time ∙ known net i t ticks within ∙ sym are in
    record {
      done = t;
      within = omega arith;
      events = part.0;
      busy = λ some. awake;
      is = part.1 ∙ ap (λ (x : World). world_with (take part.0 happens) x) here ∙ ap (λ (xs : List Occurrence). world_with (take part.0 xs) u) (sym now);
    }
