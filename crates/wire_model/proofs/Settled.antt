-- What is known of schedules below a tick settles the worlds up to it.
use Rattle.std.proofs.Common.{arith, refl, sym, ◌∙◌, ap, rules, ◌≡◌, ◌<◌, ◌++◌, inl, inr, ℕ, zero, suc, List, false}
use Rattle.std.specs.Prelude.{map}
use Rattle.std.proofs.lemmas.Bool.{cases_eq, cond_both, eq-eqb, ne_eqb}
use Rattle.external_event.specs.declared.event.Occurrence.{Occurrence}
use Rattle.world_model.specs.Book.{is_idle_book}
use Rattle.world_model.specs.Deadlines.{takings}
use Rattle.world_model.specs.Event.{Schedule, happen}
use Rattle.world_model.specs.Tick.{phases_after, tick_phases, tick_step}
use Rattle.world_model.specs.World.{World, run_phases}
use Rattle.run_model.specs.Run.{TimeIsTick, happens_in, next_phases, next_world, takings_next, world_after_ticks}
use Rattle.run_model.proofs.Phases.{run_append}
use Rattle.wire_model.specs.Wire.{Frame, Wire, after_tick, arrivals, framed, joined, sent_between, wired, world_in, world_on_wire}
use Rattle.wire_model.specs.Laws.{FramesAreSettled, HappensOnWire, ReadsBelow, TicksOnWire, WorldsAreSettled}

-- the world of a busy one after a tick in which this happens
abbrev busy_tick : List Occurrence → World → World
busy_tick happens w = run_phases w (phases_after happens (takings (run_phases w (map happen happens))))

-- a world's next tick reads what happens at its time alone, and nothing if it is idle
next_alike : (one other : Schedule) (w : World) → (is_idle_book w.book ≡ false → one w.book.time ≡ other w.book.time) → next_world one w ≡ next_world other w
next_alike one other w alike =
    cond_both (is_idle_book w.book) w (run_phases w (next_phases one w)) (λ (v : World). v ≡ next_world other w)
    (λ idle. rw idle refl)
    (λ busy. rw busy (ap (λ (happens : List Occurrence). busy_tick happens w) (alike busy)))

pub reads_below : TimeIsTick → ReadsBelow
reads_below timed one other w zero start same = refl
reads_below timed one other w (suc t) start same =
    let v = world_after_ticks one w t in
    next_alike one other v (λ busy. let time = timed one w t start busy in
    ap one time ∙ same t (omega arith) ∙ ap other (sym time))
    ∙ ap (next_world other) (reads_below timed one other w t start (λ u less. same u (omega arith)))

-- what is known of a tick stays known
stays_known : (wire : Wire) (i known u : ℕ) → u < known → wired wire (suc known) i u ≡ wired wire known i u
stays_known wire i known u less = rw (ne_eqb u known (λ same. omega arith)) refl

pub worlds_settled : TimeIsTick → WorldsAreSettled
worlds_settled timed wire i t zero zeros within most = search (arith, rules)
worlds_settled timed wire i t (suc known) zeros within most =
    elim (cases_eq t (suc known)) [
      | inl here ↦ rw here refl
      | inr other ↦
          reads_below timed (wired wire (suc known) i) (wired wire known i) (wire.machines i).start t (zeros i within)
          (λ u less. stays_known wire i known u (omega arith))
          ∙ worlds_settled timed wire i t known zeros within (omega arith)
    ]

-- lists that are alike one by one are alike joined
joined_alike : {A : Type 0} (f g : ℕ → List A) (n : ℕ) → ((i : ℕ) → i < n → f i ≡ g i) → joined f n ≡ joined g n
joined_alike {A = A} f g zero same = refl
joined_alike {A = A} f g (suc n) same =
    ap (λ (xs : List A). xs ++ f n) (joined_alike f g n (λ i less. same i (omega arith))) ∙ ap (λ (xs : List A). joined g n ++ xs) (same n (omega arith))

pub frames_settled : TimeIsTick → FramesAreSettled
frames_settled timed wire t known zeros less =
    joined_alike
    (λ i. map (framed i) (sent_between (world_in wire (wired wire known) i t) (world_in wire (wired wire known) i (suc t))))
    (λ i. map (framed i) (sent_between (world_in wire (wired wire (suc t)) i t) (world_in wire (wired wire (suc t)) i (suc t))))
    wire.count
    (λ i within.
    let now = worlds_settled timed wire i t known zeros within (omega arith) ∙ sym (worlds_settled timed wire i t (suc t) zeros within (omega arith)) in
    let next = worlds_settled timed wire i (suc t) known zeros within (omega arith) in
    ap (λ (w : World). map (framed i) (sent_between w (world_in wire (wired wire known) i (suc t)))) now
    ∙ ap (λ (w : World). map (framed i) (sent_between (world_in wire (wired wire (suc t)) i t) w)) next)

-- a tick behind what happens in it
then_ticks : (schedule : Schedule) (w : World) → run_phases w (next_phases schedule w) ≡ tick_step (run_phases w (map happen (schedule w.book.time)))
then_ticks schedule w = run_append w (map happen (happens_in schedule w)) (tick_phases (takings_next schedule w))

next_tick : (schedule : Schedule) (w : World) (happens : List Occurrence) → (is_idle_book w.book ≡ false → schedule w.book.time ≡ happens) → next_world schedule w ≡ after_tick happens w
next_tick schedule w happens are =
    cond_both (is_idle_book w.book) w (run_phases w (next_phases schedule w)) (λ (v : World). v ≡ after_tick happens w)
    (λ idle. rw idle refl)
    (λ busy. rw busy (then_ticks schedule w ∙ ap (λ (xs : List Occurrence). tick_step (run_phases w (map happen xs))) (are busy)))

known_now : (wire : Wire) (i t : ℕ) → wired wire (suc t) i t ≡ (wire.machines i).schedule t ++ arrivals wire (wired wire t) t i
known_now wire i t = rw (eq-eqb t t refl) refl

pub happens_on_wire : HappensOnWire
happens_on_wire wire i t zero less = search (arith, rules)
happens_on_wire wire i t (suc known) less =
    elim (cases_eq t known) [
      | inl here ↦ ap (λ (k : ℕ). wired wire (suc k) i t) (sym here) ∙ known_now wire i t
      | inr other ↦ stays_known wire i known t (omega arith) ∙ happens_on_wire wire i t known (omega arith)
    ]

pub ticks_on_wire : TimeIsTick → TicksOnWire
ticks_on_wire timed wire i t zeros within =
    let w = world_on_wire wire i t in
    let now = (wire.machines i).schedule t ++ arrivals wire (wired wire t) t i in
    ap (next_world (wired wire (suc t) i)) (worlds_settled timed wire i t (suc t) zeros within (omega arith))
    ∙ next_tick (wired wire (suc t) i) w now
    (λ busy. ap (wired wire (suc t) i) (timed (wired wire t i) (wire.machines i).start t (zeros i within) busy) ∙ happens_on_wire wire i t (suc t) (omega arith))
