-- Phases in turn, and the moments of a tick.
use Rattle.std.proofs.Common.{arith, ◌≡◌, ℕ, zero, suc, ◌+◌, List, [], ◌∷◌, ◌++◌, length, map, take, Bool, false, refl, sym, ◌∙◌, ap, subst, append_assoc, Option, None, Some, rules}
use Rattle.std.specs.Prelude.{if◌then◌else◌, slice_get}
use Rattle.std.proofs.lemmas.List.{append-nil, length-append, length-map}
use Rattle.std.proofs.lemmas.List.Sums.{fold-append}
use Rattle.std.proofs.Math.Seq.{take-append-add, take-append_seam, take-length}
use Rattle.world_model.specs.Solo.{Solo}
use Rattle.world_model.specs.Book.{is_idle_book}
use Rattle.world_model.specs.Item.{Item, absorb, absorb_all}
use Rattle.world_model.specs.World.{World, Reply, after, followed, in_turn, no_change, run_phases}
use Rattle.external_event.specs.declared.event.Occurrence.{Occurrence}
use Rattle.world_model.specs.Event.{happen}
use Rattle.revocation_book.specs.declared.revocation.Taking.{Taking}
use Rattle.world_model.specs.Deadlines.{settles, takes, takings}
use Rattle.world_model.specs.Tick.{phases_after, serve_phases, served, step, tick_phases, timer, turn, tick_step}
use Rattle.run_model.specs.Run.{InTurnIsEach, MomentsAreInOrder, PhasesGive, System, at_deadlines, at_step, at_timer, at_turn, given_at, given_below, given_by, happens_in, moment, next_phases, once_happened, phases_in, takings_in, world_after}

-- what is absorbed in two parts is absorbed in one
pub absorb-append : (s : Solo) (xs ys : List Item) → absorb_all s (xs ++ ys) ≡ absorb_all (absorb_all s xs) ys
absorb-append s xs ys = fold-append absorb s xs ys

-- where nothing happens the world stays
pub after_no_change : (w : World) → after w (no_change w) ≡ w
after_no_change w = λ k. record w { rows = append-nil w.rows k }

pub after_followed : (w : World) (r s : Reply) → after w (followed r s) ≡ after (after w r) s
after_followed w r s = search (rules, absorb-append, append_assoc)

pub in_turn_is_each : InTurnIsEach
in_turn_is_each w [] = after_no_change w
in_turn_is_each w (phase ∷ phases) = after_followed w (phase w) (in_turn phases (after w (phase w))) ∙ in_turn_is_each (after w (phase w)) phases

-- phases in two parts
pub run_append : (w : World) (xs ys : List (World → Reply)) → run_phases w (xs ++ ys) ≡ run_phases (run_phases w xs) ys
run_append w [] ys = refl
run_append w (x ∷ xs) ys = run_append (after w (x w)) xs ys

-- A tick once its events and its takings are over.
abbrev behind : List (World → Reply)
behind = turn ∷ step ∷ timer ∷ []

tick_in_two : (xs : List Taking) → tick_phases xs ≡ serve_phases xs ++ behind
tick_in_two xs = sym (append_assoc (map takes xs) (settles ∷ []) behind)

-- a tick by its parts: what is served, and then turn, step and timer
pub tick_in_parts : (w : World) → tick_step w ≡ (let v = served w in let u = after v (turn v) in let t = after u (step u) in after t (timer t))
tick_in_parts w = ap (run_phases w) (tick_in_two (takings w)) ∙ run_append w (serve_phases (takings w)) behind

serve_length : (xs : List Taking) → length (serve_phases xs) ≡ length xs + 1
serve_length xs = length-append (map takes xs) (settles ∷ []) ∙ ap (λ n. n + 1) (length-map xs takes)

module _ (happens : List Occurrence) (xs : List Taking) (w : World) where
  abbrev early : World
  early = run_phases w (map happen happens)

  abbrev settled : World
  settled = run_phases early (serve_phases xs)

  events_over : run_phases w (take (length happens) (phases_after happens xs)) ≡ early
  events_over =
      ap (λ n. run_phases w (take n (phases_after happens xs))) (sym (length-map happens happen))
      ∙ ap (run_phases w) (take-append_seam (map happen happens) (tick_phases xs))

  so_many_over : (k : ℕ) → run_phases w (take (length happens + k) (phases_after happens xs)) ≡ run_phases early (take k (tick_phases xs))
  so_many_over k =
      ap (λ n. run_phases w (take (n + k) (phases_after happens xs))) (sym (length-map happens happen))
      ∙ ap (run_phases w) (take-append-add (map happen happens) (tick_phases xs) k)
      ∙ run_append w (map happen happens) (take k (tick_phases xs))

  served_over : (k : ℕ) → run_phases early (take (length xs + 1 + k) (tick_phases xs)) ≡ run_phases settled (take k behind)
  served_over k =
      ap (λ n. run_phases early (take (n + k) (tick_phases xs))) (sym (serve_length xs))
      ∙ ap (λ phases. run_phases early (take (length (serve_phases xs) + k) phases)) (tick_in_two xs)
      ∙ ap (run_phases early) (take-append-add (serve_phases xs) behind k)
      ∙ run_append early (serve_phases xs) (take k behind)

  all_over : (n k : ℕ) → n ≡ length happens + (length xs + 1 + k) → run_phases w (take n (phases_after happens xs)) ≡ run_phases settled (take k behind)
  all_over n k is = ap (λ m. run_phases w (take m (phases_after happens xs))) is ∙ so_many_over (length xs + 1 + k) ∙ served_over k

module _ (system : System) (t : ℕ) where
  abbrev before : World
  before = world_after system t

  abbrev events : List Occurrence
  events = happens_in system.schedule before

  abbrev taken : List Taking
  taken = takings_in system t

  -- the deadlines are served once the events are over, and the turn is taken once they are served
  pub deadlines_after_events : at_deadlines system t ≡ once_happened system.schedule before
  deadlines_after_events = events_over events taken before

  pub turn_after_serving : at_turn system t ≡ served (at_deadlines system t)
  turn_after_serving =
      all_over events taken before (length events + (length taken + 1)) 0 (omega arith)
      ∙ ap served (sym deadlines_after_events)

  after_turn : (k : ℕ) → run_phases before (take (length events + (length taken + 1) + k) (phases_after events taken)) ≡ run_phases (at_turn system t) (take k behind)
  after_turn k =
      all_over events taken before (length events + (length taken + 1) + k) k (omega arith)
      ∙ ap (λ (w : World). run_phases w (take k behind)) (sym (all_over events taken before (length events + (length taken + 1)) 0 (omega arith)))

  pub step_after_turn : at_step system t ≡ after (at_turn system t) (turn (at_turn system t))
  step_after_turn = after_turn 1

  pub timer_after_step : at_timer system t ≡ after (at_step system t) (step (at_step system t))
  timer_after_step = after_turn 2 ∙ ap (λ (w : World). after w (step w)) (sym step_after_turn)

  abbrev timed : World → World
  timed w = after w (timer w)

  pub next_after_timer : is_idle_book before.book ≡ false → world_after system (suc t) ≡ after (at_timer system t) (timer (at_timer system t))
  next_after_timer busy =
      ap (λ (idle : Bool). if idle then before else run_phases before (next_phases system.schedule before)) busy
      ∙ run_append before (map happen events) (tick_phases taken)
      ∙ ap (run_phases (early events taken before)) (tick_in_two taken)
      ∙ run_append (early events taken before) (serve_phases taken) behind
      ∙ ap timed (sym (all_over events taken before (length events + (length taken + 1) + 2) 2 (omega arith)))

pub moments_in_order : MomentsAreInOrder
moments_in_order system t = record {
  happened = deadlines_after_events system t;
  served = turn_after_serving system t;
  turned = step_after_turn system t;
  stepped = timer_after_step system t;
  timed = next_after_timer system t;
}

-- The world after one phase more, if there is one.
abbrev pub once_more : World → Option (World → Reply) → World
once_more w None = w
once_more w (Some phase) = after w (phase w)

more_phases : (phases : List (World → Reply)) (w : World) (k : ℕ) → run_phases w (take (suc k) phases) ≡ once_more (run_phases w (take k phases)) (slice_get phases k)
more_phases [] w zero = refl
more_phases [] w (suc k) = refl
more_phases (phase ∷ phases) w zero = refl
more_phases (phase ∷ phases) w (suc k) = more_phases phases (after w (phase w)) k

pub next_moment : (system : System) (t k : ℕ) → moment system t (suc k) ≡ once_more (moment system t k) (slice_get (next_phases system.schedule (world_after system t)) k)
next_moment system t k = let w = world_after system t in more_phases (next_phases system.schedule w) w k

-- What an environment is given in a tick is what its phases give.
given_one_more : (phases : List (World → Reply)) (w : World) (k e : ℕ)
    → (in_turn (take (suc k) phases) w).items e ≡ (in_turn (take k phases) w).items e ++ given_by (run_phases w (take k phases)) (slice_get phases k) e
given_one_more [] w zero e = refl
given_one_more [] w (suc k) e = refl
given_one_more (phase ∷ phases) w zero e = append-nil ((phase w).items e)
given_one_more (phase ∷ phases) w (suc k) e =
    let v = after w (phase w) in
    ap (λ items. (phase w).items e ++ items) (given_one_more phases v k e)
    ∙ sym (append_assoc ((phase w).items e) ((in_turn (take k phases) v).items e) (given_by (run_phases v (take k phases)) (slice_get phases k) e))

given_so_far : (system : System) (t k e : ℕ)
    → (let w = world_after system t in (in_turn (take k (next_phases system.schedule w)) w).items e) ≡ given_below system t k e
given_so_far system t zero e = refl
given_so_far system t (suc k) e =
    let w = world_after system t in
    given_one_more (next_phases system.schedule w) w k e ∙ ap (λ items. items ++ given_at system t k e) (given_so_far system t k e)

pub phases_give : PhasesGive
phases_give system t e busy =
    let w = world_after system t in
    let phases = next_phases system.schedule w in
    ap (λ (idle : Bool). if idle then [] else (in_turn phases w).items e) busy
    ∙ ap (λ some. (in_turn some w).items e) (sym (take-length phases))
    ∙ given_so_far system t (phases_in system t) e

-- the world after a tick is that behind its last phase
pub tick_moment : (system : System) (t : ℕ) → is_idle_book (world_after system t).book ≡ false → world_after system (suc t) ≡ moment system t (phases_in system t)
tick_moment system t busy = search (rules, take-length)

-- Each phase of a tick is an event, a taking, the end of deadlines, the turn, the step or the timer.
one : (P : (World → Reply) → Type 0) (p q : World → Reply) → P p → Some p ≡ Some q → P q
one P p q its same = let is : p ≡ q = cc in subst P is its

module _ (P : (World → Reply) → Type 0) (occurs : (what : Occurrence) → P (happen what)) (takings : (x : Taking) → P (takes x)) (ends : P settles) (turns : P turn) (steps : P step) (times : P timer) where
  of_phases : (xs : List Taking) (k : ℕ) (phase : World → Reply) → slice_get (tick_phases xs) k ≡ Some phase → P phase
  of_phases [] zero phase is = one P settles phase ends is
  of_phases [] (suc zero) phase is = one P turn phase turns is
  of_phases [] (suc (suc zero)) phase is = one P step phase steps is
  of_phases [] (suc (suc (suc zero))) phase is = one P timer phase times is
  of_phases [] (suc (suc (suc (suc k)))) phase is = cc
  of_phases (x ∷ xs) zero phase is = one P (takes x) phase (takings x) is
  of_phases (x ∷ xs) (suc k) phase is = of_phases xs k phase is

  pub of_each : (happens : List Occurrence) (xs : List Taking) (k : ℕ) (phase : World → Reply) → slice_get (phases_after happens xs) k ≡ Some phase → P phase
  of_each [] xs k phase is = of_phases xs k phase is
  of_each (what ∷ happens) xs zero phase is = one P (happen what) phase (occurs what) is
  of_each (what ∷ happens) xs (suc k) phase is = of_each happens xs k phase is
