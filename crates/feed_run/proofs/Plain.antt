-- The run behind plain ticks: those of its environment are told as steps, of those of another nothing is told.
use Rattle.std.proofs.Common.{◌≡◌, ◌≤◌, ◌<◌, ◌+◌, ◌-◌, ℕ, zero, suc, List, [], ◌∷◌, ◌++◌, map, replicate, Bool, true, false, Option, Some, None, refl, sym, ◌∙◌, ap, subst, arith, rules, add-zero, add-suc}
use Rattle.std.specs.List.{list_any}
use Rattle.std.specs.Prelude.{◌||◌, ◌&&◌, not, if◌then◌else◌}
use Rattle.std.proofs.lemmas.Bool.{eq-eqb, ne_eqb}
use Rattle.std.proofs.lemmas.List.{append-nil, append_assoc, replicate-append-replicate}
use Rattle.aegis_limits.specs.Limits.{most_run_ticks}
use Rattle.world_model.specs.declared.slot.Runner.{Runner}
use Rattle.world_model.specs.Book.{is_runner, running}
use Rattle.world_model.specs.Item.{Item, Step}
use Rattle.world_model.specs.World.{World}
use Rattle.run_model.specs.Boot.{boot_world}
use Rattle.run_model.specs.Run.{System, TimeIsTick, feed, items_in, world_after, world_after_ticks}
use Rattle.run_model.specs.Slices.{begins_in, begins_slice, ends_in, runs_after, slices}
use Rattle.feed_log.specs.Views.{ItemSeen, item_seen}
use Rattle.feed_telling.specs.Tell.{AreFit, AreTold}
use Rattle.board_model.specs.Showing.{world_of}
use Rattle.board_model.specs.Stretch.{AreSteady, IsAtStep, IsOwnTick, IsQuiet}
use Rattle.page_laws.specs.Through.{StoresGoThrough}
use Rattle.tlb_course.specs.Further.{WorldsGoOn}
use Rattle.aegis_tick.specs.declared.course.Course.{Course}
use Rattle.aegis_tick.specs.OnCourse.{IsOn, system_of}
use Rattle.feed_run.specs.declared.run.BoardRun.{BoardRun}
use Rattle.feed_run.specs.Reach.{IsOutOfReach}
use Rattle.feed_run.specs.Whole.{IsWholeRun, WentPlain, progress_of}
use Rattle.feed_run.proofs.PlainTick.{IsApart, IsPlain, apart_of_book, busy, others_tick, own_tick, still_apart}
use Rattle.feed_run.proofs.Unread.{read_on, unread_on}

-- who runs
as_runs : (o : Option Runner) (e : ℕ) → running o ≡ Some e → is_runner e o ≡ true
as_runs None e is = cc
as_runs (Some r) e is = let same : r.env ≡ e = cc in eq-eqb r.env e same

runs_not : (o : Option Runner) (r e : ℕ) → running o ≡ Some r → (e ≡ r → ⊥) → is_runner e o ≡ false
runs_not None r e is other = cc
runs_not (Some x) r e is other = let same : x.env ≡ r = cc in ne_eqb x.env e (λ its. other (sym its ∙ same))

-- so many steps
steps_told : (k : ℕ) (log : List ItemSeen) → AreTold log (log ++ replicate k (item_seen Step)) (replicate k Step)
steps_told k log = record { log = ap (λ (xs : List ItemSeen). log ++ xs) (seen k); fit = fit k }
  where
    seen : (n : ℕ) → replicate n (item_seen Step) ≡ map item_seen (replicate n Step)
    seen zero = refl
    seen (suc n) = ap (λ (xs : List ItemSeen). item_seen Step ∷ xs) (seen n)

    fit : (n : ℕ) → AreFit (replicate n Step)
    fit zero = tt
    fit (suc n) = (tt, fit n)

steps_more : (k : ℕ) → replicate k Step ++ Step ∷ [] ≡ replicate (suc k) Step
steps_more k =
    let one : k + 1 ≡ suc k = omega arith in
    replicate-append-replicate k 1 Step ∙ ap (λ (n : ℕ). replicate n Step) one

none_and : (a b : Bool) → b ≡ false → a && b ≡ false
none_and a b none = search rules

-- So many ticks behind a run between its ticks are plain.
pub record ArePlainTicks (p : BoardRun) (d : Course) (k r : ℕ) : Type 0 where
  pub runs : running (world_of p.course.board).book.runner ≡ Some r
  pub on : IsOn d
  pub time : d.board.time ≡ p.course.board.time + k
  pub within : d.board.time ≤ most_run_ticks
  pub system : system_of d ≡ system_of p.course
  pub quiet : IsQuiet (system_of p.course).schedule p.course.board.time (p.course.board.time + k)
  pub steady : AreSteady p.course.board (system_of p.course).schedule k

-- the run behind them, with these items unread
abbrev pub behind : BoardRun → Course → List ItemSeen → BoardRun
behind p d log = record p { course = d; log = log }

-- it is whole, and no slice ended in the ticks
pub record HasGone (p q : BoardRun) : Type 0 where
  pub whole : IsWholeRun q
  pub went : WentPlain (progress_of p) (progress_of q)

module _ (times : TimeIsTick) (further : WorldsGoOn) (p : BoardRun) (d : Course) (k r : ℕ) (now : IsWholeRun p) (ticks : ArePlainTicks p d k r) where
  abbrev system : System
  system = system_of p.course

  abbrev t : ℕ
  t = p.course.board.time

  abbrev e : ℕ
  e = p.watched

  abbrev w : ℕ → World
  w i = world_after system (t + i)

  there : (i : ℕ) → world_after_ticks system.schedule (world_of p.course.board) i ≡ w i
  there i =
      ap (λ (v : World). world_after_ticks system.schedule v i) now.on.board.world ∙ further system.schedule (boot_world system.image) t i

  runs_at : (i : ℕ) → i ≤ k → running (w i).book.runner ≡ Some r
  runs_at i less = ap (λ (v : World). running v.book.runner) (sym (there i)) ∙ (ticks.steady.stays i less).runner ∙ ticks.runs

  plain_at : (i : ℕ) → i < k → IsPlain system.schedule (w i) r
  plain_at i less =
      let runs = runs_at i (omega (arith, less)) in
      record {
        quiet = ap system.schedule (times system.schedule (boot_world system.image) (t + i) now.on.board.start (busy (w i).book r runs))
            ∙ ticks.quiet.nothing (t + i) (omega arith) (omega (arith, less));
        runs = runs;
        at = subst IsAtStep (there i) (ticks.steady.at_step i less);
        own = subst IsOwnTick (there i) (ticks.steady.own i less);
      }

  -- what the environment is given in them, if no slice of it ends
  module _ (given : ℕ → List Item) (first : given 0 ≡ []) (more : (i : ℕ) → i < k → given i ++ items_in system (t + i) e ≡ given (suc i))
      (still : (i : ℕ) → i < k → ends_in system e (t + i) ≡ false) where
    feed_at : (i : ℕ) → i ≤ k → feed system e (t + i) ≡ feed system e t ++ given i
    feed_at zero less = rw add-zero (sym (append-nil (feed system e t)) ∙ ap (λ (xs : List Item). feed system e t ++ xs) (sym first))
    feed_at (suc i) less =
        rw add-suc
        (ap (λ (xs : List Item). xs ++ items_in system (t + i) e) (feed_at i (omega (arith, less)))
        ∙ append_assoc (feed system e t) (given i) (items_in system (t + i) e)
        ∙ ap (λ (xs : List Item). feed system e t ++ xs) (more i (omega (arith, less))))

    slices_at : (i : ℕ) → i ≤ k → slices system e (t + i) ≡ slices system e t
    slices_at zero less = rw add-zero refl
    slices_at (suc i) less =
        rw add-suc
        (ap (λ (ends : Bool). slices system e (t + i) + (if ends then 1 else 0)) (still i (omega (arith, less)))
        ∙ add-zero (slices system e (t + i))
        ∙ slices_at i (omega (arith, less)))

    feed_to : feed (system_of d) e d.board.time ≡ feed system e t ++ given k
    feed_to = (λ i. feed (ticks.system i) e (ticks.time i)) ∙ feed_at k (omega arith)

    gone_with : (new : List ItemSeen) → AreTold p.log new (given k) → HasGone p (behind p d new)
    gone_with new told =
        let time = ticks.time in
        let read = read_on (feed system e t) (given k) (feed (system_of d) e d.board.time) p.log new feed_to told in
        record {
          whole = record {
            on = ticks.on;
            within = ticks.within;
            unread = unread_on (feed system e t) (given k) (feed (system_of d) e d.board.time) p.log new feed_to told now.unread;
            empty = now.empty;
            slices = now.slices ∙ sym (slices_at k (omega arith)) ∙ (λ i. slices (sym ticks.system i) e (sym time i));
          };
          went = record {
            same = λ i. record (progress_of p) { system = ticks.system i; ticks = d.board.time; read = read i };
            later = omega (arith, time);
            within = ticks.within;
            unended = λ s from until.
                let i = s - t in
                let is : t + i ≡ s = omega (arith, from) in
                ap (slices system e) (sym is) ∙ slices_at i (omega (arith, from, until, time));
          };
        }

  -- its own ticks give it a step each
  module _ (own : r ≡ e) where
    steps_at : (i : ℕ) → i < k → replicate i Step ++ items_in system (t + i) e ≡ replicate (suc i) Step
    steps_at i less =
        ap (λ (xs : List Item). replicate i Step ++ xs) (subst (λ (n : ℕ). items_in system (t + i) n ≡ Step ∷ []) own (own_tick system.schedule (w i) r (plain_at i less)))
        ∙ steps_more i

    own_still : (i : ℕ) → i < k → ends_in system e (t + i) ≡ false
    own_still i less =
        let runs_on : running (w (suc i)).book.runner ≡ Some e = runs_at (suc i) (omega (arith, less)) ∙ ap Some own in
        let next : runs_after system e (t + suc i) ≡ true = as_runs (w (suc i)).book.runner e runs_on in
        let behind_it : runs_after system e (suc (t + i)) ≡ true = ap (runs_after system e) (sym (add-suc t i)) ∙ next in
        none_and (runs_after system e (t + i) || begins_in system e (t + i)) (not (runs_after system e (suc (t + i)))) (ap not behind_it)

    pub own_gone : (new : List ItemSeen) → new ≡ p.log ++ replicate k (item_seen Step) → HasGone p (behind p d new)
    own_gone new is =
        gone_with (λ i. replicate i Step) refl steps_at own_still new
        (subst (λ (log : List ItemSeen). AreTold p.log log (replicate k Step)) (sym is) (steps_told k p.log))

  -- those of another give it nothing, where the other may store to no page that it sees
  module _ (through : StoresGoThrough) (other : e ≡ r → ⊥) (out : IsOutOfReach (world_of p.course.board).book r e) where
    apart_at : (i : ℕ) → i ≤ k → IsApart (w i) r e
    apart_at zero less = subst (λ (v : World). IsApart v r e) (there 0) (apart_of_book p.course.board r e out)
    apart_at (suc i) less =
        rw add-suc (still_apart system.schedule (w i) r (plain_at i (omega (arith, less))) e (apart_at i (omega (arith, less))))

    none_at : (i : ℕ) → i < k → items_in system (t + i) e ≡ []
    none_at i less = others_tick system.schedule (w i) r (plain_at i less) through e other (apart_at i (omega (arith, less)))

    others_still : (i : ℕ) → i < k → ends_in system e (t + i) ≡ false
    others_still i less =
        let ran : runs_after system e (t + i) ≡ false = runs_not (w i).book.runner r e (runs_at i (omega (arith, less))) other in
        let begins : begins_in system e (t + i) ≡ false = ap (list_any begins_slice) (none_at i less) in
        rw (ran, begins) refl

    pub others_gone : HasGone p (behind p d p.log)
    others_gone = gone_with (λ i. []) refl none_at others_still p.log (record { log = sym (append-nil p.log); fit = tt })
