-- A tick that was made and told is the next tick of the run.
use Rattle.std.proofs.Common.{◌≡◌, ◌≤◌, ◌<◌, ◌+◌, ℕ, zero, suc, List, [], ◌++◌, Bool, true, false, None, refl, sym, ◌∙◌, ap, subst, arith}
use Rattle.std.specs.Prelude.{◌||◌, ◌&&◌, not, if◌then◌else◌}
use Rattle.std.specs.List.{list_any}
use Rattle.aegis_limits.specs.Limits.{most_run_ticks}
use Rattle.external_event.specs.declared.event.Occurrence.{Occurrence}
use Rattle.world_model.specs.Book.{is_idle_book, is_runner}
use Rattle.world_model.specs.Event.{Schedule}
use Rattle.world_model.specs.Item.{Item}
use Rattle.world_model.specs.World.{World, in_turn, run_phases}
use Rattle.run_model.specs.Run.{System, feed, happens_in, items_in, next_items, next_world, world_after}
use Rattle.run_model.specs.Slices.{begins_in, ends_in, runs_after, slices}
use Rattle.feed_log.specs.Views.{ItemSeen}
use Rattle.feed_log.specs.Log.{begins_seen}
use Rattle.feed_telling.specs.Tell.{AreTold}
use Rattle.board_model.specs.Shown.{Shown}
use Rattle.board_model.specs.Showing.{world_of}
use Rattle.board_model.specs.Ticks.{IsTicked}
use Rattle.aegis_tick.specs.declared.course.Course.{Course}
use Rattle.aegis_tick.specs.Agenda.{AreComing}
use Rattle.aegis_tick.specs.OnCourse.{IsOn, system_of}
use Rattle.feed_run.specs.declared.run.BoardRun.{BoardRun}
use Rattle.feed_run.specs.Phases.{PhasesTold, phases_with}
use Rattle.feed_run.specs.Whole.{IsWholeRun, WentATick, progress_of}
use Rattle.feed_run.proofs.Unread.{begin_alike, read_on, unread_on}

next_is : (schedule : Schedule) (w : World) → is_idle_book w.book ≡ false
    → next_world schedule w ≡ run_phases w (phases_with (happens_in schedule w) w)
next_is schedule w busy = rw busy refl

items_are : (schedule : Schedule) (w : World) (e : ℕ) → is_idle_book w.book ≡ false
    → next_items schedule w e ≡ (in_turn (phases_with (happens_in schedule w) w) w).items e
items_are schedule w e busy = rw busy refl

pub record IsNextTick (system : System) (e t : ℕ) (v : World) (tick : List ItemSeen) : Type 0 where
  pub world : v ≡ world_after system (suc t)
  pub told : AreTold [] tick (items_in system t e)

is_next : (system : System) (e t : ℕ) (w v : World) (tick : List ItemSeen) → w ≡ world_after system t → is_idle_book w.book ≡ false
    → PhasesTold e (phases_with (happens_in system.schedule w) w) w v [] tick → IsNextTick system e t v tick
is_next system e t w v tick at goes told =
    let schedule = system.schedule in
    let now = world_after system t in
    let busy : is_idle_book now.book ≡ false = ap (λ (x : World). is_idle_book x.book) (sym at) ∙ goes in
    let there : PhasesTold e (phases_with (happens_in schedule now) now) now v [] tick =
    subst (λ (x : World). PhasesTold e (phases_with (happens_in schedule x) x) x v [] tick) at told in
    record {
      world = there.world ∙ sym (next_is schedule now busy);
      told = subst (AreTold [] tick) (sym (items_are schedule now e busy)) there.told;
    }

-- no more slices have ended than ticks were made
pub one_at_most : (ends : Bool) → (if ends then 1 else 0) ≤ 1
one_at_most true = omega arith
one_at_most false = omega arith

pub slices_few : (system : System) (e t : ℕ) → slices system e t ≤ t
slices_few system e zero = omega arith
slices_few system e (suc t) = let one = one_at_most (ends_in system e t) in omega (arith, slices_few system e t, one)

-- The events of a tick were taken off the agenda, which left this course, and the tick was made and told.
pub record HasTicked (p : BoardRun) (c : Course) (d : Shown) (happens : List Occurrence) (tick : List ItemSeen) : Type 0 where
  pub now : IsWholeRun p
  pub busy : is_idle_book (world_of p.course.board).book ≡ false
  pub early : p.course.board.time < most_run_ticks
  pub these : happens ≡ happens_in (system_of p.course).schedule (world_of p.course.board)
  pub coming : AreComing p.course.events.now (p.course.board.time + 1) c.agenda
  pub same : c ≡ record p.course { agenda = c.agenda; entry = None }
  pub told : PhasesTold p.watched (phases_with happens (world_of c.board)) (world_of c.board) (world_of d) p.tick tick
  pub ticked : IsTicked c.board d

-- the run behind it, with these items unread
abbrev pub behind : BoardRun → Course → Shown → List ItemSeen → ℕ → BoardRun
behind p c d log count = record p { course = record c { board = d }; log = log; tick = []; ended = count }

module _ (p : BoardRun) (c : Course) (d : Shown) (happens : List Occurrence) (tick : List ItemSeen) (made : HasTicked p c d happens tick) where
  abbrev system : System
  system = system_of p.course

  abbrev b : Shown
  b = p.course.board

  abbrev e : ℕ
  e = p.watched

  -- the course as it was, with what is to come
  abbrev left : Course
  left = record p.course { agenda = c.agenda; entry = None }

  ticked : IsTicked b d
  ticked = subst (λ (x : Course). IsTicked x.board d) made.same made.ticked

  next_time : d.time ≡ suc b.time
  next_time = let time = ticked.time in omega (arith, time)

  told : PhasesTold e (phases_with (happens_in system.schedule (world_of b)) (world_of b)) (world_of b) (world_of d) [] tick
  told =
      subst (λ (xs : List Occurrence). PhasesTold e (phases_with xs (world_of b)) (world_of b) (world_of d) [] tick) made.these
      (subst (λ (old : List ItemSeen). PhasesTold e (phases_with happens (world_of b)) (world_of b) (world_of d) old tick) made.now.empty
      (subst (λ (x : Course). PhasesTold e (phases_with happens (world_of x.board)) (world_of x.board) (world_of d) p.tick tick) made.same made.told))

  next : IsNextTick system e b.time (world_of d) tick
  next = is_next system e b.time (world_of b) (world_of d) tick made.now.on.board.world made.busy told

  abbrev items : List Item
  items = items_in system b.time e

  on : IsOn (record left { board = d })
  on = record {
    board = record {
      world = next.world ∙ ap (world_after system) (sym next_time);
      within = let early = made.early in omega (arith, next_time, early);
      whole = ticked.whole;
      numbers = ticked.numbers;
      start = made.now.on.board.start;
    };
    coming = subst (λ (n : ℕ). AreComing p.course.events.now n c.agenda) (sym ticked.time) made.coming;
    entering = tt;
  }

  feed_on : feed system e d.time ≡ feed system e b.time ++ items
  feed_on = ap (feed system e) next_time

  log_on : AreTold p.log (p.log ++ tick) items
  log_on = record { log = ap (λ (xs : List ItemSeen). p.log ++ xs) next.told.log; fit = next.told.fit }

  pub ends_on : (ran begins runs : Bool) → ran ≡ is_runner e (world_of b).book.runner → begins ≡ list_any begins_seen tick
      → runs ≡ is_runner e (world_of d).book.runner → (ran || begins) && not runs ≡ ends_in system e b.time
  ends_on ran begins runs ran_is begins_is runs_is =
      let ran_there : ran ≡ runs_after system e b.time = ran_is ∙ ap (λ (w : World). is_runner e w.book.runner) made.now.on.board.world in
      let begins_there : begins ≡ begins_in system e b.time = begins_is ∙ ap (list_any begins_seen) next.told.log ∙ begin_alike items in
      let runs_there : runs ≡ runs_after system e (suc b.time) = runs_is ∙ ap (λ (w : World). is_runner e w.book.runner) next.world in
      λ i. (ran_there i || begins_there i) && not (runs_there i)

  module _ (new : List ItemSeen) (count : ℕ) (ended : Bool) (log_is : new ≡ p.log ++ tick) (ends : ended ≡ ends_in system e b.time)
      (counts : count ≡ p.ended + (if ended then 1 else 0)) where
    told_on : AreTold p.log new items
    told_on = subst (λ (log : List ItemSeen). AreTold p.log log items) (sym log_is) log_on

    whole_left : IsWholeRun (behind p left d new count)
    whole_left = record {
      on = on;
      within = let early = made.early in omega (arith, next_time, early);
      unread = unread_on (feed system e b.time) items (feed system e d.time) p.log new feed_on told_on made.now.unread;
      empty = refl;
      slices = counts
          ∙ (λ i. made.now.slices i + (if ends i then 1 else 0))
          ∙ ap (slices system e) (sym next_time);
    }

    went_left : WentATick (progress_of p) (progress_of (behind p left d new count)) ended
    went_left =
        let read = read_on (feed system e b.time) items (feed system e d.time) p.log new feed_on told_on in
        record {
          same = λ i. record (progress_of p) { ticks = ticked.time i; read = read i };
          within = made.early;
          ends = ends;
        }

    pub whole_on : IsWholeRun (behind p c d new count)
    whole_on = subst (λ (x : Course). IsWholeRun (behind p x d new count)) (sym made.same) whole_left

    pub went_on : WentATick (progress_of p) (progress_of (behind p c d new count)) ended
    went_on = subst (λ (x : Course). WentATick (progress_of p) (progress_of (behind p x d new count)) ended) (sym made.same) went_left
