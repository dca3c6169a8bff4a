-- A tick, its halves, and plain ticks keep a run on its course.
use Rattle.std.proofs.Common.{◌≡◌, ◌≤◌, ◌<◌, ◌+◌, ◌-◌, ℕ, List, drop, length, false, true, sym, ◌∙◌, ap, subst, arith}
use Rattle.std.specs.Prelude.{◌==◌}
use Rattle.std.proofs.lemmas.List.{length-drop}
use Rattle.std.proofs.lemmas.List.Folds.{length-prefix_len}
use Rattle.std.proofs.lemmas.List.Sums.{prefix_len-le-length}
use Rattle.aegis_limits.specs.Limits.{most_ticks}
use Rattle.external_event.specs.declared.event.Occurrence.{Occurrence}
use Rattle.external_event.specs.EventValue.{EventValue}
use Rattle.world_model.specs.Book.{is_idle_book}
use Rattle.world_model.specs.Event.{schedule_of}
use Rattle.world_model.specs.Tick.{tick_step}
use Rattle.world_model.specs.World.{World, run_phases}
use Rattle.run_model.specs.Boot.{boot_world}
use Rattle.run_model.specs.Run.{System, happens_in, next_phases, once_happened, world_after, world_after_ticks}
use Rattle.tlb_model.specs.Cache.{boot_cache}
use Rattle.tlb_course.specs.Course.{cache_after, cache_after_ticks, cache_ticked}
use Rattle.tlb_course.specs.Further.{CachesGoOn, WorldsGoOn}
use Rattle.board_model.specs.Shown.{Shown}
use Rattle.board_model.specs.Showing.{world_of}
use Rattle.board_model.specs.Ticks.{IsTicked}
use Rattle.aegis_tick.specs.Agenda.{AgendasAreRight, AreComing, first_at, occurrences}
use Rattle.aegis_tick.specs.Course.{world_with}
use Rattle.aegis_tick.specs.OnCourse.{IsBoardOf}
use Rattle.aegis_tick.proofs.Cached.{cache_goes_on, cache_stays}
use Rattle.aegis_tick.proofs.Happening.{then_ticks}
use Rattle.aegis_tick.proofs.Whole.{goes_on, stays}

-- The first events of an agenda that are of a time are taken off.
module _ (right : AgendasAreRight) (events agenda now rest : List EventValue) (t time : ℕ) (same : time ≡ t) (are : now ≡ first_at time agenda)
    (left : rest ≡ drop (length now) agenda) (coming : AreComing events t agenda) where
  firsts : now ≡ first_at t agenda
  firsts = are ∙ ap (λ (n : ℕ). first_at n agenda) same

  pub due_now : occurrences now ≡ schedule_of events t
  due_now = ap occurrences firsts ∙ right.now events agenda t coming

  pub due_later : AreComing events (t + 1) rest
  due_later =
      subst (AreComing events (t + 1)) (sym (left ∙ ap (λ (xs : List EventValue). drop (length xs) agenda) firsts)) (right.later events agenda t coming)

  pub due_count : length agenda ≡ length rest + length now
  due_count =
      let is_at = λ (x : EventValue). x.time == t in
      omega (arith, ap length left, length-drop (length now) agenda, ap length firsts, length-prefix_len is_at agenda, prefix_len-le-length is_at agenda)

-- A board at its system's world after a tick more.
pub next_board : (system : System) (b c : Shown) → IsBoardOf system b → b.time < most_ticks → world_of c ≡ world_after system (b.time + 1) → IsTicked b c
    → IsBoardOf system c
next_board system b c now limit world ticked = record {
  world = world ∙ ap (world_after system) (sym ticked.time);
  within = omega (arith, ticked.time, limit);
  whole = ticked.whole;
  numbers = ticked.numbers;
  start = now.start;
}

-- The next tick, in which this happens.
module _ (system : System) (b c : Shown) (happens : List Occurrence) (now : IsBoardOf system b) (busy : is_idle_book (world_of b).book ≡ false)
    (are : happens ≡ happens_in system.schedule (world_of b)) (limit : b.time < most_ticks) (ticked : IsTicked b c) where
  abbrev v : World
  v = world_of b

  busy_there : is_idle_book (world_after system b.time).book ≡ false
  busy_there = ap (λ (u : World). is_idle_book u.book) (sym now.world) ∙ busy

  pub ticked_on : world_of c ≡ tick_step (world_with happens v) → IsBoardOf system c
  ticked_on world =
      next_board system b c now limit
      (world
      ∙ ap (λ (xs : List Occurrence). tick_step (world_with xs v)) are
      ∙ sym (then_ticks system.schedule v)
      ∙ ap (λ (u : World). run_phases u (next_phases system.schedule u)) now.world
      ∙ sym (goes_on system.schedule (boot_world system.image) b.time busy_there))
      ticked

  pub cached_on : c.tlb ≡ cache_ticked (world_with happens v) b.tlb → b.tlb ≡ cache_after system b.time → c.tlb ≡ cache_after system c.time
  cached_on tlb cached =
      tlb
      ∙ ap (λ (xs : List Occurrence). cache_ticked (world_with xs v) b.tlb) are
      ∙ ap (λ (u : World). cache_ticked (once_happened system.schedule u) b.tlb) now.world
      ∙ ap (cache_ticked (once_happened system.schedule (world_after system b.time))) cached
      ∙ sym (cache_goes_on system.schedule (boot_world system.image) b.time boot_cache busy_there)
      ∙ ap (cache_after system) (sym ticked.time)

-- Plain ticks, so many.
module _ (system : System) (b c : Shown) (k : ℕ) (now : IsBoardOf system b) (time : c.time ≡ b.time + k) (limit : b.time + k ≤ most_ticks) where
  pub glided_on : WorldsGoOn → world_of c ≡ world_after_ticks system.schedule (world_of b) k → c.roster.spare ≡ b.roster.spare → c.claims.next ≡ b.claims.next
      → IsBoardOf system c
  glided_on further world whole numbers = record {
    world = world
        ∙ ap (λ (u : World). world_after_ticks system.schedule u k) now.world
        ∙ further system.schedule (boot_world system.image) b.time k
        ∙ ap (world_after system) (sym time);
    within = omega (arith, time, limit);
    whole = whole ∙ now.whole;
    numbers = omega (arith, time, numbers, now.numbers);
    start = now.start;
  }

  pub glided_cache : CachesGoOn → c.tlb ≡ cache_after_ticks system.schedule (world_of b) k b.tlb → b.tlb ≡ cache_after system b.time
      → c.tlb ≡ cache_after system c.time
  glided_cache further tlb cached =
      tlb
      ∙ ap (λ (u : World). cache_after_ticks system.schedule u k b.tlb) now.world
      ∙ ap (cache_after_ticks system.schedule (world_after system b.time) k) cached
      ∙ further system.schedule (boot_world system.image) b.time k boot_cache
      ∙ ap (cache_after system) (sym time)

-- An idle board is that of the system after any ticks more.
module _ (system : System) (b : Shown) (ticks : ℕ) (now : IsBoardOf system b) (within : b.time ≤ ticks) (idle : is_idle_book (world_of b).book ≡ true) where
  idle_there : is_idle_book (world_after system b.time).book ≡ true
  idle_there = ap (λ (u : World). is_idle_book u.book) (sym now.world) ∙ idle

  whole : b.time + (ticks - b.time) ≡ ticks
  whole = omega arith

  pub idle_world : world_of b ≡ world_after system ticks
  idle_world =
      now.world ∙ sym (stays system.schedule (boot_world system.image) b.time (ticks - b.time) idle_there) ∙ ap (world_after system) whole

  pub idle_cache : b.tlb ≡ cache_after system b.time → b.tlb ≡ cache_after system ticks
  idle_cache cached =
      cached ∙ sym (cache_stays system.schedule (boot_world system.image) b.time (ticks - b.time) boot_cache idle_there) ∙ ap (cache_after system) whole
