-- The TLB from tick to tick, by the worlds of a run.
use Rattle.std.specs.Prelude.{ℕ, zero, suc, map, if◌then◌else◌, Option, Some, None}
use Rattle.world_model.specs.declared.slot.Runner.{Runner}
use Rattle.world_model.specs.Book.{is_idle_book}
use Rattle.world_model.specs.Deadlines.{takings}
use Rattle.world_model.specs.Event.{Schedule}
use Rattle.world_model.specs.Step.{Act, call_act, step_alone}
use Rattle.world_model.specs.Tick.{act_now, served, step, turn}
use Rattle.world_model.specs.World.{World}
use Rattle.run_model.specs.Boot.{boot_world}
use Rattle.run_model.specs.Run.{System, after_phase, once_happened, world_after_ticks}
use Rattle.tlb_model.specs.Cache.{Cache, boot_cache}
use Rattle.tlb_model.specs.Flushes.{flushed_all}
use Rattle.tlb_model.specs.Lookups.{attempted, settled}
use Rattle.tlb_course.specs.Accesses.{is_kept, mapping_for, step_vpns}
use Rattle.tlb_course.specs.Emptying.{act_flushes, count_flushes, taking_flush}

-- ---- the phases of a tick, each over the world that it begins in; events and the turn leave the TLB as it is

-- Deadlines: the rows of the pages that are taken are emptied.
abbrev pub cache_served : World → Cache → Cache
cache_served w c = flushed_all (map taking_flush (takings w)) c

-- The accesses of an environment's step are looked up, with at most two refills, and the step is made.
abbrev pub cache_looked : World → ℕ → Cache → Cache
cache_looked w e c =
    let s = w.solos e
    in attempted e (step_alone s) (settled 2 (is_kept w.book e) (mapping_for w.book e) e (step_vpns s) c)

-- The rows go that an environment's act empties.
abbrev pub cache_acted : World → ℕ → Act → Cache → Cache
cache_acted w e act c = flushed_all (act_flushes w e act) c

-- The step: the runner's, and then its act.
abbrev pub cache_stepped_by : World → Option Runner → Cache → Cache
cache_stepped_by w None c = c
cache_stepped_by w (Some r) c = cache_acted w r.env (act_now w r.env) (cache_looked w r.env c)

abbrev pub cache_stepped : World → Cache → Cache
cache_stepped w c = cache_stepped_by w w.book.runner c

-- The timer.
abbrev pub cache_timed : World → Cache → Cache
cache_timed w c = flushed_all (count_flushes w w.book.runner) c

-- Apart from a tick: the kernel call at which an environment stands.
abbrev pub cache_called : World → ℕ → Cache → Cache
cache_called w e c = cache_acted w e (call_act (w.solos e).cpu) c

-- ---- ticks

-- from the world at its step to the end of the tick
abbrev pub cache_finished : World → Cache → Cache
cache_finished w c = cache_timed (after_phase step w) (cache_stepped w c)

-- a whole tick, from the world behind its events
abbrev pub cache_ticked : World → Cache → Cache
cache_ticked w c = cache_finished (after_phase turn (served w)) (cache_served w c)

-- the next tick of a run; an idle world's TLB stays as it is
abbrev pub next_cache : Schedule → World → Cache → Cache
next_cache schedule w c = if is_idle_book w.book then c else cache_ticked (once_happened schedule w) c

-- the TLB after so many ticks more
abbrev pub cache_after_ticks : Schedule → World → ℕ → Cache → Cache
cache_after_ticks schedule w zero c = c
cache_after_ticks schedule w (suc t) c =
    next_cache schedule (world_after_ticks schedule w t) (cache_after_ticks schedule w t c)

abbrev pub cache_after : System → ℕ → Cache
cache_after system t = cache_after_ticks system.schedule (boot_world system.image) t boot_cache
