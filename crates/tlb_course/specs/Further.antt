-- Ticks behind ticks.
use Rattle.std.specs.Prelude.{◌≡◌, ℕ, ◌+◌}
use Rattle.world_model.specs.Event.{Schedule}
use Rattle.world_model.specs.World.{World}
use Rattle.run_model.specs.Run.{world_after_ticks}
use Rattle.tlb_model.specs.Cache.{Cache}
use Rattle.tlb_course.specs.Course.{cache_after_ticks}

-- the world after so many ticks, and so many more
abbrev pub WorldsGoOn : Type 0
WorldsGoOn =
    (schedule : Schedule) (w : World) (t k : ℕ)
    → world_after_ticks schedule (world_after_ticks schedule w t) k ≡ world_after_ticks schedule w (t + k)

-- and the TLB beside it
abbrev pub CachesGoOn : Type 0
CachesGoOn =
    (schedule : Schedule) (w : World) (t k : ℕ) (c : Cache)
    → cache_after_ticks schedule (world_after_ticks schedule w t) k (cache_after_ticks schedule w t c)
    ≡ cache_after_ticks schedule w (t + k) c
