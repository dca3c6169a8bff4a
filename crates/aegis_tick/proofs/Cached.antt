-- The TLB in whole runs of the model.
use Rattle.std.proofs.Common.{◌≡◌, ℕ, zero, suc, ◌+◌, true, false, refl, ◌∙◌, ap, add-zero, add-suc, add-one}
use Rattle.world_model.specs.Book.{is_idle_book}
use Rattle.world_model.specs.Event.{Schedule}
use Rattle.world_model.specs.World.{World}
use Rattle.run_model.specs.Run.{once_happened, world_after_ticks}
use Rattle.tlb_model.specs.Cache.{Cache}
use Rattle.tlb_course.specs.Course.{cache_after_ticks, cache_ticked, next_cache}
use Rattle.aegis_tick.proofs.Whole.{stays}

next_idle : (schedule : Schedule) (w : World) (c : Cache) → is_idle_book w.book ≡ true → next_cache schedule w c ≡ c
next_idle schedule w c idle = rw idle refl

next_busy : (schedule : Schedule) (w : World) (c : Cache) → is_idle_book w.book ≡ false → next_cache schedule w c ≡ cache_ticked (once_happened schedule w) c
next_busy schedule w c busy = rw busy refl

-- that of an idle world stays as it is
pub cache_stays : (schedule : Schedule) (w : World) (i k : ℕ) (c : Cache) → is_idle_book (world_after_ticks schedule w i).book ≡ true → cache_after_ticks schedule w (i + k) c ≡ cache_after_ticks schedule w i c
cache_stays schedule w i zero c idle = rw add-zero refl
cache_stays schedule w i (suc k) c idle =
    rw add-suc (
    next_idle schedule (world_after_ticks schedule w (i + k)) (cache_after_ticks schedule w (i + k) c) (ap (λ (v : World). is_idle_book v.book) (stays schedule w i k idle) ∙ idle)
    ∙ cache_stays schedule w i k c idle
    )

-- that of a busy one goes through the tick
pub cache_goes_on : (schedule : Schedule) (w : World) (i : ℕ) (c : Cache) → is_idle_book (world_after_ticks schedule w i).book ≡ false
    → cache_after_ticks schedule w (i + 1) c ≡ cache_ticked (once_happened schedule (world_after_ticks schedule w i)) (cache_after_ticks schedule w i c)
cache_goes_on schedule w i c busy = rw add-one (next_busy schedule (world_after_ticks schedule w i) (cache_after_ticks schedule w i c) busy)
