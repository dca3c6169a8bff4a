-- Ticks behind ticks, by induction on how many there are more.
use Rattle.std.proofs.Common.{◌≡◌, ◌+◌, ℕ, zero, suc, refl, ◌∙◌, ap, add-zero, add-suc}
use Rattle.world_model.specs.World.{World}
use Rattle.run_model.specs.Run.{next_world, world_after_ticks}
use Rattle.tlb_course.specs.Course.{cache_after_ticks, next_cache}
use Rattle.tlb_course.specs.Further.{CachesGoOn, WorldsGoOn}

pub worlds_go_on : WorldsGoOn
worlds_go_on schedule w t zero = rw add-zero refl
worlds_go_on schedule w t (suc k) = rw add-suc (ap (next_world schedule) (worlds_go_on schedule w t k))

pub caches_go_on : CachesGoOn
caches_go_on schedule w t zero c = rw add-zero refl
caches_go_on schedule w t (suc k) c =
    rw add-suc (
    ap (λ (v : World). next_cache schedule v (cache_after_ticks schedule (world_after_ticks schedule w t) k (cache_after_ticks schedule w t c))) (worlds_go_on schedule w t k)
    ∙ ap (next_cache schedule (world_after_ticks schedule w (t + k))) (caches_go_on schedule w t k c)
    )
