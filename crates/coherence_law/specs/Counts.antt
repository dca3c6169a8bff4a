-- How many rows a tick of a run refills, as numbers.
use Rattle.std.specs.Prelude.{◌≡◌, ◌≢◌, ◌+◌, ◌≤◌, ◌<◌, ℕ, suc}
use Rattle.aegis_limits.specs.Limits.{most_ticks}
use Rattle.tlb_model.specs.declared.fills.Fills.{Fills}
use Rattle.tlb_model.specs.Cache.{fills_of}
use Rattle.tlb_course.specs.Course.{cache_after}
use Rattle.run_model.specs.Run.{System}

-- what is counted of an environment in the first ticks of a run, so many
abbrev pub fills_after : System → ℕ → ℕ → Fills
fills_after system t e = fills_of (cache_after system t).fills e

-- No count falls. Those of refills rise by at most so many together, and that of forwarded misses by at most so many.
pub record Rise (refills misses : ℕ) (before after : Fills) : Type 0 where
  pub guaranteed : before.guaranteed ≤ after.guaranteed
  pub stripe : before.stripe ≤ after.stripe
  pub refilled : after.guaranteed + after.stripe ≤ before.guaranteed + before.stripe + refills
  pub forwarded : before.forwarded ≤ after.forwarded
  pub missed : after.forwarded ≤ before.forwarded + misses

-- In a tick one environment's counts rise by at most two refills and one miss, and all others' stay.
pub record IsRiseOfOne (before after : ℕ → Fills) : Type 0 where
  pub env : ℕ
  pub its : Rise 2 1 (before env) (after env)
  pub others : (e : ℕ) → e ≢ env → after e ≡ before e

-- So it is in each tick that there may be.
abbrev pub CountsRiseByFew : Type 0
CountsRiseByFew =
    (system : System) (t : ℕ) → t < most_ticks → IsRiseOfOne (fills_after system t) (fills_after system (suc t))
