-- How many rows a tick refills, and how many misses it forwards.
use Rattle.std.specs.Prelude.{◌≡◌, ◌≤◌, ℕ, fold, length, Bool, true, false, List}
use Rattle.tlb_model.specs.declared.fills.Fills.{Fills}
use Rattle.tlb_model.specs.Cache.{Cache, with_fills, with_forward, with_refill}
use Rattle.tlb_course.specs.Course.{cache_ticked}
use Rattle.world_model.specs.World.{World}

-- the fills of all once rows were refilled for an environment, each from a guaranteed mapping or from the stripe
abbrev pub refills_counted : ℕ → List Bool → List Fills → List Fills
refills_counted e guaranteed fills = fold (λ fs kept. with_fills (with_refill kept) e fs) fills guaranteed

-- and if a miss of it was forwarded
abbrev pub miss_counted : ℕ → Bool → List Fills → List Fills
miss_counted e true fills = with_fills with_forward e fills
miss_counted e false fills = fills

-- At most two refills were counted, and at most one miss that was forwarded, all of one environment.
pub record AreFew (before after : List Fills) : Type 0 where
  pub env : ℕ
  pub guaranteed : List Bool
  pub few : length guaranteed ≤ 2
  pub forwarded : Bool
  pub counted : after ≡ miss_counted env forwarded (refills_counted env guaranteed before)

-- So it is in each tick, from any TLB on.
abbrev pub TicksFillFew : Type 0
TicksFillFew = (w : World) (c : Cache) → AreFew c.fills (cache_ticked w c).fills
