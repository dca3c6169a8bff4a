-- What the TLB is behind a call, and behind ticks in which nothing happens from outside. For proofs: nobody has to believe it.
use Rattle.std.specs.Prelude.{◌≡◌, ◌<◌, ℕ, ◌+◌, ◌/◌, false, Option, Some, None}
use Rattle.std.specs.Option.{option_map}
use Rattle.aegis_limits.specs.Limits.{page_size}
use Rattle.env_frames.specs.declared.mapping.Mapping.{Mapping}
use Rattle.mips_step.specs.WordStep.{has_retired}
use Rattle.world_model.specs.Book.{running}
use Rattle.world_model.specs.Event.{Schedule}
use Rattle.board_model.specs.Doing.{step_seen}
use Rattle.board_model.specs.Refilling.{refill_of, vpns_of, with_refilled}
use Rattle.board_model.specs.Shown.{Shown}
use Rattle.board_model.specs.Showing.{world_of}
use Rattle.board_model.specs.Stretch.{IsQuiet, plain_ticks, stretched}
use Rattle.tlb_model.specs.Cache.{Cache}
use Rattle.tlb_model.specs.Lookups.{first_missing}
use Rattle.tlb_course.specs.Course.{cache_after_ticks, cache_called}

-- once the runner's call is served, it is the model's
abbrev pub IsCallCached : Shown → Shown → Type 0
IsCallCached old new = (e : ℕ) → running old.slots.runner ≡ Some e → new.tlb ≡ cache_called (world_of old) e old.tlb

-- in each of the next plain ticks, so many, every access of the step finds its row
pub record FindRows (b : Shown) (e ticks : ℕ) : Type 0 where
  pub each : (k : ℕ) → k < ticks → first_missing b.tlb.rows e (vpns_of (stretched b e k) e) ≡ None

-- where nothing happens from outside in so many ticks between two boards, it is the model's
abbrev pub AreCachedTicks : Shown → Shown → ℕ → Type 0
AreCachedTicks before now ticks =
    (schedule : Schedule) → IsQuiet schedule before.time (before.time + ticks)
    → now.tlb ≡ cache_after_ticks schedule (world_of before) ticks before.tlb

-- the board after so many plain ticks, with what they made of the TLB
abbrev pub stretched_with : Shown → ℕ → ℕ → Cache → Shown
stretched_with b e ticks tlb = record (stretched b e ticks) { tlb = tlb }

-- The environment's next step isn't made over the rows as they are: either an access of it finds no row, or it doesn't
-- retire.
abbrev pub IsStuck : Shown → ℕ → Type 0
IsStuck b e = first_missing b.tlb.rows e (vpns_of b e) ≡ None → has_retired (step_seen b e) ≡ false

-- Its next step ends a stretch: it doesn't retire, or it isn't made even where its first miss is refilled.
pub record EndsStretch (b : Shown) (e : ℕ) : Type 0 where
  pub settled : refill_of b e ≡ None → has_retired (step_seen b e) ≡ false
  pub refilled : (m : Mapping) → refill_of b e ≡ Some m → IsStuck (with_refilled b e m) e

-- where its next step has a miss, this address is of its page
abbrev pub IsOfMiss : Shown → ℕ → Option ℕ → Type 0
IsOfMiss b e address =
    (vpn : ℕ) → first_missing b.tlb.rows e (vpns_of b e) ≡ Some vpn
    → option_map (λ (x : ℕ). x / page_size) address ≡ Some vpn

-- Where fewer ticks went by than plain ones may, of at most so many, the runner's next step ends the stretch.
abbrev pub GoesAsFar : Shown → Shown → ℕ → ℕ → Type 0
GoesAsFar before now most ticks =
    (e : ℕ) → running before.slots.runner ≡ Some e
    → ticks < plain_ticks before.slots before.revocations before.time most → EndsStretch now e
