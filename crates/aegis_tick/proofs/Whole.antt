-- Whole runs of the model.
use Rattle.std.proofs.Common.{◌≡◌, ℕ, zero, suc, ◌+◌, true, false, refl, ◌∙◌, ap, add-zero, add-suc, add-one}
use Rattle.world_model.specs.Book.{is_idle_book}
use Rattle.world_model.specs.Event.{Schedule}
use Rattle.world_model.specs.World.{World, run_phases}
use Rattle.run_model.specs.Run.{next_phases, next_world, world_after_ticks}

next_idle : (schedule : Schedule) (w : World) → is_idle_book w.book ≡ true → next_world schedule w ≡ w
next_idle schedule w idle = rw idle refl

pub next_busy : (schedule : Schedule) (w : World) → is_idle_book w.book ≡ false → next_world schedule w ≡ run_phases w (next_phases schedule w)
next_busy schedule w busy = rw busy refl

-- an idle world stays as it is
pub stays : (schedule : Schedule) (w : World) (i k : ℕ) → is_idle_book (world_after_ticks schedule w i).book ≡ true → world_after_ticks schedule w (i + k) ≡ world_after_ticks schedule w i
stays schedule w i zero idle = rw add-zero refl
stays schedule w i (suc k) idle = rw add-suc (ap (next_world schedule) (stays schedule w i k idle) ∙ next_idle schedule (world_after_ticks schedule w i) idle)

-- a busy one goes through what happens in its next tick, and then the tick
pub goes_on : (schedule : Schedule) (w : World) (i : ℕ) → is_idle_book (world_after_ticks schedule w i).book ≡ false → world_after_ticks schedule w (i + 1) ≡ run_phases (world_after_ticks schedule w i) (next_phases schedule (world_after_ticks schedule w i))
goes_on schedule w i busy = rw add-one (next_busy schedule (world_after_ticks schedule w i) busy)
