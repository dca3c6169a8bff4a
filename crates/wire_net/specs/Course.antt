-- How far the machines on a wire came.
use Rattle.std.specs.Prelude.{ℕ, ◌≡◌, ◌≤◌, ◌<◌, List, Vec, false, length, take, get_or}
use Rattle.std.specs.Global.{Global}
use Rattle.external_event.specs.EventValue.{EventValue}
use Rattle.world_model.specs.Book.{is_idle_book}
use Rattle.world_model.specs.Event.{Schedule, schedule_of}
use Rattle.world_model.specs.World.{World}
use Rattle.board_model.specs.Shown.{Shown}
use Rattle.board_model.specs.Showing.{world_of}
use Rattle.run_model.specs.Run.{happens_in, world_after_ticks}
use Rattle.aegis_tick.specs.Course.{world_with}
use Rattle.wire_model.specs.Wire.{Wire, wired, world_on_wire}

-- the wire of these boards, with these schedules
pub record IsWireOf (boards : List Shown) (events : List (Vec EventValue Global)) (ticks : ℕ) (wire : Wire) : Type 0
  where
    pub count : wire.count ≡ length boards
    pub delay : wire.delay ≡ ticks
    pub starts : (i : ℕ) (b : Shown) → i < length boards → (wire.machines i).start ≡ world_of (get_or boards i b)
    pub schedules : (i : ℕ) (v : Vec EventValue Global) → i < length boards
        → (wire.machines i).schedule ≡ schedule_of (get_or events i v).items

-- A machine came so far: it made so many ticks, at most those that were asked for, and unless it is idle so many events
-- of the next happened.
pub record CameSoFar (schedule : Schedule) (w : World) (ticks : ℕ) (v : World) : Type 0 where
  pub done : ℕ
  pub within : done ≤ ticks
  pub events : ℕ
  pub busy : 1 ≤ events → is_idle_book (world_after_ticks schedule w done).book ≡ false
  pub is : v ≡ world_with (take events (happens_in schedule (world_after_ticks schedule w done)))
      (world_after_ticks schedule w done)

-- each board shows its machine's world after so many ticks
abbrev pub AllShow : Wire → ℕ → List Shown → Type 0
AllShow net ticks boards = (i : ℕ) (b : Shown) → i < length boards
    → world_of (get_or boards i b) ≡ world_on_wire net i ticks

-- each machine came so far on its way to so many ticks
abbrev pub AllCameSoFar : Wire → ℕ → List Shown → Type 0
AllCameSoFar net ticks boards = (i : ℕ) (b : Shown) → i < length boards
    → CameSoFar (wired net ticks i) (net.machines i).start ticks (world_of (get_or boards i b))
