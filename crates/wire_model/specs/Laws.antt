-- The laws of machines on a wire.
use Rattle.std.specs.Prelude.{◌≡◌, ◌<◌, ◌≤◌, ◌++◌, ℕ, suc, false}
use Rattle.world_model.specs.Book.{is_idle_book}
use Rattle.world_model.specs.Event.{Schedule}
use Rattle.world_model.specs.World.{World}
use Rattle.run_model.specs.Run.{world_after_ticks}
use Rattle.wire_model.specs.Wire.{Wire, after_tick, arrivals, put_on_wire, wired, world_in, world_on_wire}

-- Its run to a tick reads its schedule below that tick alone.
abbrev pub ReadsBelow : Type 0
ReadsBelow = (one other : Schedule) (w : World) (t : ℕ) → w.book.time ≡ 0
    → ((u : ℕ) → u < t → one u ≡ other u) → world_after_ticks one w t ≡ world_after_ticks other w t

-- every machine begins at time 0
abbrev pub BeginAtZero : Wire → Type 0
BeginAtZero wire = (i : ℕ) → i < wire.count → (wire.machines i).start.book.time ≡ 0

-- What is known of the machines' schedules below a tick settles their worlds up to it.
abbrev pub WorldsAreSettled : Type 0
WorldsAreSettled = (wire : Wire) (i t known : ℕ) → BeginAtZero wire → i < wire.count → t ≤ known
    → world_in wire (wired wire known) i t ≡ world_on_wire wire i t

-- so it settles what was put on the wire before it
abbrev pub FramesAreSettled : Type 0
FramesAreSettled = (wire : Wire) (t known : ℕ) → BeginAtZero wire → t < known
    → put_on_wire wire (wired wire known) t ≡ put_on_wire wire (wired wire (suc t)) t

-- What happens in a tick, once it is known, is what the machine's schedule says and then what arrives.
abbrev pub HappensOnWire : Type 0
HappensOnWire = (wire : Wire) (i t known : ℕ) → t < known
    → wired wire known i t ≡ (wire.machines i).schedule t ++ arrivals wire (wired wire t) t i

-- So the world behind it is the world before it after a tick in which that happens.
abbrev pub TicksOnWire : Type 0
TicksOnWire = (wire : Wire) (i t : ℕ) → BeginAtZero wire → i < wire.count
    → world_on_wire wire i (suc t) ≡ after_tick ((wire.machines i).schedule t ++ arrivals wire (wired wire t) t i)
    (world_on_wire wire i t)
