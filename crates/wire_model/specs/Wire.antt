-- Machines on a wire: what each of them sends, and what happens in each.
use Rattle.std.specs.Prelude.{ℕ, zero, suc, ◌-◌, List, [], ◌++◌, Bool, false, not, nat_lt, ◌==◌, ◌&&◌, ◌||◌, if◌then◌else◌, drop, filter, length, map, Option, Some, None, slice_get}
use Rattle.external_event.specs.declared.event.Occurrence.{Occurrence}
use Rattle.external_event.specs.declared.event.Occurrence.TheVariants as outside
use Rattle.external_event.specs.Packet.{is_packet}
use Rattle.world_model.specs.Book.{is_idle_book}
use Rattle.world_model.specs.Event.{Schedule, happen}
use Rattle.world_model.specs.Table.{set_at}
use Rattle.world_model.specs.Tick.{tick_step}
use Rattle.world_model.specs.World.{World, run_phases}
use Rattle.run_model.specs.Run.{world_after_ticks}
use Rattle.wire_model.specs.Limits.{all_others}

-- a machine: its world at the start, and what happens in it by its own schedule
pub record Machine : Type 0 where
  pub start : World
  pub schedule : Schedule

-- so many machines, numbered from 0, on a wire that carries a packet in so many ticks
pub record Wire : Type 0 where
  pub machines : ℕ → Machine
  pub count : ℕ
  pub delay : ℕ

-- a packet on the wire, with the number of the machine that sent it
pub record Frame : Type 0 where
  pub sender : ℕ
  pub packet : List ℕ

-- the lists of 0, 1 and so on, so many, one behind another
abbrev pub joined : {A : Type 0} → (ℕ → List A) → ℕ → List A
joined f zero = []
joined f (suc n) = joined f n ++ f n

-- Byte 5 of a packet, the last of its destination address, names a machine, or all machines but the sender. A packet
-- without it is for none.
abbrev pub names : Option ℕ → ℕ → Bool
names None machine = false
names (Some byte) machine = byte == machine || byte == all_others

abbrev pub comes_to : ℕ → ℕ → List ℕ → Bool
comes_to sender machine packet = not (machine == sender) && names (slice_get packet 5) machine

-- the packets by which what each environment sent is longer in a later world, by number of environment
abbrev pub sent_between : World → World → List (List ℕ)
sent_between old new =
    filter is_packet (joined (λ e. drop (length (old.solos e).sent) (new.solos e).sent) new.count)

-- what happens in each machine
abbrev pub Schedules : Type 0
Schedules = ℕ → Schedule

-- the world of a machine after so many ticks in which this happens
abbrev pub world_in : Wire → Schedules → ℕ → ℕ → World
world_in wire happens machine t = world_after_ticks (happens machine) (wire.machines machine).start t

-- what the machines put on the wire in a tick, by number of machine
abbrev pub framed : ℕ → List ℕ → Frame
framed machine packet = record { sender = machine; packet = packet }

abbrev pub put_on_wire : Wire → Schedules → ℕ → List Frame
put_on_wire wire happens t =
    joined (λ i. map (framed i) (sent_between (world_in wire happens i t) (world_in wire happens i (suc t)))) wire.count

-- what arrives at a machine in a tick: the packets for it that were put on the wire so many ticks before
abbrev pub is_frame_for : ℕ → Frame → Bool
is_frame_for machine frame = comes_to frame.sender machine frame.packet

abbrev pub arrival : Frame → Occurrence
arrival frame = outside.Packet frame.packet

abbrev pub arrivals : Wire → Schedules → ℕ → ℕ → List Occurrence
arrivals wire happens t machine =
    if nat_lt t wire.delay then [] else
    map arrival (filter (is_frame_for machine) (put_on_wire wire happens (t - wire.delay)))

-- What happens in the machines in the ticks below one, by recursion on ticks: in each tick first what a machine's own
-- schedule says, and then what arrives at it.
abbrev pub wired : Wire → ℕ → Schedules
wired wire zero machine tick = []
wired wire (suc t) machine tick =
    set_at t ((wire.machines machine).schedule t ++ arrivals wire (wired wire t) t machine) (wired wire t machine) tick

-- the world of a machine on the wire after so many ticks
abbrev pub world_on_wire : Wire → ℕ → ℕ → World
world_on_wire wire machine t = world_in wire (wired wire t) machine t

-- the world after a tick in which this happens; an idle one stays as it is
abbrev pub after_tick : List Occurrence → World → World
after_tick happens w = if is_idle_book w.book then w else tick_step (run_phases w (map happen happens))
