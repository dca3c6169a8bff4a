-- A tick of one machine on a wire, and the ticks behind it in which it is alone. For proofs: nobody has to believe it.
use Rattle.std.specs.Prelude.{ℕ, ◌≡◌, ◌≤◌, ◌<◌, ◌+◌, ◌-◌, ◌⊎◌, List, ◌++◌, false, drop, length, get_or}
use Rattle.external_event.specs.declared.event.Occurrence.{Occurrence}
use Rattle.external_event.specs.EventValue.{EventValue}
use Rattle.world_model.specs.Book.{is_idle_book}
use Rattle.world_model.specs.Event.{Schedule}
use Rattle.world_model.specs.World.{World}
use Rattle.run_model.specs.Run.{world_after_ticks}
use Rattle.board_model.specs.Shown.{Shown}
use Rattle.board_model.specs.Showing.{world_of}
use Rattle.board_model.specs.Stretch.{IsQuiet, IsSteady}
use Rattle.aegis_tick.specs.Agenda.{first_at, next_time_of, occurrences}
use Rattle.aegis_tick.specs.Course.{HappenedInPart}
use Rattle.wire_model.specs.Wire.{after_tick}
use Rattle.wire_net.specs.declared.delivery.Delivery.{Delivery}
use Rattle.wire_net.specs.declared.net.Station.{Station}
use Rattle.wire_net.specs.Delivery.{arriving}

-- so many packets were sent by each environment of a board
pub record AreCounted (b : Shown) (counts : List ℕ) : Type 0 where
  pub count : length counts ≡ (world_of b).count
  pub each : (e : ℕ) → e < (world_of b).count → get_or counts e 0 ≡ length ((world_of b).solos e).sent

-- A board between ticks: all environments are there, unless it is idle it is at this tick, and no more claims were made
-- than ticks.
pub record IsBetween (t : ℕ) (b : Shown) : Type 0 where
  pub whole : b.roster.spare ≡ 0
  pub time : is_idle_book (world_of b).book ≡ false → b.time ≡ t
  pub numbers : b.claims.next ≤ b.time

-- what happens in a machine by these events of its schedule, and then by what is due
abbrev pub happening : ℕ → List EventValue → List Delivery → List Occurrence
happening machine events due = occurrences events ++ arriving machine due

-- what happens in it in a tick
abbrev pub happening_at : ℕ → ℕ → List Delivery → List EventValue → List Occurrence
happening_at machine time due coming = happening machine (first_at time coming) due

-- what is still to come for it after a tick
abbrev pub still_coming : ℕ → List EventValue → List EventValue
still_coming time coming = drop (length (first_at time coming)) coming

-- Silent ticks from a time on, so many, lead from one world to another: wherever nothing happens in them from outside,
-- they are ticks of the run, and nobody sends in them.
pub record AreSilent (from ticks : ℕ) (w v : World) : Type 0 where
  pub world : (schedule : Schedule) → IsQuiet schedule from (from + ticks) → v ≡ world_after_ticks schedule w ticks
  pub steady : (schedule : Schedule) (k : ℕ) → IsQuiet schedule from (from + ticks) → k ≤ ticks
      → IsSteady w (world_after_ticks schedule w k)

-- A machine at its station: its board is at the station's time, and what it sent is counted.
pub record IsAt (s : Station) (b : Shown) : Type 0 where
  pub between : IsBetween s.time b
  pub counted : AreCounted b s.sent.items

-- A machine made the tick of a time, and then so many silent ones, before the next of its events, and until another
-- time at most.
pub record WentOn (machine time until : ℕ) (due : List Delivery) (b : Shown) (s : Station) (c : Shown) : Type 0 where
  pub turn : s.time ≡ time
  pub further : ℕ
  pub silent : AreSilent (time + 1) further
      (after_tick (happening_at machine time due s.agenda) (world_of b)) (world_of c)
  pub before_event : further ≤ next_time_of (still_coming time s.agenda) - (time + 1)
  pub before_arrival : further ≤ until - (time + 1)

-- So it did, and its station is at the tick that it makes next.
pub record Ticked (machine time until : ℕ) (due : List Delivery) (b : Shown) (s : Station) (c : Shown) (r : Station)
    : Type 0
  where
    pub went : WentOn machine time until due b s c
    pub next : r.time ≡ time + 1 + went.further
    pub agenda : r.agenda ≡ still_coming time s.agenda
    pub here : IsAt r c

-- A machine is ahead of a time, and stays as it is.
pub record IsAhead (time : ℕ) (b : Shown) (s : Station) (c : Shown) (r : Station) : Type 0 where
  pub later : time < s.time
  pub board : c ≡ b
  pub station : r ≡ s

-- A machine is through with the tick of a time.
abbrev pub IsThrough : ℕ → ℕ → ℕ → List Delivery → Shown → Station → Shown → Station → Type 0
IsThrough machine time until due b s c r = Ticked machine time until due b s c r ⊎ IsAhead time b s c r

-- Some first events of a tick happened in a machine that isn't idle.
pub record IsWithin (machine time : ℕ) (due : List Delivery) (b : Shown) (s : Station) (c : Shown) : Type 0 where
  pub turn : s.time ≡ time
  pub busy : is_idle_book (world_of b).book ≡ false
  pub part : HappenedInPart (happening_at machine time due s.agenda) (world_of b) (world_of c)

-- So it is, or the tick was made.
abbrev pub Partly : ℕ → ℕ → ℕ → List Delivery → Shown → Station → Shown → Type 0
Partly machine time until due b s c = IsWithin machine time due b s c ⊎ WentOn machine time until due b s c

-- So it is, or nothing happened.
abbrev pub Happened : ℕ → ℕ → ℕ → List Delivery → Shown → Station → Shown → Type 0
Happened machine time until due b s c = Partly machine time until due b s c ⊎ (c ≡ b)
