-- The course of a run: what happens in it, and how far it came where memory ran out.
use Rattle.std.specs.Prelude.{◌≡◌, ◌⊎◌, ℕ, ◌+◌, ◌*◌, ◌<◌, ◌≤◌, List, length, map, take, false, Result, IsOk}
use Rattle.external_event.specs.declared.event.Occurrence.{Occurrence}
use Rattle.world_model.specs.Book.{is_idle_book}
use Rattle.world_model.specs.Event.{happen}
use Rattle.world_model.specs.World.{World, run_phases}
use Rattle.run_model.specs.Run.{System, happens_in, world_after}
use Rattle.aegis_calls.specs.Rows.{tick_rows}

-- the world once these have happened, one after another
abbrev pub world_with : List Occurrence → World → World
world_with happens w = run_phases w (map happen happens)

-- A run was cut off: after fewer ticks than were asked, in a world that isn't idle, once so many events of its next
-- tick had happened.
pub record IsCutOff (system : System) (ticks : ℕ) (v : World) : Type 0 where
  pub done : ℕ
  pub fewer : done < ticks
  pub busy : is_idle_book (world_after system done).book ≡ false
  pub events : ℕ
  pub is : v ≡ (let w = world_after system done in world_with (take events (happens_in system.schedule w)) w)

-- the rows of the ledger that a long run may have
abbrev pub most_long_rows : ℕ
most_long_rows = 16777216

-- A long run was cut off, or its ledger has more rows than it may have.
abbrev pub IsCutShort : System → ℕ → World → Type 0
IsCutShort system ticks v = IsCutOff system ticks v ⊎ (most_long_rows < length v.rows)

-- Some first ones of these have happened.
abbrev pub HappenedInPart : List Occurrence → World → World → Type 0
HappenedInPart happens w v = (k : ℕ) × (v ≡ world_with (take k happens) w)

-- Where the rows of so many events and ticks are spare, none of them is refused, and no more of these rows are taken.
abbrev pub IsSure : {T E : Type 0} → ℕ → Result T E → ℕ → ℕ → Type 0
IsSure steps result spare left = tick_rows * steps ≤ spare → IsOk result × (spare ≤ left + tick_rows * steps)

-- Where the rows of so many events and of a tick are spare, none of the events is refused, and the rows of the tick are
-- left.
abbrev pub IsReady : {T E : Type 0} → ℕ → Result T E → ℕ → ℕ → Type 0
IsReady events result spare left =
    tick_rows * (events + 1) ≤ spare → IsOk result × (spare ≤ left + tick_rows * events)
