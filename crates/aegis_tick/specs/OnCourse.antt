-- A run on its course, between two ticks and in the middle of one.
use Rattle.std.specs.Prelude.{◌≡◌, ◌≤◌, ◌+◌, ◌-◌, ◌*◌, ℕ, length, false, min, IfSome, None, Result}
use Rattle.aegis_limits.specs.Limits.{most_ticks}
use Rattle.world_model.specs.Book.{is_idle_book}
use Rattle.world_model.specs.Event.{schedule_of}
use Rattle.run_model.specs.Boot.{boot_world}
use Rattle.run_model.specs.Run.{System, happens_in, world_after}
use Rattle.tlb_course.specs.Course.{cache_after}
use Rattle.board_model.specs.Shown.{Shown}
use Rattle.board_model.specs.Showing.{world_of}
use Rattle.aegis_calls.specs.Cached.{GoesAsFar}
use Rattle.aegis_calls.specs.Entering.{IsEntering}
use Rattle.aegis_calls.specs.Rows.{step_rows, tick_rows}
use Rattle.aegis_tick.specs.declared.course.Course.{Course}
use Rattle.aegis_tick.specs.Agenda.{AreComing, next_time_of}
use Rattle.aegis_tick.specs.Course.{HappenedInPart, IsSure, most_long_rows}
use Rattle.aegis_tick.specs.Halves.{MayFinish, mid}

-- what a run goes by
abbrev pub system_of : Course → System
system_of c = record { image = c.image.now; schedule = schedule_of c.events.now }

-- The board is that of the system after its ticks, and may make more.
pub record IsBoardOf (system : System) (b : Shown) : Type 0 where
  pub world : world_of b ≡ world_after system b.time
  pub within : b.time ≤ most_ticks
  pub whole : b.roster.spare ≡ 0
  pub numbers : b.claims.next ≤ b.time
  pub start : (boot_world system.image).book.time ≡ 0

-- A run is on its course: its board is that of its system, on its agenda are the events that are to come, and where it
-- is told by what the runner enters the kernel in the next tick, it does.
pub record IsOn (c : Course) : Type 0 where
  pub board : IsBoardOf (system_of c) c.board
  pub coming : AreComing c.events.now c.board.time c.agenda
  pub entering : IfSome c.entry (IsEntering c.board)

-- Its TLB is that of the model.
abbrev pub IsCached : Course → Type 0
IsCached c = c.board.tlb ≡ cache_after (system_of c) c.board.time

-- Of the next tick some first events have happened, and nothing else.
abbrev pub IsStoppedInTick : Course → Course → Type 0
IsStoppedInTick old new =
    HappenedInPart (happens_in (system_of old).schedule (world_of old.board)) (world_of old.board) (world_of new.board)

-- Plain ticks went as far as they go before the next event, of at most so many.
abbrev pub GlidesAsFar : Course → Course → ℕ → ℕ → Type 0
GlidesAsFar old new most made =
    GoesAsFar old.board new.board (min most (next_time_of old.agenda - old.board.time)) made

-- Where the rows of its events and of the tick are spare, a tick isn't refused, and no more of these rows are taken.
abbrev pub IsSureOfTick : {T E : Type 0} → Course → Result T E → Course → Type 0
IsSureOfTick old result new =
    IsSure (length old.agenda - length new.agenda + 1) result old.board.ledger.spare new.board.ledger.spare

-- Of the spare rows no more were taken than `tick_rows` for each event that happened and for each tick that was made.
unfoldable pub TookFewRows : Course → Course → Type 0
TookFewRows old new =
    old.board.ledger.spare + tick_rows * (length new.agenda + old.board.time)
    ≤ new.board.ledger.spare + tick_rows * (length old.agenda + new.board.time)

-- A run has the rows for all ticks up to a limit: they are spare for each event that is to come and for each tick, and the
-- ledger then has no more rows than that of a long run may have.
pub record HasRowsUpTo (c : Course) (ticks : ℕ) : Type 0 where
  pub spare : tick_rows * (length c.agenda + (ticks - c.board.time)) ≤ c.board.ledger.spare
  pub few : length (world_after (system_of c) ticks).rows ≤ most_long_rows

-- A run is in the middle of a tick: what happens in it has happened, and the runner's step is to come.
pub record IsMidway (c : Course) : Type 0 where
  pub world : world_of c.board ≡ mid (system_of c).schedule (world_after (system_of c) c.board.time)
  pub busy : is_idle_book (world_after (system_of c) c.board.time).book ≡ false
  pub may : MayFinish c.board
  pub coming : AreComing c.events.now (c.board.time + 1) c.agenda
  pub untold : c.entry ≡ None
  pub room : 2 * step_rows ≤ c.board.ledger.spare
  pub start : (boot_world c.image.now).book.time ≡ 0
