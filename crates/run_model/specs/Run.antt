-- Whole runs: the world after so many ticks and at each moment of a tick, and what each environment was given.
use Rattle.std.specs.Prelude.{ℕ, zero, suc, ◌+◌, List, [], ◌++◌, false, ◌==◌, if◌then◌else◌, ◌≡◌, length, map, take, Option, None, Some, slice_get}
use Rattle.boot_image.specs.ImageValue.{ImageValue}
use Rattle.kernel_journal.specs.declared.row.RunEnd.{RunEnd}
use Rattle.kernel_journal.specs.declared.row.RunEnd.TheVariants as end
use Rattle.world_model.specs.Book.{is_idle_book}
use Rattle.world_model.specs.Solo.{absent}
use Rattle.world_model.specs.Item.{Item, absorb_all}
use Rattle.world_model.specs.World.{World, Reply, after, in_turn, run_phases}
use Rattle.external_event.specs.declared.event.Occurrence.{Occurrence}
use Rattle.world_model.specs.Event.{Schedule, happen}
use Rattle.revocation_book.specs.declared.revocation.Taking.{Taking}
use Rattle.world_model.specs.Deadlines.{takings}
use Rattle.world_model.specs.Tick.{phases_after, served, step, timer, turn}
use Rattle.run_model.specs.Boot.{boot_world, boot_items}

-- what a run goes by: an image, and what happens from outside
pub record System : Type 0 where
  pub image : ImageValue
  pub schedule : Schedule

-- what happens in the next tick
abbrev pub happens_in : Schedule → World → List Occurrence
happens_in schedule w = schedule w.book.time

-- the world once that has happened, and what is taken in it
abbrev pub once_happened : Schedule → World → World
once_happened schedule w = run_phases w (map happen (happens_in schedule w))

abbrev pub takings_next : Schedule → World → List Taking
takings_next schedule w = takings (once_happened schedule w)

-- the phases of the next tick
abbrev pub next_phases : Schedule → World → List (World → Reply)
next_phases schedule w = phases_after (happens_in schedule w) (takings_next schedule w)

-- an idle world stays as it is
abbrev pub next_world : Schedule → World → World
next_world schedule w = if is_idle_book w.book then w else run_phases w (next_phases schedule w)

-- the world after so many ticks more
abbrev pub world_after_ticks : Schedule → World → ℕ → World
world_after_ticks schedule w zero = w
world_after_ticks schedule w (suc t) = next_world schedule (world_after_ticks schedule w t)

abbrev pub world_after : System → ℕ → World
world_after system t = world_after_ticks system.schedule (boot_world system.image) t

-- The moments of a tick: the world before its phase of this number, once so many phases are over.
abbrev pub moment : System → ℕ → ℕ → World
moment system t k = let w = world_after system t in run_phases w (take k (next_phases system.schedule w))

-- how many phases a tick has
abbrev pub phases_in : System → ℕ → ℕ
phases_in system t = length (next_phases system.schedule (world_after system t))

-- how much happens in a tick before its turn
abbrev pub events_in : System → ℕ → ℕ
events_in system t = length (happens_in system.schedule (world_after system t))

-- what is taken in a tick at deadlines that have come
abbrev pub takings_in : System → ℕ → List Taking
takings_in system t = takings_next system.schedule (world_after system t)

-- how many phases come before a tick's turn: its events, its takings, and the end of the deadlines that have come
abbrev pub before_turn : System → ℕ → ℕ
before_turn system t = events_in system t + (length (takings_in system t) + 1)

-- once the events of a tick are over, its deadlines are served, then its turn is taken; then the step is made, and then
-- the timer counts
abbrev pub at_deadlines : System → ℕ → World
at_deadlines system t = moment system t (events_in system t)

abbrev pub at_turn : System → ℕ → World
at_turn system t = moment system t (before_turn system t)

abbrev pub at_step : System → ℕ → World
at_step system t = moment system t (before_turn system t + 1)

abbrev pub at_timer : System → ℕ → World
at_timer system t = moment system t (before_turn system t + 2)

-- the world after a phase
abbrev pub after_phase : (World → Reply) → World → World
after_phase phase w = after w (phase w)

-- what an environment is given in the next tick
abbrev pub next_items : Schedule → World → ℕ → List Item
next_items schedule w e = if is_idle_book w.book then [] else (in_turn (next_phases schedule w) w).items e

-- what an environment is given in a tick
abbrev pub items_in : System → ℕ → ℕ → List Item
items_in system t e = next_items system.schedule (world_after system t) e

-- what an environment is given in a phase of a tick; behind the last phase nothing is given
abbrev pub given_by : World → Option (World → Reply) → ℕ → List Item
given_by w None e = []
given_by w (Some phase) e = (phase w).items e

abbrev pub given_at : System → ℕ → ℕ → ℕ → List Item
given_at system t k e = given_by (moment system t k)
    (slice_get (next_phases system.schedule (world_after system t)) k) e

-- what it is given in the phases of a tick that come before the one of this number
abbrev pub given_below : System → ℕ → ℕ → ℕ → List Item
given_below system t zero e = []
given_below system t (suc k) e = given_below system t k e ++ given_at system t k e

-- The moments of a tick come in their order.
pub record IsInOrder (system : System) (t : ℕ) : Type 0 where
  pub happened : at_deadlines system t ≡ once_happened system.schedule (world_after system t)
  pub served : at_turn system t ≡ served (at_deadlines system t)
  pub turned : at_step system t ≡ after_phase turn (at_turn system t)
  pub stepped : at_timer system t ≡ after_phase step (at_step system t)
  pub timed : is_idle_book (world_after system t).book ≡ false
      → world_after system (suc t) ≡ after_phase timer (at_timer system t)

abbrev pub MomentsAreInOrder : Type 0
MomentsAreInOrder = (system : System) (t : ℕ) → IsInOrder system t

-- all that an environment is given before a tick: its record in the image, and then what each tick brings
abbrev pub feed : System → ℕ → ℕ → List Item
feed system e zero = boot_items system.image e
feed system e (suc t) = feed system e t ++ items_in system t e

-- In a tick that is made it is given what the phases give, one after another.
abbrev pub PhasesGive : Type 0
PhasesGive = (system : System) (t e : ℕ) → is_idle_book (world_after system t).book ≡ false
    → items_in system t e ≡ given_below system t (phases_in system t) e

-- each environment is what it makes of its feed alone
abbrev pub IsFoldOfFeed : Type 0
IsFoldOfFeed = (system : System) (t e : ℕ) → (world_after system t).solos e ≡ absorb_all (absent e) (feed system e t)

-- A world that begins at time 0 is at its tick's time as long as it isn't idle.
abbrev pub TimeIsTick : Type 0
TimeIsTick = (schedule : Schedule) (w : World) (t : ℕ) → w.book.time ≡ 0
    → is_idle_book (world_after_ticks schedule w t).book ≡ false
    → (world_after_ticks schedule w t).book.time ≡ t

-- phases in turn are the phases one after another
abbrev pub InTurnIsEach : Type 0
InTurnIsEach = (w : World) (phases : List (World → Reply)) → after w (in_turn phases w) ≡ run_phases w phases

-- a run ends at its limit exactly where the time reached it
abbrev pub end_of_run : World → ℕ → RunEnd
end_of_run w limit = if w.book.time == limit then end.Limit else end.Idle
