-- The events that are to come.
use Rattle.std.specs.Prelude.{◌≡◌, ℕ, ◌≤◌, ◌+◌, ◌-◌, List, [], ◌∷◌, ◌==◌, drop, length, map, true}
use Rattle.std.specs.List.{take_while}
use Rattle.external_event.specs.declared.event.Occurrence.{Occurrence}
use Rattle.external_event.specs.EventValue.{EventValue}
use Rattle.external_event.specs.Order.{are_in_order}
use Rattle.world_model.specs.Event.{schedule_of}
use Rattle.board_model.specs.Stretch.{IsQuiet}

-- what happens by these events, in order
abbrev pub occurrences : List EventValue → List Occurrence
occurrences events = map (λ (x : EventValue). x.what) events

-- the first of these events that are of a time
abbrev pub first_at : ℕ → List EventValue → List EventValue
first_at time events = take_while (λ (x : EventValue). x.time == time) events

-- the time of the first of these, or a time after every tick, if there is none
abbrev pub next_time_of : List EventValue → ℕ
next_time_of [] = 4294967295
next_time_of (x ∷ xs) = x.time

-- These events are those of all that are to come from a time on, in order.
pub record AreComing (events : List EventValue) (time : ℕ) (coming : List EventValue) : Type 0 where
  pub order : are_in_order time coming ≡ true
  pub same : (t : ℕ) → time ≤ t → schedule_of events t ≡ schedule_of coming t

-- Of the events that are to come, those of a time are the first, and the others are to come after it; nothing happens
-- before the next of them.
pub record AgendasAreRight : Type 0 where
  pub now : (events coming : List EventValue) (t : ℕ) → AreComing events t coming
      → occurrences (first_at t coming) ≡ schedule_of events t
  pub later : (events coming : List EventValue) (t : ℕ) → AreComing events t coming
      → AreComing events (t + 1) (drop (length (first_at t coming)) coming)
  pub still : (events coming : List EventValue) (t k : ℕ) → AreComing events t coming → k ≤ next_time_of coming - t
      → AreComing events (t + k) coming
  pub quiet : (events coming : List EventValue) (t k : ℕ) → AreComing events t coming → k ≤ next_time_of coming - t
      → IsQuiet (schedule_of events) t (t + k)
