-- A schedule without a fault is in order and not too long.
use Rattle.std.proofs.Common.{◌≡◌, ℕ, suc, ◌+◌, ◌<◌, ◌≤◌, true, List, [], ◌∷◌, length, Option, None, Some, Result, Ok, Err, refl, arith, inl, inr}
use Rattle.std.proofs.lemmas.Bool.{and_from, cases_lt, le-leb, le-ltb, lt-ltb}
use Rattle.std.specs.Option.{option_map, option_or}
use Rattle.line_text.specs.Lines.{LineValue, lines_of}
use Rattle.line_text.specs.Statements.{statements_of}
use Rattle.external_event.specs.EventValue.{EventValue}
use Rattle.external_event.specs.Order.{are_in_order}
use Rattle.boot_schedule.specs.declared.fault.ScheduleWhy.{ScheduleWhy}
use Rattle.boot_schedule.specs.Saying.{said}
use Rattle.boot_schedule.specs.Schedule.{events_said, fault_of, lines_fault, most_events, schedule_fault, events_of}

-- a line without a fault is an event, not before the last, and one that there is room for
pub record IsNext (before others : ℕ) (result : Result EventValue ScheduleWhy) : Type 0 where
  pub event : EventValue
  pub is : result ≡ Ok event
  pub later : before ≤ event.time
  pub room : others < most_events

is_next : (before others : ℕ) (result : Result EventValue ScheduleWhy) → fault_of before others result ≡ None → IsNext before others result
is_next before others (Err why) none = absurd (cc none)
is_next before others (Ok event) none =
    elim (cases_lt event.time before) [
      | inl earlier ↦ absurd (cc (rw (lt-ltb event.time before earlier) at none))
      | inr later ↦ elim (cases_lt others most_events) [
        | inl room ↦ record { event = event; is = refl; later = later; room = room }
        | inr full ↦ absurd (cc (rw (le-ltb event.time before later, le-leb most_events others full) at none))
      ]
    ]

no_first : {X : Type 0} (a b : Option X) → option_or a b ≡ None → (a ≡ None) × (b ≡ None)
no_first None b none = (refl, none)
no_first (Some x) b none = absurd (cc none)

no_fault : {X Y : Type 0} (f : X → Y) (o : Option X) → option_map f o ≡ None → o ≡ None
no_fault f None none = refl
no_fault f (Some x) none = absurd (cc none)

in_order : (before others : ℕ) (lines : List LineValue) → lines_fault before others lines ≡ None → others ≤ most_events
    → (are_in_order before (events_said lines) ≡ true) × (others + length (events_said lines) ≤ most_events)
in_order before others [] none few = (refl, omega arith)
in_order before others (line ∷ lines) none few =
    let both = no_first _ _ none in
    let next = is_next before others (said line.text) (no_fault _ _ both.0) in
    let rest = in_order next.event.time (suc others) lines (rw next.is at both.1) next.room in
    rw next.is (and_from _ _ (le-leb before next.event.time next.later) rest.0, omega (arith, rest.1))

pub schedule_in_order : (text : List ℕ) → schedule_fault text ≡ None → (are_in_order 0 (events_of text) ≡ true) × (length (events_of text) ≤ most_events)
unfolding schedule_fault events_of
schedule_in_order text none =
    let are = in_order 0 0 (statements_of (lines_of text)) none (omega arith) in
    (are.0, omega (arith, are.1))
