-- What a line with its end says, and what that is of the lines that begin with it.
use Rattle.std.proofs.Common.{◌≡◌, ℕ, suc, ◌+◌, true, false, List, [], ◌∷◌, ◌++◌, Option, Some, None, Result, Ok, Err, length, refl, sym, ap, ◌∙◌, arith, inl, inr}
use Rattle.std.specs.Prelude.{◌==◌}
use Rattle.std.specs.List.{list_all}
use Rattle.std.specs.Option.{option_map}
use Rattle.std.proofs.lemmas.Bool.{cases_Bool, ne_eqb}
use Rattle.std.proofs.lemmas.List.{append_assoc}
use Rattle.line_text.specs.Characters.{is_text_byte}
use Rattle.line_text.specs.declared.failure.Failure.{Failure}
use Rattle.line_text.specs.declared.failure.Failure.TheVariants.{Fault, OutOfMemory}
use Rattle.line_text.specs.declared.failure.LineFault.{LineFault}
use Rattle.line_text.specs.Failing.{IsFound, fault_at}
use Rattle.line_text.specs.Lines.{LineValue, lines_from, pieces_of, without_end}
use Rattle.line_text.specs.Outcome.{ok_seen}
use Rattle.line_text.specs.Statements.{is_empty_line, statements_of}
use Rattle.line_text.specs.Words.{words_of}
use Rattle.external_event.specs.EventValue.{EventValue}
use Rattle.boot_schedule.specs.declared.fault.ScheduleWhy.{ScheduleWhy}
use Rattle.boot_schedule.specs.Pieces.{piece_fault, piece_said}
use Rattle.boot_schedule.specs.Saying.{said}
use Rattle.boot_schedule.specs.Schedule.{events_said, lines_fault, place_fault}

-- a line without words says nothing
no_words : (line : List ℕ) (event : EventValue) (words : List (List ℕ)) → words_of line ≡ words → list_all is_text_byte line ≡ true → said line ≡ Ok event → (length words == 0) ≡ false
no_words line event [] is text says = absurd (cc (rw (text, is) at says))
no_words line event (word ∷ words) is text says = ne_eqb (suc (length words)) 0 (λ same. absurd (omega (arith, same)))

-- a line that says an event isn't empty
not_empty : (line : List ℕ) (event : EventValue) → said line ≡ Ok event → is_empty_line line ≡ false
not_empty line event says =
    elim (cases_Bool (list_all is_text_byte line)) [
      | inl text ↦ rw text (no_words line event (words_of line) refl text says)
      | inr other ↦ rw other refl
    ]

pub piece_says : (piece line : List ℕ) (event : EventValue) → line ≡ without_end piece → said line ≡ Ok event → piece_said piece ≡ Ok (Some event)
piece_says piece line event bare says =
    let empty = not_empty line event says in
    rw (← bare, empty, says) refl

-- the event of an answer, or this one
abbrev event_or : EventValue → Result (Option EventValue) ScheduleWhy → EventValue
event_or event (Ok (Some found)) = found
event_or event (Ok None) = event
event_or event (Err why) = event

abbrev why_or : ScheduleWhy → Result (Option EventValue) ScheduleWhy → ScheduleWhy
why_or why (Ok found) = why
why_or why (Err found) = found

some_event : (answer : Result EventValue ScheduleWhy) (event : EventValue) → ok_seen Some answer ≡ Ok (Some event) → answer ≡ Ok event
some_event (Ok found) event is = ap (λ r. Ok (event_or found r)) is
some_event (Err why) event is = cc is

some_fault : (answer : Result EventValue ScheduleWhy) (why : ScheduleWhy) → ok_seen Some answer ≡ Err why → answer ≡ Err why
some_fault (Ok found) why is = cc is
some_fault (Err found) why is = ap (λ r. Err (why_or found r)) is

no_event : (answer : Result EventValue ScheduleWhy) → ok_seen Some answer ≡ Ok None → false ≡ true
no_event (Ok found) is = cc is
no_event (Err why) is = cc is

-- what a line with its end says, by whether it is empty
pub record IsSome (piece : List ℕ) (answer : Result EventValue ScheduleWhy) : Type 0 where
  pub some : is_empty_line (without_end piece) ≡ false
  pub says : said (without_end piece) ≡ answer

pub event_of : (piece : List ℕ) (event : EventValue) → piece_said piece ≡ Ok (Some event) → IsSome piece (Ok event)
event_of piece event is =
    elim (cases_Bool (is_empty_line (without_end piece))) [
      | inl empty ↦ absurd (cc (rw empty at is))
      | inr some ↦ record { some = some; says = some_event (said (without_end piece)) event (rw some at is) }
    ]

pub fault_of : (piece : List ℕ) (why : ScheduleWhy) → piece_said piece ≡ Err why → IsSome piece (Err why)
fault_of piece why is =
    elim (cases_Bool (is_empty_line (without_end piece))) [
      | inl empty ↦ absurd (cc (rw empty at is))
      | inr some ↦ record { some = some; says = some_fault (said (without_end piece)) why (rw some at is) }
    ]

pub empty_of : (piece : List ℕ) → piece_said piece ≡ Ok None → is_empty_line (without_end piece) ≡ true
empty_of piece is =
    elim (cases_Bool (is_empty_line (without_end piece))) [
      | inl empty ↦ empty
      | inr some ↦ absurd (cc (no_event (said (without_end piece)) (rw some at is)))
    ]

-- the statements of a text, whose first line has this number and this place
abbrev pub left : ℕ → ℕ → List ℕ → List LineValue
left number start rest = statements_of (lines_from number start (pieces_of rest))

-- an empty line is no statement
pub left_empty : (number start : ℕ) (rest piece after : List ℕ) → pieces_of rest ≡ piece ∷ pieces_of after → piece_said piece ≡ Ok None
    → left number start rest ≡ left (number + 1) (start + length piece) after
left_empty number start rest piece after cut is = rw (cut, empty_of piece is) refl

-- one that says an event in its place has no fault, and the others follow
pub record IsTold (before others number start : ℕ) (rest piece after : List ℕ) (event : EventValue) : Type 0 where
  pub fault : lines_fault before others (left number start rest) ≡ lines_fault event.time (suc others) (left (number + 1) (start + length piece) after)
  pub told : events_said (left number start rest) ≡ event ∷ events_said (left (number + 1) (start + length piece) after)

pub told_some : (before others number start : ℕ) (rest piece after : List ℕ) (event : EventValue) → pieces_of rest ≡ piece ∷ pieces_of after → piece_said piece ≡ Ok (Some event)
    → place_fault before others event ≡ None → IsTold before others number start rest piece after event
told_some before others number start rest piece after event cut is placed =
    let facts = event_of piece event is in
    record { fault = rw (cut, facts.some, facts.says, placed) refl; told = rw (cut, facts.some, facts.says) refl }

-- the first fault is that of the first line that has one
pub found : (before others number start : ℕ) (rest piece after : List ℕ) (why : ScheduleWhy) (answer : Result (Option EventValue) ScheduleWhy) → pieces_of rest ≡ piece ∷ pieces_of after → piece_said piece ≡ answer
    → piece_fault before others answer ≡ Some why → lines_fault before others (left number start rest) ≡ Some (fault_at number why)
found before others number start rest piece after why (Err other) cut is fault =
    let facts = fault_of piece other is in
    rw (cut, facts.some, facts.says) (ap (option_map (fault_at number)) fault)
found before others number start rest piece after why (Ok None) cut is fault = cc fault
found before others number start rest piece after why (Ok (Some event)) cut is fault =
    let facts = event_of piece event is in
    rw (cut, facts.some, facts.says, fault) refl

-- the same of the program's answer
pub found_by : (before others number start : ℕ) (rest piece after : List ℕ) (failure : Failure (LineFault ScheduleWhy)) (fault : Option ScheduleWhy) → pieces_of rest ≡ piece ∷ pieces_of after
    → piece_fault before others (piece_said piece) ≡ fault → IsFound (option_map (fault_at number) fault) failure → IsFound (lines_fault before others (left number start rest)) failure
found_by before others number start rest piece after OutOfMemory fault cut is because = tt
found_by before others number start rest piece after (Fault at) None cut is because = cc because
found_by before others number start rest piece after (Fault at) (Some why) cut is because =
    found before others number start rest piece after why (piece_said piece) cut refl is ∙ because

-- so where the lines that are left have the fault and the events that are due, those behind the first have them too
pub left_told : {before others number start : ℕ} {rest piece after : List ℕ} {event : EventValue} (next time : ℕ) (items pushed all : List EventValue) (due : Option (LineFault ScheduleWhy))
    → IsTold before others number start rest piece after event → start + length piece ≡ next → time ≡ event.time → pushed ≡ items ++ event ∷ [] → length pushed ≡ suc others
    → lines_fault before others (left number start rest) ≡ due → items ++ events_said (left number start rest) ≡ all
    → (lines_fault time (length pushed) (left (number + 1) next after) ≡ due) × (pushed ++ events_said (left (number + 1) next after) ≡ all)
left_told {event = event} next time items pushed all due told place same is count fault events =
    (rw (count, same, ← place) (sym told.fault ∙ fault), rw (is, ← place, append_assoc, ← told.told) events)
