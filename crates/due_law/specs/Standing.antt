-- Where an environment that accepts nobody stands between two items, and what is due to it there.
use Rattle.std.specs.Prelude.{◌≡◌, ℕ, ◌-◌, List, [], ◌∷◌, Bool, true, false, not, ◌==◌, ◌||◌, if◌then◌else◌}
use Rattle.world_model.specs.declared.call.Deed.{Deed}
use Rattle.world_model.specs.declared.call.Deed.TheVariants.{Stops, Gives, Transfers}
use Rattle.world_model.specs.declared.slot.Phase.{Phase}
use Rattle.world_model.specs.declared.slot.Phase.TheVariants as phase
use Rattle.world_model.specs.declared.slot.Runner.{Runner}
use Rattle.world_model.specs.declared.timer.Timer.{Timer}
use Rattle.world_model.specs.declared.timer.Timer.TheVariants as timer
use Rattle.world_model.specs.declared.verdict.Verdict.{Verdict}
use Rattle.world_model.specs.declared.verdict.Verdict.TheVariants.{Grant}
use Rattle.world_model.specs.Item.{Item, Step, Start, End, Killed, Answer, absorb, deed_at}
use Rattle.world_model.specs.Solo.{Solo}
use Rattle.world_model.specs.Step.{Act, Calls, Dies, act_of, step_alone}
use Rattle.world_model.specs.Timer.{timer_of}

-- It doesn't run; it is to make a step, or is to be answered, with so many ticks left of its quantum, in a phase, and
-- owes so many quanta; its slice is over, and it is to be told; or it owes too much, and is to die.
pub data Standing : Type 0 where
  Waits : Standing
  Runs : (left : ℕ) (p : Phase) (excess : ℕ) → Standing
  Asks : (left : ℕ) (p : Phase) (excess : ℕ) → Standing
  Ends : (excess : ℕ) → Standing
  Dooms : Standing

-- what the timer's answer comes to
abbrev pub standing_by : ℕ → ℕ → Phase → ℕ → Timer → Standing
standing_by quantum left p excess timer.Nothing = Runs (left - 1) p excess
standing_by quantum left p excess timer.End = Ends excess
standing_by quantum left p excess timer.Stop = Waits
standing_by quantum left p excess (timer.Over more) = Runs quantum phase.Grace more
standing_by quantum left p excess timer.Kill = Dooms

-- at the end of a tick the timer counts
abbrev pub standing_counted : ℕ → ℕ → Phase → ℕ → Solo → Standing
standing_counted quantum left p excess s =
    let runner : Runner = record { env = s.number; left = left; phase = p } in
    standing_by quantum left p excess (timer_of runner (not (s.handlers.end == 0)) excess)

-- A call is to be answered, a death is the end, and after any other act the tick is over.
abbrev pub standing_after_act : ℕ → ℕ → Phase → ℕ → Act → Solo → Standing
standing_after_act quantum left p excess (Calls call) s = Asks left p excess
standing_after_act quantum left p excess (Dies cause) s = Waits
standing_after_act quantum left p excess act s = standing_counted quantum left p excess s

abbrev pub after_step : ℕ → Standing → Act → Solo → Standing
after_step quantum (Runs left p excess) act s = standing_after_act quantum left p excess act s
after_step quantum standing act s = standing

-- the deeds that end its caller's slice: yields and transfers
abbrev pub ends_slice : Deed → Bool
ends_slice Stops = true
ends_slice (Gives target) = true
ends_slice (Transfers target kind) = true
ends_slice deed = false

abbrev pub ends_by : Solo → Verdict → Bool
ends_by s (Grant value) = ends_slice (deed_at s value)
ends_by s verdict = false

abbrev pub after_answer : ℕ → Standing → Bool → Solo → Standing
after_answer quantum (Asks left p excess) ends s = if ends then Waits else standing_counted quantum left p excess s
after_answer quantum standing ends s = standing

abbrev pub after_end : ℕ → Standing → Standing
after_end quantum (Ends excess) = Runs quantum phase.Grace excess
after_end quantum standing = standing

-- where it stands after an item. An item that isn't its own leaves it where it stood.
abbrev pub stands_after : ℕ → Standing → Solo → Item → Standing
stands_after quantum standing s Start = Runs quantum phase.Own 0
stands_after quantum standing s Step = after_step quantum standing (act_of s (step_alone s)) (absorb s Step)
stands_after quantum standing s End = after_end quantum standing
stands_after quantum standing s Killed = Waits
stands_after quantum standing s (Answer verdict) =
    after_answer quantum standing (ends_by s verdict) (absorb s (Answer verdict))
stands_after quantum standing s item = standing

-- what is awaited where it stands
abbrev pub is_awaited : Standing → Item → Bool
is_awaited Waits Start = true
is_awaited (Runs left p excess) Step = true
is_awaited (Asks left p excess) (Answer verdict) = true
is_awaited (Ends excess) End = true
is_awaited Dooms Killed = true
is_awaited standing item = false

-- what is neither a step, the start or the end of a slice, its death of excess, nor an answer: packets, signals,
-- revocations and takings, bytes that others leave, and pages that are gained and lost
abbrev pub is_further : Item → Bool
is_further Step = false
is_further Start = false
is_further End = false
is_further Killed = false
is_further (Answer verdict) = false
is_further item = true

-- each of these items is further, or awaited where it comes
abbrev pub AreDue : ℕ → Standing → Solo → List Item → Type 0
AreDue quantum standing s [] = Unit {0}
AreDue quantum standing s (item ∷ items) =
    (is_further item || is_awaited standing item ≡ true)
    × AreDue quantum (stands_after quantum standing s item) (absorb s item) items
