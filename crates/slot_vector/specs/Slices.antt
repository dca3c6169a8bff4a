-- The vector of slots as a list, its turns and its timer; what each slot and turn is stands in the model's book.
use Rattle.std.specs.Prelude.{ℕ, suc, ◌+◌, ◌-◌, ◌*◌, ◌<◌, ◌≤◌, Bool, true, false, ◌==◌, ◌&&◌, if◌then◌else◌, Option, Some, None, is_none, Result, Ok, Err, List, [], ◌∷◌, length, map, replicate, slice_get, slice_index_or, slice_set}
use Rattle.std.specs.Option.{option_flatten, option_map}
use Rattle.world_model.specs.declared.hold.Hold.{Hold}
use Rattle.world_model.specs.declared.slot.Runner.{Runner}
use Rattle.world_model.specs.declared.slot.Turn.{Turn}
use Rattle.world_model.specs.declared.slot.Phase.TheVariants as phase
use Rattle.world_model.specs.declared.code.Code.{Code}
use Rattle.world_model.specs.Book.{WholeTurn, first_turn, owed, own_hold, hold_without, has_part, is_runner, turn_from}
use Rattle.aegis_limits.specs.Limits.{environment_numbers, excess_limit}
use Rattle.world_model.specs.Timer.{timer_of}
use Rattle.world_model.specs.SlotCalls.{drop_refusal, gift_refusal, handed, held_by, take_refusal}
use Rattle.slot_vector.specs.declared.turn.NextTurn.{NextTurn}
use Rattle.slot_vector.specs.declared.turn.NextTurn.TheVariants as next
use Rattle.world_model.specs.declared.timer.Timer.{Timer}
use Rattle.world_model.specs.declared.timer.Timer.TheVariants as timer

-- the slots in their order, none where a slot is empty; a runner, if one runs, runs in the cursor's slot; and the
-- excess of each environment by its number
pub record Slices : Type 0 where
  pub slots : List (Option Hold)
  pub quantum : ℕ
  pub cursor : ℕ
  pub runner : Option Runner
  pub excess : List ℕ

-- the excess of an environment; behind the last there is none
abbrev pub excess_of : List ℕ → ℕ → ℕ
excess_of excess e = slice_index_or excess e 0

-- the hold of the slot of this number; past the last there is none
abbrev pub hold_at : List (Option Hold) → ℕ → Option Hold
hold_at slots k = option_flatten (slice_get slots k)

-- the vector before its first turn, which is the first held slot's: each owner holds its slot itself
abbrev pub first_slices : ℕ → List (Option ℕ) → Slices
first_slices quantum owners = record {
  slots = map (option_map own_hold) owners;
  quantum = quantum;
  cursor = length owners - 1;
  runner = None;
  excess = replicate environment_numbers 0;
}

-- the turn in the next held slot
abbrev pub next_held : Slices → Option Turn
next_held v = first_turn (hold_at v.slots) (length v.slots) v.cursor (length v.slots)

-- what comes next where nobody runs: nothing where no slot is held; a forfeit where the next holder owes; else its run
abbrev pub turn_of : (ℕ → ℕ) → Option Turn → NextTurn
turn_of excess None = next.Idle
turn_of excess (Some t) = if excess t.env == 0 then next.Run t else next.Pay t

abbrev pub next_turn : Slices → NextTurn
next_turn v = turn_of (excess_of v.excess) (next_held v)

-- the vector once that came
abbrev pub after_turn : Slices → NextTurn → Slices
after_turn v next.Idle = v
after_turn v (next.Pay t) = record v {
  cursor = t.slot;
  excess = slice_set v.excess t.env (excess_of v.excess t.env - 1);
}
after_turn v (next.Run t) = record v {
  cursor = t.slot;
  runner = Some (record { env = t.env; left = v.quantum; phase = phase.Own });
}

-- the whole turn, told to its end
abbrev pub whole_turn_of : Slices → WholeTurn
whole_turn_of v = turn_from (hold_at v.slots) (length v.slots)
    (suc (owed (excess_of v.excess) (hold_at v.slots) (length v.slots))) v.cursor (excess_of v.excess)

-- the vector once the turn ended
abbrev pub turn_ended : Slices → Slices
turn_ended v = record v { runner = None }

-- the slots once that of the turn is handed on, if it is: its holder is another, and its owner stays
abbrev pub slots_given : Bool → ℕ → Slices → List (Option Hold)
slots_given later target v =
    if later then slice_set v.slots v.cursor (option_map (held_by target) (hold_at v.slots v.cursor)) else v.slots

-- the vector once another goes on with the rest of the slice, and has the slot with its later slices or not
abbrev pub given_to : ℕ → Bool → Slices → Slices
given_to target later v = record v { slots = slots_given later target v; runner = handed target v.runner }

-- what the timer answers for a runner who has a handler of ends or not
abbrev pub timer_by : Option Runner → Bool → (ℕ → ℕ) → Timer
timer_by None has_end excess = timer.Nothing
timer_by (Some r) has_end excess = timer_of r has_end (excess r.env)

abbrev pub timer_answer : Slices → Bool → Timer
timer_answer v has_end = timer_by v.runner has_end (excess_of v.excess)

-- a runner with another quantum, which is one of grace
abbrev pub in_grace_again : Slices → Option Runner → Option Runner
in_grace_again v runner = option_map (λ (r : Runner). record r { left = v.quantum; phase = phase.Grace }) runner

-- the runner's excess, once it is so much
abbrev pub raised_for : Option Runner → ℕ → List ℕ → List ℕ
raised_for None excess all = all
raised_for (Some r) excess all = slice_set all r.env excess

-- the runner's excess, once it is one more
abbrev pub raised_once : Option Runner → List ℕ → List ℕ
raised_once None all = all
raised_once (Some r) all = slice_set all r.env (excess_of all r.env + 1)

abbrev pub one_tick_less : Runner → Runner
one_tick_less r = record r { left = r.left - 1 }

-- the ticks that a runner has left; nobody has none
abbrev pub left_of : Option Runner → ℕ
left_of None = 0
left_of (Some r) = r.left

-- the vector once so many ticks of the runner's quantum are over, which leave it some
abbrev pub after_ticks : ℕ → Slices → Slices
after_ticks ticks v = record v { runner = option_map (λ (r : Runner). record r { left = r.left - ticks }) v.runner }

-- a runner without ticks
abbrev pub spent : Runner → Runner
spent r = record r { left = 0 }

-- the vector once the timer brought that; a runner with too much excess has no ticks left, and is to die
abbrev pub after_timer : Slices → Timer → Slices
after_timer v timer.Nothing = record v { runner = option_map one_tick_less v.runner }
after_timer v timer.Stop = turn_ended v
after_timer v timer.End = record v { runner = in_grace_again v v.runner }
after_timer v (timer.Over excess) = record v {
  runner = in_grace_again v v.runner;
  excess = raised_for v.runner excess v.excess;
}
after_timer v timer.Kill = record v { runner = option_map spent v.runner; excess = raised_once v.runner v.excess }

-- a runner has ticks left
abbrev pub HasTicks : Option Runner → Type 0
HasTicks None = Unit {0}
HasTicks (Some r) = 1 ≤ r.left

-- a runner owes no more than the limit
abbrev pub OwesWithin : (ℕ → ℕ) → Option Runner → Type 0
OwesWithin excess None = Unit {0}
OwesWithin excess (Some r) = excess r.env ≤ excess_limit

-- the numbers of a slot's owner and holder are below environment_numbers
abbrev pub IsNumbered : Option Hold → Type 0
IsNumbered None = Unit {0}
IsNumbered (Some hold) = (hold.owner < environment_numbers) × (hold.holder < environment_numbers)

-- so is the runner's number
abbrev pub RunsByNumber : Option Runner → Type 0
RunsByNumber None = Unit {0}
RunsByNumber (Some r) = r.env < environment_numbers

-- a turn that came is in one of so many slots
abbrev pub IsWithin : ℕ → NextTurn → Type 0
IsWithin count next.Idle = Unit {0}
IsWithin count (next.Pay t) = t.slot < count
IsWithin count (next.Run t) = t.slot < count

-- nobody runs and no slot has a holder
abbrev pub is_idle : Slices → Bool
is_idle v = is_none v.runner && is_none (next_held v)

abbrev pub bit : Bool → ℕ
bit false = 0
bit true = 1

-- a bit for each slot that changes once an environment is gone, the lowest for the first
abbrev pub mask_of : ℕ → List (Option Hold) → ℕ
mask_of e [] = 0
mask_of e (slot ∷ slots) = bit (has_part e slot) + 2 * mask_of e slots

-- the vector once an environment is gone: its turn ends, if it runs, and it owes nothing
abbrev pub without_env : ℕ → Slices → Slices
without_env e v = record v {
  slots = map (hold_without e) v.slots;
  runner = if is_runner e v.runner then None else v.runner;
  excess = slice_set v.excess e 0;
}

-- the vector once a slot has this hold
abbrev pub with_hold : Slices → ℕ → Option Hold → Slices
with_hold v k hold = record v { slots = slice_set v.slots k hold }

-- the answer of a call that is refused for this cause, if there is one
abbrev pub unless : Option Code → Result (Unit {0}) Code
unless None = Ok tt
unless (Some why) = Err why

-- why an environment can't take a slot, or drop it
abbrev pub refusal_of_take : Slices → ℕ → Option Code
refusal_of_take v k = take_refusal (slice_get v.slots k)

abbrev pub refusal_of_drop : ℕ → Slices → ℕ → Option Code
refusal_of_drop e v k = drop_refusal e (slice_get v.slots k)

-- why the runner can't give its slice away, or its slot with the later slices
abbrev pub refusal_of_donation : Bool → Slices → Option Code
refusal_of_donation later v = gift_refusal later v.runner (hold_at v.slots v.cursor)
