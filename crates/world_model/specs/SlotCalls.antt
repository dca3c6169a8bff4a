-- The calls on slices and slots.
use Rattle.std.specs.Prelude.{ℕ, ◌/◌, ◌%◌, ◌^◌, [], ◌∷◌, Bool, true, false, not, ◌==◌, ◌&&◌, ◌||◌, nat_lt, if◌then◌else◌, Option, Some, None, unwrap_or}
use Rattle.std.specs.Option.{option_map, option_or}
use Rattle.kernel_journal.specs.declared.row.Row.{Row}
use Rattle.kernel_journal.specs.declared.row.Row.TheVariants as row
use Rattle.mips_exec.specs.Cpu.{reg}
use Rattle.world_model.specs.declared.code.Code.{Code}
use Rattle.world_model.specs.declared.code.Code.TheVariants as code
use Rattle.world_model.specs.declared.hold.Hold.{Hold}
use Rattle.world_model.specs.declared.slot.Phase.{Phase}
use Rattle.world_model.specs.declared.slot.Phase.TheVariants as phase
use Rattle.world_model.specs.declared.slot.Runner.{Runner}
use Rattle.world_model.specs.Table.{set_at}
use Rattle.world_model.specs.Book.{Book, own_hold}
use Rattle.world_model.specs.Solo.{is_dead}
use Rattle.world_model.specs.Item.{Start}
use Rattle.world_model.specs.World.{World, Reply, only, no_items}
use Rattle.world_model.specs.declared.verdict.Verdict.{Verdict}
use Rattle.world_model.specs.declared.verdict.Verdict.TheVariants.{Grant}
use Rattle.world_model.specs.Answer.{granted_unless}

-- the row of a runner that is stopped
abbrev pub stop_row : Book → ℕ → Row
stop_row b e = row.Stop b.time b.cursor e

-- the row of a slot that has changed
abbrev pub slot_row : ℕ → ℕ → Option Hold → Row
slot_row t k None = row.Own t k None None
slot_row t k (Some hold) = row.Own t k (Some hold.owner) (Some hold.holder)

-- Yield without a target: the caller is stopped, and the rest of its slice is dropped.
abbrev pub stops : World → ℕ → Reply
stops w e = record { book = record w.book { runner = None }; items = no_items; rows = stop_row w.book e ∷ [] }

abbrev pub in_grace : Phase → Bool
in_grace phase.Own = false
in_grace phase.Grace = true

abbrev pub holds : ℕ → Option Hold → Bool
holds e None = false
holds e (Some hold) = hold.holder == e

-- who runs in a slot may hand it on with its later slices if it holds it, and the rest of this slice in any case
abbrev pub may_hand_on : Bool → ℕ → Option Hold → Bool
may_hand_on later e slot = not later || holds e slot

-- why a runner can't hand on the slice that it runs, or its slot with the later slices: it runs behind the end of its
-- slice; or the slot isn't its own to hand on
abbrev pub gift_refusal : Bool → Option Runner → Option Hold → Option Code
gift_refusal later None slot = None
gift_refusal later (Some r) slot =
    if in_grace r.phase then Some code.NoSlice else (if may_hand_on later r.env slot then None else Some code.NotHolder)

-- a slot with another holder
abbrev pub held_by : ℕ → Hold → Hold
held_by e hold = record hold { holder = e }

-- the slot of the turn
abbrev pub turn_slot : Book → Option Hold
turn_slot b = b.slots b.cursor

-- whether a mask has the bit of an environment
abbrev pub accepts : ℕ → ℕ → Bool
accepts mask e = mask / 2 ^ e % 2 == 1

-- an environment that is neither absent nor dead nor the caller itself
abbrev pub is_other : World → ℕ → ℕ → Bool
is_other w e target = nat_lt target w.count && (not (is_dead (w.solos target).life) && not (target == e))

-- why a runner can't hand on anything to a target: there is no such other environment; it can't hand it on to
-- anybody; or it isn't accepted
abbrev pub refusal_of_giving : Bool → Option Code → Bool → Option Code
refusal_of_giving other gift accepted =
    if other then option_or gift (if accepted then None else Some code.NotAccepted) else Some code.NoEnv

-- Yield to a target: the rest of the slice is the target's, which is started.
abbrev pub handed : ℕ → Option Runner → Option Runner
handed target runner = option_map (λ (r : Runner). record r { env = target }) runner

abbrev pub gives : World → ℕ → ℕ → Reply
gives w e target = record {
  book = record w.book { runner = handed target w.book.runner };
  items = only target (Start ∷ []);
  rows = row.Give w.book.time w.book.cursor e target ∷ [];
}

abbrev pub refusal_of_gift : World → ℕ → ℕ → Option Code
refusal_of_gift w e target = refusal_of_giving (is_other w e target)
    (gift_refusal false w.book.runner (turn_slot w.book)) (accepts (w.solos target).mask e)

-- to whoever is next: its caller alone decides it
abbrev pub yield_alone : Bool → Option Verdict
yield_alone true = Some (Grant 0)
yield_alone false = None

-- to an environment
abbrev pub yield_to : World → ℕ → ℕ → Verdict
yield_to w e target = granted_unless (refusal_of_gift w e target) 0

abbrev pub yield_by : World → ℕ → ℕ → Bool → Verdict
yield_by w e target is_any = unwrap_or (yield_alone is_any) (yield_to w e target)

-- Take: an empty slot is the caller's own.
abbrev pub with_slot : World → ℕ → Option Hold → Reply
with_slot w k hold = record {
  book = record w.book { slots = set_at k hold w.book.slots };
  items = no_items;
  rows = slot_row w.book.time k hold ∷ [];
}

-- the slot of this number, if there is one
abbrev pub slot_at : Book → ℕ → Option (Option Hold)
slot_at b k = if nat_lt k b.slot_count then Some (b.slots k) else None

abbrev pub take_refusal : Option (Option Hold) → Option Code
take_refusal None = Some code.NoSlice
take_refusal (Some None) = None
take_refusal (Some (Some hold)) = Some code.SlotTaken

abbrev pub slot_take : World → ℕ → Verdict
slot_take w e = granted_unless (take_refusal (slot_at w.book (reg (w.solos e).cpu 4))) 0

abbrev pub takes_slot : World → ℕ → ℕ → Reply
takes_slot w e k = with_slot w k (Some (own_hold e))

-- Drop: a slot of the caller's own is empty, and one that it holds for another is that one's again.
abbrev pub dropped : ℕ → Option Hold → Option Hold
dropped e None = None
dropped e (Some hold) = if hold.owner == e then None else Some (own_hold hold.owner)

abbrev pub drop_refusal : ℕ → Option (Option Hold) → Option Code
drop_refusal e None = Some code.NoSlice
drop_refusal e (Some None) = Some code.NotHolder
drop_refusal e (Some (Some hold)) = if hold.holder == e then None else Some code.NotHolder

abbrev pub slot_drop : World → ℕ → Verdict
slot_drop w e = granted_unless (drop_refusal e (slot_at w.book (reg (w.solos e).cpu 4))) 0

abbrev pub drops_slot : World → ℕ → ℕ → Reply
drops_slot w e k = with_slot w k (dropped e (w.book.slots k))
