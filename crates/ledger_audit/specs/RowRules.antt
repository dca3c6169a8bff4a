-- Which rows may stand behind others, by the rule of slices and excess.
use Rattle.std.specs.Prelude.{ℕ, zero, suc, ◌+◌, List, [], ◌∷◌, ◌++◌, Bool, true, false, not, ◌==◌, ◌&&◌, ◌||◌, nat_lt, nat_le, if◌then◌else◌, Option, None, Some, is_none}
use Rattle.aegis_limits.specs.Limits.{most_slots, excess_limit}
use Rattle.kernel_journal.specs.declared.row.Row.{Row}
use Rattle.kernel_journal.specs.declared.row.Row.TheVariants as row
use Rattle.world_model.specs.declared.hold.Hold.{Hold}
use Rattle.world_model.specs.Book.{own_hold}
use Rattle.world_model.specs.SlotCalls.{dropped, holds, in_grace, slot_row}
use Rattle.kernel_journal.specs.RowTable.{time_of}
use Rattle.ledger_audit.specs.LedgerState.{LedgerState, after_row, due_after, excess_in, limit_in}

abbrev pub same_number : Option ℕ → Option ℕ → Bool
same_number None None = true
same_number None (Some b) = false
same_number (Some a) None = false
same_number (Some a) (Some b) = a == b

abbrev pub is_number : ℕ → Option ℕ → Bool
is_number e None = false
is_number e (Some who) = who == e

-- a row of a slot, and the same one
abbrev pub is_row : Row → Row → Bool
is_row (row.Own t slot owner holder) (row.Own u k a b) =
    (t == u) && ((slot == k) && (same_number owner a && same_number holder b))
is_row _ _ = false

-- it is the first of these rows
abbrev pub is_first : List Row → Row → Bool
is_first [] r = false
is_first (x ∷ xs) r = is_row x r

-- rows stand first, in their order
abbrev pub stand_first : List Row → List Row → Bool
stand_first [] rows = true
stand_first (x ∷ xs) [] = false
stand_first (x ∷ xs) (r ∷ rows) = is_row x r && stand_first xs rows

abbrev pub is_own_row : Row → Bool
is_own_row (row.Own t slot owner holder) = true
is_own_row _ = false

-- Times. A row of a slot at boot has time 0. All others don't fall, are before the end, and while somebody runs none is
-- behind the last tick of its quantum.
abbrev pub is_by_limit : ℕ → LedgerState → ℕ → Option ℕ → Bool
is_by_limit quantum s time None = true
is_by_limit quantum s time (Some e) = nat_le time (limit_in quantum s)

abbrev pub is_in_time : ℕ → ℕ → LedgerState → Row → Bool
is_in_time quantum end s r =
    if is_own_row r && s.at_boot then time_of r == 0
    else nat_le s.time (time_of r) && (nat_lt (time_of r) end && is_by_limit quantum s (time_of r) s.runner)

-- whether a slot stands between the cursor and another slot, where slot 0 follows the last one, and the cursor's own
-- stands last
abbrev pub is_between : ℕ → ℕ → ℕ → Bool
is_between cursor slot k =
    if nat_lt cursor slot then nat_lt cursor k && nat_lt k slot else nat_lt cursor k || nat_lt k slot

abbrev pub all_below : ℕ → (ℕ → Bool) → Bool
all_below zero p = true
all_below (suc n) p = all_below n p && p n

abbrev pub is_passed : LedgerState → ℕ → ℕ → Bool
is_passed s slot k = not (is_between s.cursor slot k) || is_none (s.slots k)

unfoldable pub are_passed : LedgerState → ℕ → Bool
are_passed s slot = all_below most_slots (is_passed s slot)

-- A turn: nobody runs, it is taken in its tick, its slot is the first after the cursor that has a holder, and this is
-- the holder, who lives.
abbrev pub is_next : LedgerState → ℕ → ℕ → ℕ → Bool
is_next s time slot e =
    is_none s.runner && ((time == s.turn) && (not (s.dead e) && (holds e (s.slots slot) && are_passed s slot)))

-- the runner, in the turn's slot
abbrev pub is_runners : LedgerState → ℕ → ℕ → Bool
is_runners s slot e = is_number e s.runner && (slot == s.cursor)

-- a slice that is handed on: by its runner, to another, who lives, in the turn's slot, within the slice
abbrev pub is_gift : LedgerState → ℕ → ℕ → ℕ → Bool
is_gift s slot from to = is_runners s slot from && (not (from == to) && (not (s.dead to) && not (in_grace s.phase)))

-- whether the next row is the death of an environment at a time
abbrev pub dies_next : ℕ → ℕ → List Row → Bool
dies_next time e (row.Dead t slot who ∷ rows) = (t == time) && (who == e)
dies_next time e _ = false

-- an excess above the limit, and no other, is followed by death
abbrev pub is_judged : ℕ → ℕ → ℕ → List Row → Bool
is_judged time e excess later =
    if excess == excess_limit + 1 then dies_next time e later else not (dies_next time e later)

-- whether a slot rises
abbrev pub is_behind : Option ℕ → ℕ → Bool
is_behind None slot = true
is_behind (Some k) slot = nat_lt k slot

-- A slot that the runner takes, where it is empty, or drops, where the runner holds it: what the row of it has then.
abbrev pub changed_row : ℕ → ℕ → ℕ → Option Hold → Row
changed_row t e slot None = slot_row t slot (Some (own_hold e))
changed_row t e slot (Some hold) = slot_row t slot (dropped e (Some hold))

abbrev pub may_change : ℕ → Option Hold → Bool
may_change e None = true
may_change e (Some hold) = hold.holder == e

abbrev pub is_change : LedgerState → Option ℕ → ℕ → ℕ → Row → Bool
is_change s None t slot r = false
is_change s (Some e) t slot r = may_change e (s.slots slot) && is_row (changed_row t e slot (s.slots slot)) r

-- A row between those before it, of which the state tells, and those behind it, by its kind. At boot an own row has a
-- slot that rises, with its owner as its holder; later it is a row that is due, or a change that the runner makes.
abbrev pub is_fit_by_kind : ℕ → LedgerState → Row → List Row → Bool
is_fit_by_kind quantum s (row.Own t slot owner holder) later =
    if s.at_boot then is_behind s.last_slot slot && same_number owner holder
    else is_first s.due (row.Own t slot owner holder) || is_change s s.runner t slot (row.Own t slot owner holder)
is_fit_by_kind quantum s (row.Run t slot e) later = is_next s t slot e && (excess_in s e == 0)
is_fit_by_kind quantum s (row.Pay t slot e) later = is_next s t slot e && nat_lt 0 (excess_in s e)
is_fit_by_kind quantum s (row.Give t slot from to) later = is_gift s slot from to
is_fit_by_kind quantum s (row.Async t slot from to) later = is_gift s slot from to
is_fit_by_kind quantum s (row.Sync t slot from to) later =
    is_gift s slot from to && (holds from (s.slots slot) && stand_first (due_after (row.Sync t slot from to) s) later)
is_fit_by_kind quantum s (row.End t slot e) later =
    is_runners s slot e && (not (in_grace s.phase) && (t == limit_in quantum s))
is_fit_by_kind quantum s (row.Over t slot e excess) later =
    is_runners s slot e && (in_grace s.phase && ((t == limit_in quantum s)
    && ((excess == excess_in s e + 1) && is_judged t e excess later)))
is_fit_by_kind quantum s (row.Stop t slot e) later = is_runners s slot e
is_fit_by_kind quantum s (row.Dead t slot e) later =
    is_runners s slot e && stand_first (due_after (row.Dead t slot e) s) later
is_fit_by_kind quantum s (row.Asked t e outstanding deadline) later = true
is_fit_by_kind quantum s (row.Take t e page backup) later = true
is_fit_by_kind quantum s (row.Unclaimed t size) later = true

abbrev pub is_fit : ℕ → ℕ → LedgerState → Row → List Row → Bool
is_fit quantum end s r later = is_in_time quantum end s r && is_fit_by_kind quantum s r later

-- whether rows all fit behind those of which a state tells, and before later ones
abbrev pub are_fit : ℕ → ℕ → LedgerState → List Row → List Row → Bool
are_fit quantum end s [] later = true
are_fit quantum end s (r ∷ rows) later =
    is_fit quantum end s r (rows ++ later) && are_fit quantum end (after_row r s) rows later

-- The end of a ledger: with a runner, by the last tick of its quantum; without, in the tick of the next turn; and a
-- board is idle where nobody runs and no slot has a holder.
abbrev pub is_empty_slot : LedgerState → ℕ → Bool
is_empty_slot s k = is_none (s.slots k)

unfoldable pub are_empty : LedgerState → Bool
are_empty s = all_below most_slots (is_empty_slot s)

abbrev pub is_end_by : ℕ → Bool → ℕ → LedgerState → Option ℕ → Bool
is_end_by quantum idle time s (Some e) = not idle && nat_le time (limit_in quantum s)
is_end_by quantum idle time s None = (time == s.turn) && (if idle then are_empty s else true)

abbrev pub is_end : ℕ → Bool → ℕ → LedgerState → Bool
is_end quantum idle time s = is_end_by quantum idle time s s.runner
