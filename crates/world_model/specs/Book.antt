-- The kernel's one book: the vector of slots, whose the pages are, and where they are mapped.
use Rattle.std.specs.Prelude.{ℕ, zero, suc, ◌+◌, ◌-◌, ◌%◌, List, [], ◌∷◌, Bool, false, not, filter, ◌==◌, ◌&&◌, ◌||◌, nat_lt, if◌then◌else◌, Option, Some, None, is_none}
use Rattle.std.specs.Option.{option_map}
use Rattle.env_frames.specs.declared.mapping.Mapping.{Mapping}
use Rattle.aegis_limits.specs.declared.version.Version.{Version}
use Rattle.page_book.specs.declared.row.PageRow.{PageRow}
use Rattle.page_book.specs.Row.{is_owned_by}
use Rattle.bind_book.specs.declared.binding.Binding.{Binding}
use Rattle.bind_book.specs.Stripe.{leads_to_page, is_bound, without}
use Rattle.filter_tree.specs.ClaimBook.{ClaimValue}
use Rattle.revocation_book.specs.declared.revocation.Pending.{Pending}
use Rattle.world_model.specs.Table.{set_at}
use Rattle.world_model.specs.declared.hold.Hold.{Hold}
use Rattle.world_model.specs.declared.slot.Runner.{Runner}
use Rattle.world_model.specs.declared.slot.Turn.{Turn}

-- The version of the image. A runner, if one runs, runs in the cursor's slot. Each environment has its excess: the quanta that it ran past its
-- slices and hasn't forfeited yet. Pages are numbered below page_count; from there on each is as if free. Each
-- environment has its guaranteed mappings, by rising VPN, and its bindings, in the rows of its stripe. Each interrupt
-- line has its owner, if anybody has taken it. The claims that stand are there by rising number, and the number of
-- the next one. Each environment has what it is asked for and hasn't given back, if anything, and the pages that it
-- loaded as backups, in their order.
pub record Book : Type 0 where
  pub version : Version
  pub slot_count : ℕ
  pub slots : ℕ → Option Hold
  pub quantum : ℕ
  pub cursor : ℕ
  pub runner : Option Runner
  pub excess : ℕ → ℕ
  pub page_count : ℕ
  pub pages : ℕ → PageRow
  pub kept : ℕ → List Mapping
  pub binds : ℕ → ℕ → Option Binding
  pub lines : ℕ → Option ℕ
  pub claims : List ClaimValue
  pub next_claim : ℕ
  pub pending : ℕ → Option Pending
  pub backups : ℕ → List ℕ
  pub time : ℕ

-- the row of a page, if there is one of this number
abbrev pub page_row : Book → ℕ → Option PageRow
page_row b page = if nat_lt page b.page_count then Some (b.pages page) else None

-- whether an environment owns a page that isn't guaranteed to it, or has bound it
abbrev pub sees : Book → ℕ → ℕ → Bool
sees b e page = is_owned_by e (b.pages page) || is_bound page (b.binds e)

-- the book without the bindings of a page, which spares those of one environment
abbrev pub without_bindings_of : ℕ → Option ℕ → Book → Book
without_bindings_of page but b = record b { binds = λ e row. without (leads_to_page page but e) (b.binds e row) }

-- the book without some claims
abbrev pub withdrawn : (ClaimValue → Bool) → Book → Book
withdrawn gone b = record b { claims = filter (λ (c : ClaimValue). not (gone c)) b.claims }

-- the environment that runs
abbrev pub running : Option Runner → Option ℕ
running runner = option_map (λ (r : Runner). r.env) runner

-- whether this environment runs
abbrev pub is_runner : ℕ → Option Runner → Bool
is_runner e None = false
is_runner e (Some r) = r.env == e

-- the turn in a slot is its holder's, and a later one where the slot is empty
abbrev pub turn_or : ℕ → Option Hold → Option Turn → Option Turn
turn_or slot None later = later
turn_or slot (Some hold) later = Some (record { slot = slot; env = hold.holder })

-- of so many slots after a place, in circular order, the turn in the first that has a holder
abbrev pub first_turn : (ℕ → Option Hold) → ℕ → ℕ → ℕ → Option Turn
first_turn slots count place zero = None
first_turn slots count place (suc tries) =
    turn_or ((place + 1) % count) (slots ((place + 1) % count)) (first_turn slots count ((place + 1) % count) tries)

-- whose turn is next: the holder's of the next held slot after the cursor, all around
abbrev pub next_held_turn : Book → Option Turn
next_held_turn b = first_turn b.slots b.slot_count b.cursor b.slot_count

-- what the holder of a slot owes
abbrev pub owed_in : (ℕ → ℕ) → Option Hold → ℕ
owed_in excess None = 0
owed_in excess (Some hold) = excess hold.holder

-- what the holders of the slots below count owe, slot by slot
abbrev pub owed : (ℕ → ℕ) → (ℕ → Option Hold) → ℕ → ℕ
owed excess slots zero = 0
owed excess slots (suc k) = owed excess slots k + owed_in excess (slots k)

-- A whole turn: the slots that are forfeited on the way, each for its holder; the turn that is run at last, if any
-- slot has a holder; and the excess and the cursor that are left.
pub record WholeTurn : Type 0 where
  pub pays : List Turn
  pub runs : Option Turn
  pub excess : ℕ → ℕ
  pub cursor : ℕ

-- nobody's turn
abbrev pub nobodys : ℕ → (ℕ → ℕ) → WholeTurn
nobodys cursor excess = record { pays = []; runs = None; excess = excess; cursor = cursor }

abbrev pub pays_first : Turn → WholeTurn → WholeTurn
pays_first t rest = record rest { pays = t ∷ rest.pays }

-- an environment's excess, lowered by one for a forfeit
abbrev pub excess_after_forfeit : ℕ → (ℕ → ℕ) → ℕ → ℕ
excess_after_forfeit e excess = set_at e (excess e - 1) excess

-- the holder of the next held slot runs, if it owes nothing; else the slot is forfeited, and so on with the rest of
-- the turn
abbrev pub turn_within : (ℕ → (ℕ → ℕ) → WholeTurn) → ℕ → (ℕ → ℕ) → Option Turn → WholeTurn
turn_within rest cursor excess None = nobodys cursor excess
turn_within rest cursor excess (Some t) =
    if excess t.env == 0 then record { pays = []; runs = Some t; excess = excess; cursor = t.slot }
    else pays_first t (rest t.slot (excess_after_forfeit t.env excess))

-- the turn after a cursor, with fewer than so many forfeits
abbrev pub turn_from : (ℕ → Option Hold) → ℕ → ℕ → ℕ → (ℕ → ℕ) → WholeTurn
turn_from slots count zero cursor excess = nobodys cursor excess
turn_from slots count (suc n) cursor excess =
    turn_within (turn_from slots count n) cursor excess (first_turn slots count cursor count)

-- the whole next turn: there are no more forfeits than the holders owe
abbrev pub whole_turn : Book → WholeTurn
whole_turn b = turn_from b.slots b.slot_count (suc (owed b.excess b.slots b.slot_count)) b.cursor b.excess

-- nobody runs and no slot has a holder
abbrev pub is_idle_book : Book → Bool
is_idle_book b = is_none b.runner && is_none (next_held_turn b)

-- a slot that its owner holds
abbrev pub own_hold : ℕ → Hold
own_hold e = record { owner = e; holder = e }

-- a slot once an environment is gone: what it owned is empty, and what it held for another is its owner's again
abbrev pub hold_without : ℕ → Option Hold → Option Hold
hold_without e None = None
hold_without e (Some hold) =
    if hold.owner == e then None else (if hold.holder == e then Some (own_hold hold.owner) else Some hold)

-- whether an environment owns or holds a slot, which then changes once it is gone
abbrev pub has_part : ℕ → Option Hold → Bool
has_part e None = false
has_part e (Some hold) = hold.owner == e || hold.holder == e
