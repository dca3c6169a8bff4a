-- The rows of slots that a death or a transfer asks for.
use Rattle.std.proofs.Common.{arith, refl, sym, ◌∙◌, ap, subst, ◌≡◌, ◌≤◌, ◌+◌, inl, inr, ℕ, zero, suc, List, [], ◌∷◌, ◌++◌, drop, Bool, true, false, ◌&&◌, Option, None, Some}
use Rattle.std.specs.Prelude.{◌==◌, ◌||◌, nat_lt, if◌then◌else◌, unwrap_or}
use Rattle.std.proofs.lemmas.Bool.{cases_eq, cases_lt, cond_both, eq-eqb, ne_eqb, lt-ltb, le-ltb}
use Rattle.std.proofs.lemmas.List.{append-nil}
use Rattle.aegis_limits.specs.Limits.{most_slots}
use Rattle.kernel_journal.specs.declared.row.Row.{Row}
use Rattle.kernel_journal.specs.declared.row.Row.TheVariants as row
use Rattle.world_model.specs.declared.hold.Hold.{Hold}
use Rattle.world_model.specs.Book.{has_part, hold_without, own_hold}
use Rattle.world_model.specs.Death.{released_row, released_rows}
use Rattle.world_model.specs.SlotCalls.{slot_row}
use Rattle.ledger_audit.specs.LedgerState.{LedgerState, after_row, limit_in, released_by, slot_by, state_from}
use Rattle.ledger_audit.specs.RowRules.{are_fit, is_by_limit, is_change, is_first, is_fit, is_fit_by_kind, is_in_time, is_row, same_number, stand_first}
use Rattle.ledger_law.proofs.Told.{and_true, in_time, state_append}

-- rows of slots, all at one time
abbrev pub AtTime : ℕ → List Row → Type 0
AtTime time [] = Unit {0}
AtTime time (row.Own t slot owner holder ∷ rows) = (t ≡ time) × AtTime time rows
AtTime time (r ∷ rows) = ⊥

pub at_time_both : (time : ℕ) (xs ys : List Row) → AtTime time xs → AtTime time ys → AtTime time (xs ++ ys)
at_time_both time [] ys first second = second
at_time_both time (row.Own t slot owner holder ∷ xs) ys (is, rest) second = (is, at_time_both time xs ys rest second)
at_time_both time (r ∷ xs) ys first second = absurd first

pub at_time_slot : (time k : ℕ) (hold : Option Hold) → AtTime time (slot_row time k hold ∷ [])
at_time_slot time k None = (refl, tt)
at_time_slot time k (Some hold) = (refl, tt)

released_at : (time e k : ℕ) (hold : Option Hold) → AtTime time (released_row time e k hold)
released_at time e k hold =
    cond_both (has_part e hold) (slot_row time k (hold_without e hold) ∷ []) [] (λ (rows : List Row). AtTime time rows) (λ part. at_time_slot time k (hold_without e hold)) (λ none. tt)

pub releases_at : (time e : ℕ) (slots : ℕ → Option Hold) (n : ℕ) → AtTime time (released_rows time e slots n)
releases_at time e slots zero = tt
releases_at time e slots (suc k) = at_time_both time (released_rows time e slots k) (released_row time e k (slots k)) (releases_at time e slots k) (released_at time e k (slots k))

-- such a row is itself
same_self : (a : Option ℕ) → same_number a a ≡ true
same_self None = refl
same_self (Some n) = eq-eqb n n refl

own_self : (t slot : ℕ) (owner holder : Option ℕ) → is_row (row.Own t slot owner holder) (row.Own t slot owner holder) ≡ true
own_self t slot owner holder =
    and_true (t == t) ((slot == slot) && (same_number owner owner && same_number holder holder)) (eq-eqb t t refl)
    (and_true (slot == slot) (same_number owner owner && same_number holder holder) (eq-eqb slot slot refl)
    (and_true (same_number owner owner) (same_number holder holder) (same_self owner) (same_self holder)))

pub slot_row_self : (t slot : ℕ) (hold : Option Hold) → is_row (slot_row t slot hold) (slot_row t slot hold) ≡ true
slot_row_self t slot None = own_self t slot None None
slot_row_self t slot (Some hold) = own_self t slot (Some hold.owner) (Some hold.holder)

pub stand_self : (time : ℕ) (rows later : List Row) → AtTime time rows → stand_first rows (rows ++ later) ≡ true
stand_self time [] later at = refl
stand_self time (row.Own t slot owner holder ∷ rows) later (is, rest) =
    and_true (is_row (row.Own t slot owner holder) (row.Own t slot owner holder)) (stand_first rows (rows ++ later)) (own_self t slot owner holder) (stand_self time rows later rest)
stand_self time (r ∷ rows) later at = absurd at

-- Rows that are due fit.
or_true : (x y : Bool) → x ≡ true → (x || y) ≡ true
or_true true y is = refl
or_true false y is = cc

due_kind : (q : ℕ) (s : LedgerState) (t slot : ℕ) (owner holder : Option ℕ) (later : List Row) → s.at_boot ≡ false → is_first s.due (row.Own t slot owner holder) ≡ true
    → is_fit_by_kind q s (row.Own t slot owner holder) later ≡ true
due_kind q s t slot owner holder later boot due =
    rw boot (or_true (is_first s.due (row.Own t slot owner holder)) (is_change s s.runner t slot (row.Own t slot owner holder)) due)

pub due_fits : (q end time : ℕ) (rows later : List Row) (s : LedgerState) → AtTime time rows → s.due ≡ rows → s.at_boot ≡ false → is_by_limit q s time s.runner ≡ true
    → s.time ≤ time → time + 1 ≤ end → are_fit q end s rows later ≡ true
due_fits q end time [] later s at due boot within rises ends = refl
due_fits q end time (row.Own t slot owner holder ∷ rows) later s (is, at) due boot within rises ends =
    let r = row.Own t slot owner holder in
    let first : is_first s.due r ≡ true = ap (λ (xs : List Row). is_first xs r) due ∙ own_self t slot owner holder in
    and_true (is_fit q end s r (rows ++ later)) (are_fit q end (after_row r s) rows later)
    (and_true (is_in_time q end s r) (is_fit_by_kind q s r (rows ++ later))
    (in_time q end s r boot (omega arith) (omega arith) (subst (λ (n : ℕ). is_by_limit q s n s.runner ≡ true) (sym is) within))
    (due_kind q s t slot owner holder (rows ++ later) boot first))
    (due_fits q end time rows later (after_row r s) at (ap (drop 1) due) boot within (omega arith) ends)
due_fits q end time (r ∷ rows) later s at due boot within rises ends = absurd at

-- what rows of slots leave
pub record Leaves (q now : ℕ) (s u : LedgerState) : Type 0 where
  pub runner : u.runner ≡ s.runner
  pub cursor : u.cursor ≡ s.cursor
  pub phase : u.phase ≡ s.phase
  pub limit : limit_in q u ≡ limit_in q s
  pub turn : u.turn ≡ s.turn
  pub dead : u.dead ≡ s.dead
  pub at_boot : u.at_boot ≡ s.at_boot
  pub time : s.time ≤ now → u.time ≤ now

pub slots_leave : (q time : ℕ) (rows : List Row) (s : LedgerState) → AtTime time rows → Leaves q time s (state_from s rows)
slots_leave q time [] s at = record { runner = refl; cursor = refl; phase = refl; limit = refl; turn = refl; dead = refl; at_boot = refl; time = λ less. less }
slots_leave q time (row.Own t slot owner holder ∷ rows) s (is, at) =
    let rest = slots_leave q time rows (after_row (row.Own t slot owner holder) s) at in
    record { runner = rest.runner; cursor = rest.cursor; phase = rest.phase; limit = rest.limit; turn = rest.turn; dead = rest.dead; at_boot = rest.at_boot; time = λ less. rest.time (omega arith) }
slots_leave q time (r ∷ rows) s at = absurd at

-- the row of a slot says what it has
pub slot_said : (t k : ℕ) (hold : Option Hold) (j : ℕ) → slot_by j (slot_row t k hold) ≡ (if j == k then Some hold else None)
slot_said t k None j = refl
slot_said t k (Some hold) j = refl

no_part : (e : ℕ) (hold : Option Hold) → has_part e hold ≡ false → hold_without e hold ≡ hold
no_part e None is = refl
no_part e (Some hold) is = by_owner (hold.owner == e) (hold.holder == e) is
  where
    by_owner : (a b : Bool) → (a || b) ≡ false → (if a then None else (if b then Some (own_hold hold.owner) else Some hold)) ≡ Some hold
    by_owner true b is = cc
    by_owner false true is = cc
    by_owner false false is = refl

-- the slots once those below n are told
told_slot : (t e k : ℕ) (hold : Option Hold) (u : LedgerState) → u.slots k ≡ hold → (j : ℕ)
    → (state_from u (released_row t e k hold)).slots j ≡ (if j == k then hold_without e hold else u.slots j)
told_slot t e k hold u is j =
    cond_both (has_part e hold) (slot_row t k (hold_without e hold) ∷ []) [] (λ (rows : List Row). (state_from u rows).slots j ≡ (if j == k then hold_without e hold else u.slots j))
    (λ part. ap (λ (o : Option (Option Hold)). unwrap_or o (u.slots j)) (slot_said t k (hold_without e hold) j) ∙ by_slot (j == k))
    (λ none. other none)
  where
    by_slot : (b : Bool) → unwrap_or (if b then Some (hold_without e hold) else None) (u.slots j) ≡ (if b then hold_without e hold else u.slots j)
    by_slot true = refl
    by_slot false = refl

    other : has_part e hold ≡ false → u.slots j ≡ (if j == k then hold_without e hold else u.slots j)
    other none =
        elim (cases_eq j k) [
          | inl same ↦ rw (eq-eqb j k same, no_part e hold none) (ap u.slots same ∙ is)
          | inr differs ↦ rw (ne_eqb j k differs) refl
        ]

released_slots : (t e : ℕ) (slots : ℕ → Option Hold) (s : LedgerState) → s.slots ≡ slots → (n j : ℕ)
    → (state_from s (released_rows t e slots n)).slots j ≡ (if nat_lt j n then hold_without e (slots j) else slots j)
released_slots t e slots s is zero j = rw (le-ltb j 0 (omega arith)) (ap (λ (f : ℕ → Option Hold). f j) is)
released_slots t e slots s is (suc k) j =
    let u = state_from s (released_rows t e slots k) in
    let at : u.slots k ≡ slots k = released_slots t e slots s is k k ∙ rw (le-ltb k k (omega arith)) refl in
    ap (λ (v : LedgerState). v.slots j) (state_append (released_rows t e slots k) (released_row t e k (slots k)) s)
    ∙ told_slot t e k (slots k) u at j
    ∙ elim (cases_eq j k) [
      | inl same ↦ rw (eq-eqb j k same, lt-ltb j (suc k) (omega arith)) (ap (λ (i : ℕ). hold_without e (slots i)) (sym same))
      | inr differs ↦ rw (ne_eqb j k differs) (released_slots t e slots s is k j ∙ further j k differs)
    ]
  where
    further : (j k : ℕ) → (j ≡ k → ⊥) → (if nat_lt j k then hold_without e (slots j) else slots j) ≡ (if nat_lt j (suc k) then hold_without e (slots j) else slots j)
    further j k differs =
        elim (cases_lt j k) [
          | inl less ↦ rw (lt-ltb j k less, lt-ltb j (suc k) (omega arith)) refl
          | inr more ↦ rw (le-ltb j k more, le-ltb j (suc k) (omega arith)) refl
        ]

-- all slots, where those from the count on are empty
pub all_released : (t e : ℕ) (slots : ℕ → Option Hold) (s : LedgerState) → s.slots ≡ slots → (count : ℕ) → ((k : ℕ) → count ≤ k → slots k ≡ None)
    → (state_from s (released_rows t e slots count)).slots ≡ (λ j. hold_without e (slots j))
all_released t e slots s is count beyond = λ i j. at j i
  where
    seen : (j : ℕ) → (if nat_lt j count then hold_without e (slots j) else slots j) ≡ hold_without e (slots j)
    seen j =
        elim (cases_lt j count) [
          | inl less ↦ rw (lt-ltb j count less) refl
          | inr more ↦ rw (le-ltb j count more, beyond j more) refl
        ]

    at : (j : ℕ) → (state_from s (released_rows t e slots count)).slots j ≡ hold_without e (slots j)
    at j = released_slots t e slots s is count j ∙ seen j

-- the rows of 64 slots are those of as many as there are
released_more : (t e : ℕ) (slots : ℕ → Option Hold) (count : ℕ) → ((k : ℕ) → count ≤ k → slots k ≡ None) → (n : ℕ) → count ≤ n
    → released_rows t e slots n ≡ released_rows t e slots count
released_more t e slots count beyond zero less = let same : zero ≡ count = omega arith in ap (released_rows t e slots) same
released_more t e slots count beyond (suc k) less =
    elim (cases_lt k count) [
      | inl below ↦ let same : suc k ≡ count = omega arith in ap (released_rows t e slots) same
      | inr past ↦
          ap (λ (hold : Option Hold). released_rows t e slots k ++ released_row t e k hold) (beyond k past)
          ∙ append-nil (released_rows t e slots k) ∙ released_more t e slots count beyond k past
    ]

pub released_all : (t e : ℕ) (slots : ℕ → Option Hold) (count : ℕ) → ((k : ℕ) → count ≤ k → slots k ≡ None) → count ≤ most_slots
    → released_by t e slots ≡ released_rows t e slots count
unfolding released_by
released_all t e slots count beyond few = released_more t e slots count beyond most_slots few
