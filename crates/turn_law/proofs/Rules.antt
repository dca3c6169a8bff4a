-- What a row that fits says, kind by kind.
use Rattle.std.proofs.Common.{arith, refl, sym, ◌∙◌, ap, subst, ◌≡◌, ◌<◌, ◌≤◌, ℕ, zero, suc, inl, inr, List, [], ◌∷◌, ◌++◌, Bool, true, false, ◌&&◌, Option, None, Some}
use Rattle.std.specs.Prelude.{◌==◌, ◌||◌, not, is_none, nat_le, nat_lt, if◌then◌else◌}
use Rattle.std.proofs.lemmas.Bool.{and_parts, cases_lt, eqb-true, leb-true, ltb-true, not-true}
use Rattle.std.proofs.lemmas.List.{append-nil}
use Rattle.aegis_limits.specs.Limits.{most_slots}
use Rattle.kernel_journal.specs.declared.row.Row.{Row}
use Rattle.kernel_journal.specs.declared.row.Row.TheVariants as row
use Rattle.kernel_journal.specs.RowTable.{time_of}
use Rattle.world_model.specs.declared.hold.Hold.{Hold}
use Rattle.world_model.specs.declared.slot.Phase.{Phase}
use Rattle.world_model.specs.declared.slot.Phase.TheVariants as phase
use Rattle.world_model.specs.SlotCalls.{holds, in_grace}
use Rattle.ledger_audit.specs.LedgerState.{LedgerState, after_row, limit_in}
use Rattle.ledger_audit.specs.RowRules.{all_below, are_fit, are_passed, dies_next, is_between, is_by_limit, is_fit, is_gift, is_in_time, is_next, is_number, is_own_row, is_passed, is_runners}

-- rows that fit, each before all that are after it
abbrev pub AreFit : ℕ → ℕ → LedgerState → List Row → Type 0
AreFit q end s [] = Unit {0}
AreFit q end s (r ∷ rows) = (is_fit q end s r rows ≡ true) × AreFit q end (after_row r s) rows

pub all_fit : (q end : ℕ) (s : LedgerState) (rows : List Row) → are_fit q end s rows [] ≡ true → AreFit q end s rows
all_fit q end s [] fit = tt
all_fit q end s (r ∷ rows) fit =
    let parts = and_parts (is_fit q end s r (rows ++ [])) (are_fit q end (after_row r s) rows []) fit in
    (subst (λ (xs : List Row). is_fit q end s r xs ≡ true) (append-nil rows) parts.0, all_fit q end (after_row r s) rows parts.1)

-- the time of a row that isn't one of the boot
pub record IsTimely (q end : ℕ) (s : LedgerState) (r : Row) : Type 0 where
  pub rises : s.time ≤ time_of r
  pub ends : time_of r < end
  pub limit : (e : ℕ) → s.runner ≡ Some e → time_of r ≤ limit_in q s

pub timely : (q end : ℕ) (s : LedgerState) (r : Row) → (is_own_row r && s.at_boot) ≡ false → is_in_time q end s r ≡ true → IsTimely q end s r
timely q end s r later is =
    let within = is_by_limit q s (time_of r) s.runner in
    let goes : (nat_le s.time (time_of r) && (nat_lt (time_of r) end && within)) ≡ true = ap (λ (b : Bool). if b then time_of r == 0 else nat_le s.time (time_of r) && (nat_lt (time_of r) end && within)) (sym later) ∙ is in
    let parts = and_parts (nat_le s.time (time_of r)) (nat_lt (time_of r) end && within) goes in
    let rest = and_parts (nat_lt (time_of r) end) within parts.1 in
    record {
      rises = leb-true s.time (time_of r) parts.0;
      ends = ltb-true (time_of r) end rest.0;
      limit = λ e runs. leb-true (time_of r) (limit_in q s) (ap (is_by_limit q s (time_of r)) (sym runs) ∙ rest.1);
    }

pub boot_time : (q end : ℕ) (s : LedgerState) (r : Row) → (is_own_row r && s.at_boot) ≡ true → is_in_time q end s r ≡ true → time_of r ≡ 0
boot_time q end s r boot is =
    eqb-true (time_of r) 0 (ap (λ (b : Bool). if b then time_of r == 0 else nat_le s.time (time_of r) && (nat_lt (time_of r) end && is_by_limit q s (time_of r) s.runner)) (sym boot) ∙ is)

-- the runner's rows
number_is : (e : ℕ) (o : Option ℕ) → is_number e o ≡ true → o ≡ Some e
number_is e None is = cc
number_is e (Some who) is = ap (λ (n : ℕ). Some n) (eqb-true who e is)

pub runs_of : (s : LedgerState) (slot e : ℕ) → is_runners s slot e ≡ true → s.runner ≡ Some e
runs_of s slot e is = number_is e s.runner (and_parts (is_number e s.runner) (slot == s.cursor) is).0

pub record IsGift (s : LedgerState) (from to : ℕ) : Type 0 where
  pub runs : s.runner ≡ Some from
  pub lives : s.dead to ≡ false
  pub own : s.phase ≡ phase.Own

pub phase_own : (p : Phase) → in_grace p ≡ false → p ≡ phase.Own
phase_own phase.Own is = refl
phase_own phase.Grace is = cc

pub phase_grace : (p : Phase) → in_grace p ≡ true → p ≡ phase.Grace
phase_grace phase.Own is = cc
phase_grace phase.Grace is = refl

pub gift_of : (s : LedgerState) (slot from to : ℕ) → is_gift s slot from to ≡ true → IsGift s from to
gift_of s slot from to is =
    let parts = and_parts (is_runners s slot from) (not (from == to) && (not (s.dead to) && not (in_grace s.phase))) is in
    let other = and_parts (not (from == to)) (not (s.dead to) && not (in_grace s.phase)) parts.1 in
    let rest = and_parts (not (s.dead to)) (not (in_grace s.phase)) other.1 in
    record { runs = runs_of s slot from parts.0; lives = not-true (s.dead to) rest.0; own = phase_own s.phase (not-true (in_grace s.phase) rest.1) }

-- a turn
pub record IsTurn (s : LedgerState) (time slot e : ℕ) : Type 0 where
  pub nobody : s.runner ≡ None
  pub now : time ≡ s.turn
  pub lives : s.dead e ≡ false
  pub held : holds e (s.slots slot) ≡ true
  pub passed : are_passed s slot ≡ true

nobody_of : (o : Option ℕ) → is_none o ≡ true → o ≡ None
nobody_of None is = refl
nobody_of (Some e) is = cc

pub turn_of : (s : LedgerState) (time slot e : ℕ) → is_next s time slot e ≡ true → IsTurn s time slot e
turn_of s time slot e is =
    let parts = and_parts (is_none s.runner) ((time == s.turn) && (not (s.dead e) && (holds e (s.slots slot) && are_passed s slot))) is in
    let now = and_parts (time == s.turn) (not (s.dead e) && (holds e (s.slots slot) && are_passed s slot)) parts.1 in
    let lives = and_parts (not (s.dead e)) (holds e (s.slots slot) && are_passed s slot) now.1 in
    let held = and_parts (holds e (s.slots slot)) (are_passed s slot) lives.1 in
    record { nobody = nobody_of s.runner parts.0; now = eqb-true time s.turn now.0; lives = not-true (s.dead e) lives.0; held = held.0; passed = held.1 }

below_is : (n k : ℕ) (p : ℕ → Bool) → k < n → all_below n p ≡ true → p k ≡ true
below_is zero k p less all = absurd (omega (arith, less))
below_is (suc n) k p less all =
    let parts = and_parts (all_below n p) (p n) all in
    elim (cases_lt k n) [
      | inl before ↦ below_is n k p before parts.0
      | inr past ↦ let same : n ≡ k = omega (arith, less, past) in ap p (sym same) ∙ parts.1
    ]

held_some : (e : ℕ) (o : Option Hold) → holds e o ≡ true → is_none o ≡ false
held_some e None is = cc
held_some e (Some hold) is = refl

-- a slot that is held isn't passed
pub not_passed : (s : LedgerState) (slot k e : ℕ) → k < most_slots → are_passed s slot ≡ true → holds e (s.slots k) ≡ true → is_between s.cursor slot k ≡ false
unfolding are_passed
not_passed s slot k e less passed held =
    by_test (is_between s.cursor slot k) (is_none (s.slots k)) (held_some e (s.slots k) held) (below_is most_slots k (is_passed s slot) less passed)
  where
    by_test : (b empty : Bool) → empty ≡ false → (not b || empty) ≡ true → b ≡ false
    by_test true empty some is = let never : true ≡ false = sym is ∙ some in cc
    by_test false empty some is = refl

pub same_holder : (a b : ℕ) (o : Option Hold) → holds a o ≡ true → holds b o ≡ true → a ≡ b
same_holder a b None first second = cc
same_holder a b (Some hold) first second = sym (eqb-true hold.holder a first) ∙ eqb-true hold.holder b second

-- the row of a death that is next
pub dies_at : (time e : ℕ) (r : Row) (rows : List Row) → dies_next time e (r ∷ rows) ≡ true → time_of r ≡ time
dies_at time e (row.Dead t slot who) rows is = eqb-true t time (and_parts (t == time) (who == e) is).0
dies_at time e r rows is = cc
