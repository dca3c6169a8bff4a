-- The turn: the rows of the slots that are forfeited, and of the one that is run.
use Rattle.std.proofs.Common.{arith, refl, sym, ◌∙◌, ap, subst, ◌≡◌, ◌<◌, ◌≤◌, ◌+◌, ◌-◌, ◌%◌, ◌⊎◌, inl, inr, ℕ, zero, suc, List, [], ◌∷◌, ◌++◌, map, Bool, true, false, ◌&&◌, Option, None, Some}
use Rattle.std.specs.Prelude.{◌==◌, ◌||◌, not, nat_lt, if◌then◌else◌, is_none}
use Rattle.std.specs.Option.{option_map}
use Rattle.std.proofs.lemmas.Bool.{cases_eq, cases_lt, and_parts, eq-eqb, ne_eqb, ltb-true, ltb-false, lt-ltb}
use Rattle.std.proofs.Math.Nat.{add-mod_right, mod-eq_of_lt, mod-lt}
use Rattle.aegis_limits.specs.Limits.{most_slots}
use Rattle.kernel_journal.specs.declared.row.Row.{Row}
use Rattle.kernel_journal.specs.declared.row.Row.TheVariants as row
use Rattle.world_model.specs.declared.hold.Hold.{Hold}
use Rattle.world_model.specs.declared.slot.Phase.TheVariants as phase
use Rattle.world_model.specs.declared.slot.Turn.{Turn}
use Rattle.world_model.specs.Book.{excess_after_forfeit}
use Rattle.world_model.specs.SlotCalls.{holds}
use Rattle.world_model.specs.Tick.{pay_row}
use Rattle.world_model.specs.World.{World}
use Rattle.run_model.specs.Excess.{AreSlotsLive, GoesByRule, Lives}
use Rattle.run_model.specs.NextTurn.{IsNextHeld}
use Rattle.ledger_audit.specs.LedgerState.{LedgerState, after_row, excess_in, more_if, state_from}
use Rattle.ledger_audit.specs.RowRules.{all_below, are_fit, are_passed, is_between, is_fit, is_next, is_passed}
use Rattle.ledger_law.proofs.Told.{IsRunning, SaysCursor, and_true, in_time}

-- What stands between the cursor and the next held slot.
or_parts : (x y : Bool) → (x || y) ≡ true → (x ≡ true) ⊎ (y ≡ true)
or_parts true y is = inl refl
or_parts false y is = inr is

between_means : (c slot k : ℕ) → is_between c slot k ≡ true → ((c < slot) × (c < k) × (k < slot)) ⊎ ((slot ≤ c) × ((c < k) ⊎ (k < slot)))
between_means c slot k is = by_place (nat_lt c slot) refl is
  where
    by_either : slot ≤ c → ((nat_lt c k ≡ true) ⊎ (nat_lt k slot ≡ true)) → ((c < slot) × (c < k) × (k < slot)) ⊎ ((slot ≤ c) × ((c < k) ⊎ (k < slot)))
    by_either least (inl behind) = inr (least, inl (ltb-true c k behind))
    by_either least (inr before) = inr (least, inr (ltb-true k slot before))

    by_place : (t : Bool) → nat_lt c slot ≡ t → (if t then nat_lt c k && nat_lt k slot else nat_lt c k || nat_lt k slot) ≡ true
        → ((c < slot) × (c < k) × (k < slot)) ⊎ ((slot ≤ c) × ((c < k) ⊎ (k < slot)))
    by_place true below both = let parts = and_parts (nat_lt c k) (nat_lt k slot) both in inl (ltb-true c slot below, ltb-true c k parts.0, ltb-true k slot parts.1)
    by_place false above either = by_either (ltb-false c slot above) (or_parts (nat_lt c k) (nat_lt k slot) either)

module _ (slots : ℕ → Option Hold) (count cursor slot steps : ℕ) (below : cursor < count) (least : 1 ≤ steps) (most : steps ≤ count) (stands : slot ≡ (cursor + steps) % count)
    (between : (j : ℕ) → 1 ≤ j → j < steps → slots ((cursor + j) % count) ≡ None) where
  behind_empty : (k : ℕ) → cursor < k → k < count → k < cursor + steps → slots k ≡ None
  behind_empty k more within near =
      let j = k - cursor in
      let sum : cursor + j ≡ k = omega arith in
      let place : (cursor + j) % count ≡ k = ap (λ (n : ℕ). n % count) sum ∙ mod-eq_of_lt within in
      subst (λ (n : ℕ). slots n ≡ None) place (between j (omega arith) (omega arith))

  before_empty : (k : ℕ) → k < count → k + count < cursor + steps → slots k ≡ None
  before_empty k within near =
      let j = k + count - cursor in
      let sum : cursor + j ≡ k + count = omega arith in
      let place : (cursor + j) % count ≡ k = ap (λ (n : ℕ). n % count) sum ∙ add-mod_right k count ∙ mod-eq_of_lt within in
      subst (λ (n : ℕ). slots n ≡ None) place (between j (omega arith) (omega arith))

  where_slot : ((cursor + steps < count) × (slot ≡ cursor + steps)) ⊎ ((count ≤ cursor + steps) × (slot + count ≡ cursor + steps))
  where_slot =
      elim (cases_lt (cursor + steps) count) [
        | inl within ↦ inl (within, stands ∙ mod-eq_of_lt within)
        | inr around ↦
            let x = cursor + steps - count in
            let sum : cursor + steps ≡ x + count = omega arith in
            let small : x < count = omega arith in
            let place : slot ≡ x = stands ∙ ap (λ (n : ℕ). n % count) sum ∙ add-mod_right x count ∙ mod-eq_of_lt small in
            inr (around, omega arith)
      ]

  between_empty : (told k : ℕ) → SaysCursor told cursor count → count ≤ most_slots → k < count → is_between told slot k ≡ true → slots k ≡ None
  between_empty told k says few within is = by_cursor says (between_means told slot k is) where_slot
    where
      by_cursor : SaysCursor told cursor count → ((told < slot) × (told < k) × (k < slot)) ⊎ ((slot ≤ told) × ((told < k) ⊎ (k < slot)))
          → ((cursor + steps < count) × (slot ≡ cursor + steps)) ⊎ ((count ≤ cursor + steps) × (slot + count ≡ cursor + steps)) → slots k ≡ None
      by_cursor (inl same) (inl (a, b, c)) (inl (d, e)) = behind_empty k (omega arith) within (omega arith)
      by_cursor (inl same) (inl (a, b, c)) (inr (d, e)) = absurd (omega arith)
      by_cursor (inl same) (inr (a, inl b)) (inl (d, e)) = absurd (omega arith)
      by_cursor (inl same) (inr (a, inr b)) (inl (d, e)) = absurd (omega arith)
      by_cursor (inl same) (inr (a, inl b)) (inr (d, e)) = behind_empty k (omega arith) within (omega arith)
      by_cursor (inl same) (inr (a, inr b)) (inr (d, e)) = before_empty k within (omega arith)
      by_cursor (inr (end, last)) (inl (a, b, c)) stood = absurd (omega arith)
      by_cursor (inr (end, last)) (inr (a, inl b)) stood = absurd (omega arith)
      by_cursor (inr (end, last)) (inr (a, inr b)) (inl (d, e)) = absurd (omega arith)
      by_cursor (inr (end, last)) (inr (a, inr b)) (inr (d, e)) = before_empty k within (omega arith)

pub all_true : (n : ℕ) (p : ℕ → Bool) → ((k : ℕ) → k < n → p k ≡ true) → all_below n p ≡ true
all_true zero p each = refl
all_true (suc n) p each = and_true (all_below n p) (p n) (all_true n p (λ k less. each k (omega arith))) (each n (omega arith))

passed_true : (s : LedgerState) (slot k : ℕ) → (is_between s.cursor slot k ≡ true → s.slots k ≡ None) → is_passed s slot k ≡ true
passed_true s slot k empty = by_place (is_between s.cursor slot k) empty
  where
    by_place : (t : Bool) → (t ≡ true → s.slots k ≡ None) → (not t || is_none (s.slots k)) ≡ true
    by_place true none = ap is_none (none refl)
    by_place false none = refl

all_passed : (s : LedgerState) (slot : ℕ) → ((k : ℕ) → is_between s.cursor slot k ≡ true → s.slots k ≡ None) → are_passed s slot ≡ true
unfolding are_passed
all_passed s slot empty = all_true most_slots (is_passed s slot) (λ k less. passed_true s slot k (empty k))

holds_held : (e : ℕ) (hold : Option Hold) → option_map (λ (h : Hold). h.holder) hold ≡ Some e → holds e hold ≡ true
holds_held e None is = cc
holds_held e (Some hold) is = let same : hold.holder ≡ e = cc in eq-eqb hold.holder e same

-- The state in the turn: nobody runs, and it is taken now.
pub record Turns (w : World) (s : LedgerState) (place : ℕ) (excess : ℕ → ℕ) : Type 0 where
  pub slots : s.slots ≡ w.book.slots
  pub cursor : SaysCursor s.cursor place w.book.slot_count
  pub nobody : s.runner ≡ None
  pub turn : s.turn ≡ w.book.time
  pub time : s.time ≤ w.book.time
  pub owes : (e : ℕ) → Lives w e → (s.dead e ≡ false) × (s.overs e ≡ s.pays e + excess e)

-- what is so once it is over
pub record HasTurn (q : ℕ) (w : World) (s u : LedgerState) (t : Turn) : Type 0 where
  pub slots : u.slots ≡ w.book.slots
  pub time : u.time ≤ w.book.time
  pub dead : u.dead ≡ s.dead
  pub runs : IsRunning q 0 u t.slot w.book.time (record { env = t.env; left = q; phase = phase.Own })

module _ (q : ℕ) (w : World) (least : 1 ≤ q) (live : AreSlotsLive w w.book.slots) (within : w.book.cursor < w.book.slot_count) (few : w.book.slot_count ≤ most_slots)
    (beyond : (k : ℕ) → w.book.slot_count ≤ k → w.book.slots k ≡ None) where
  holder_lives : (e : ℕ) (hold : Option Hold) → ((h : Hold) → hold ≡ Some h → Lives w h.owner × Lives w h.holder) → option_map (λ (h : Hold). h.holder) hold ≡ Some e → Lives w e
  holder_lives e None lived is = cc
  holder_lives e (Some hold) lived is = let same : hold.holder ≡ e = cc in subst (λ (n : ℕ). Lives w n) same (lived hold refl).1

  next_true : (s : LedgerState) (cursor : ℕ) (excess : ℕ → ℕ) (slot e : ℕ) → cursor < w.book.slot_count → Turns w s cursor excess → Lives w e
      → IsNextHeld (record w.book { cursor = cursor; excess = excess }) slot e → is_next s w.book.time slot e ≡ true
  next_true s cursor excess slot e below now lives next =
      and_true (is_none s.runner) ((w.book.time == s.turn) && (not (s.dead e) && (holds e (s.slots slot) && are_passed s slot))) (ap is_none now.nobody)
      (and_true (w.book.time == s.turn) (not (s.dead e) && (holds e (s.slots slot) && are_passed s slot)) (eq-eqb w.book.time s.turn (sym now.turn))
      (and_true (not (s.dead e)) (holds e (s.slots slot) && are_passed s slot) (ap not (now.owes e lives).0)
      (and_true (holds e (s.slots slot)) (are_passed s slot) (subst (λ (f : ℕ → Option Hold). holds e (f slot) ≡ true) (sym now.slots) (holds_held e (w.book.slots slot) next.held))
      (all_passed s slot (λ k is. empty k is)))))
    where
      by_count : (k : ℕ) → is_between s.cursor slot k ≡ true → ((k < w.book.slot_count) ⊎ (w.book.slot_count ≤ k)) → w.book.slots k ≡ None
      by_count k is (inl there) = between_empty w.book.slots w.book.slot_count cursor slot next.steps below next.steps_least next.steps_most next.stands next.between s.cursor k now.cursor few there is
      by_count k is (inr past) = beyond k past

      empty : (k : ℕ) → is_between s.cursor slot k ≡ true → s.slots k ≡ None
      empty k is = ap (λ (f : ℕ → Option Hold). f k) now.slots ∙ by_count k is (cases_lt k w.book.slot_count)

  excess_is : (s : LedgerState) (cursor : ℕ) (excess : ℕ → ℕ) (e : ℕ) → Turns w s cursor excess → Lives w e → excess_in s e ≡ excess e
  excess_is s cursor excess e now lives = let owes = now.owes e lives in rw owes.0 (omega (arith, owes.1))

  slot_below : (cursor slot steps : ℕ) → cursor < w.book.slot_count → slot ≡ (cursor + steps) % w.book.slot_count → slot < w.book.slot_count
  slot_below cursor slot steps below stands = let around : (cursor + steps) % w.book.slot_count < w.book.slot_count = mod-lt (cursor + steps) (omega arith) in omega (arith, stands)

  pay_owes : (s : LedgerState) (cursor : ℕ) (excess : ℕ → ℕ) (slot e : ℕ) → 0 < excess e → Turns w s cursor excess → (i : ℕ) → Lives w i
      → (s.dead i ≡ false) × (s.overs i ≡ more_if (e == i) (s.pays i) + excess_after_forfeit e excess i)
  pay_owes s cursor excess slot e owing now i lives =
      let was = now.owes i lives in
      elim (cases_eq i e) [
        | inl same ↦ (was.0, rw (eq-eqb e i (sym same), eq-eqb i e same) (let as_much : excess i ≡ excess e = ap excess same in omega (arith, was.1)))
        | inr other ↦ (was.0, rw (ne_eqb e i (λ (is : e ≡ i). other (sym is)), ne_eqb i e other) was.1)
      ]

  paid : (s : LedgerState) (cursor : ℕ) (excess : ℕ → ℕ) (slot e : ℕ) → 0 < excess e → Turns w s cursor excess → Turns w (after_row (row.Pay w.book.time slot e) s) slot (excess_after_forfeit e excess)
  paid s cursor excess slot e owing now = record {
    slots = now.slots;
    cursor = inl refl;
    nobody = now.nobody;
    turn = now.turn;
    time = omega arith;
    owes = pay_owes s cursor excess slot e owing now;
  }

  pub turn_fits : (pays : List Turn) (t : Turn) (s : LedgerState) (cursor : ℕ) (excess : ℕ → ℕ) → cursor < w.book.slot_count → Turns w s cursor excess
      → GoesByRule (record w.book { cursor = cursor; excess = excess }) pays (Some t) → (end : ℕ) (later : List Row) → w.book.time + 1 ≤ end
      → are_fit q end s (map (pay_row w.book.time) pays ++ row.Run w.book.time t.slot t.env ∷ []) later ≡ true
  turn_fits [] t s cursor excess below now (next, free) end later ends =
      let r = row.Run w.book.time t.slot t.env in
      let lives = holder_lives t.env (w.book.slots t.slot) (live t.slot) next.held in
      let owes : (excess_in s t.env == 0) ≡ true = eq-eqb (excess_in s t.env) 0 (excess_is s cursor excess t.env now lives ∙ free) in
      and_true (is_fit q end s r later) true
      (and_true _ _ (in_time q end s r refl now.time (omega arith) (rw now.nobody refl))
      (and_true (is_next s w.book.time t.slot t.env) (excess_in s t.env == 0) (next_true s cursor excess t.slot t.env below now lives next) owes)) refl
  turn_fits (p ∷ pays) t s cursor excess below now (next, owing, rest) end later ends =
      let r = row.Pay w.book.time p.slot p.env in
      let more = map (pay_row w.book.time) pays ++ row.Run w.book.time t.slot t.env ∷ [] in
      let lives = holder_lives p.env (w.book.slots p.slot) (live p.slot) next.held in
      let same = excess_is s cursor excess p.env now lives in
      let owes : nat_lt 0 (excess_in s p.env) ≡ true = lt-ltb 0 (excess_in s p.env) (omega arith) in
      let there : p.slot < w.book.slot_count = slot_below cursor p.slot next.steps below next.stands in
      and_true (is_fit q end s r (more ++ later)) (are_fit q end (after_row r s) more later)
      (and_true _ _ (in_time q end s r refl now.time (omega arith) (rw now.nobody refl))
      (and_true (is_next s w.book.time p.slot p.env) (nat_lt 0 (excess_in s p.env)) (next_true s cursor excess p.slot p.env below now lives next) owes))
      (turn_fits pays t (after_row r s) p.slot (excess_after_forfeit p.env excess) there (paid s cursor excess p.slot p.env owing now) rest end later ends)

  pub turn_has : (pays : List Turn) (t : Turn) (s : LedgerState) (cursor : ℕ) (excess : ℕ → ℕ) → cursor < w.book.slot_count → Turns w s cursor excess
      → GoesByRule (record w.book { cursor = cursor; excess = excess }) pays (Some t)
      → HasTurn q w s (state_from s (map (pay_row w.book.time) pays ++ row.Run w.book.time t.slot t.env ∷ [])) t
  turn_has [] t s cursor excess below now (next, free) = record {
    slots = now.slots;
    time = omega arith;
    dead = refl;
    runs = record { runner = refl; place = refl; phase = refl; limit = omega arith; left = least; at_boot = refl };
  }
  turn_has (p ∷ pays) t s cursor excess below now (next, owing, rest) =
      let there : p.slot < w.book.slot_count = slot_below cursor p.slot next.steps below next.stands in
      let has = turn_has pays t (after_row (row.Pay w.book.time p.slot p.env) s) p.slot (excess_after_forfeit p.env excess) there (paid s cursor excess p.slot p.env owing now) rest in
      record { slots = has.slots; time = has.time; dead = has.dead; runs = has.runs }
