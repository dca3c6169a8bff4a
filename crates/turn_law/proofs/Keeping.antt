-- What the rows that fit keep of the state.
use Rattle.std.proofs.Common.{arith, refl, sym, ◌∙◌, ap, subst, ◌≡◌, ◌<◌, ◌≤◌, ◌+◌, ◌-◌, inl, inr, ℕ, zero, suc, List, [], ◌∷◌, ◌++◌, Bool, true, false, ◌&&◌, drop, Option, None, Some}
use Rattle.std.specs.Prelude.{◌==◌, not, nat_lt, if◌then◌else◌, unwrap_or}
use Rattle.std.proofs.lemmas.Bool.{and_parts, cases_eq, cases_lt, cond_both, eq-eqb, eqb-true, eqb-false, ltb-true, ne_eqb}
use Rattle.aegis_limits.specs.Limits.{excess_limit, most_slots}
use Rattle.kernel_journal.specs.declared.row.Row.{Row}
use Rattle.kernel_journal.specs.declared.row.Row.TheVariants as row
use Rattle.kernel_journal.specs.RowTable.{time_of}
use Rattle.world_model.specs.declared.hold.Hold.{Hold}
use Rattle.world_model.specs.Book.{has_part, hold_without}
use Rattle.world_model.specs.Death.{released_row, released_rows}
use Rattle.world_model.specs.SlotCalls.{in_grace, slot_row}
use Rattle.ledger_audit.specs.LedgerState.{LedgerState, after_row, excess_in, first_state, limit_in, more_if, released_by}
use Rattle.ledger_audit.specs.RowRules.{dies_next, is_fit_by_kind, is_gift, is_judged, is_next, is_own_row, is_runners}
use Rattle.turn_law.proofs.Rules.{gift_of, turn_of}

-- rows before a tick
abbrev pub AreBefore : ℕ → List Row → Type 0
AreBefore t [] = Unit {0}
AreBefore t (r ∷ rows) = (time_of r < t) × AreBefore t rows

-- Who runs lives. Nobody's excess is above the limit, unless its death is next. Nobody forfeits what it doesn't owe. A
-- quantum began in the past, and a turn is in the next tick at the latest. At boot nobody runs. Where nobody runs, the rows
-- that are due are earlier than the next turn.
pub record IsSound (s : LedgerState) (rows : List Row) : Type 0 where
  pub lives : (e : ℕ) → s.runner ≡ Some e → s.dead e ≡ false
  pub modest : (e : ℕ) → excess_limit < excess_in s e → dies_next s.grace_start e rows ≡ true
  pub paid : (e : ℕ) → s.pays e ≤ s.overs e
  pub slice : s.slice_start ≤ s.time
  pub grace : s.grace_start ≤ s.time
  pub turn : s.turn ≤ s.time + 1
  pub boot : s.at_boot ≡ true → (s.runner ≡ None) × (s.time ≡ 0) × (s.turn ≡ 0)
  pub due : s.runner ≡ None → AreBefore s.turn s.due

-- a row after such a state: its time, and how it fits
pub record Follows (q : ℕ) (s : LedgerState) (r : Row) (rows : List Row) : Type 0 where
  pub rises : s.time ≤ time_of r
  pub boot : is_own_row r ≡ true → s.at_boot ≡ true → time_of r ≡ 0
  pub fits : is_fit_by_kind q s r rows ≡ true

some_is : (a b : ℕ) (P : ℕ → Type 0) → Some a ≡ Some b → P a → P b
some_is a b P same given = let is : a ≡ b = cc in subst P is given

-- the rows of the slots that a death changes
before_both : (t : ℕ) (xs ys : List Row) → AreBefore t xs → AreBefore t ys → AreBefore t (xs ++ ys)
before_both t [] ys first second = second
before_both t (r ∷ xs) ys first second = (first.0, before_both t xs ys first.1 second)

slot_before : (t k : ℕ) (hold : Option Hold) → AreBefore (t + 1) (slot_row t k hold ∷ [])
slot_before t k None = (omega arith, tt)
slot_before t k (Some hold) = (omega arith, tt)

part_before : (t e k : ℕ) (hold : Option Hold) → AreBefore (t + 1) (released_row t e k hold)
part_before t e k hold =
    cond_both (has_part e hold) (slot_row t k (hold_without e hold) ∷ []) [] (λ (rows : List Row). AreBefore (t + 1) rows) (λ part. slot_before t k (hold_without e hold)) (λ none. tt)

rows_before : (t e : ℕ) (slots : ℕ → Option Hold) (n : ℕ) → AreBefore (t + 1) (released_rows t e slots n)
rows_before t e slots zero = tt
rows_before t e slots (suc k) = before_both (t + 1) (released_rows t e slots k) (released_row t e k (slots k)) (rows_before t e slots k) (part_before t e k (slots k))

released_before : (t e : ℕ) (slots : ℕ → Option Hold) → AreBefore (t + 1) (released_by t e slots)
unfolding released_by
released_before t e slots = rows_before t e slots most_slots

module _ (q : ℕ) (s : LedgerState) where
  lives_next : (r : Row) (rows : List Row) → IsSound s (r ∷ rows) → is_fit_by_kind q s r rows ≡ true → (e : ℕ) → (after_row r s).runner ≡ Some e → (after_row r s).dead e ≡ false
  lives_next (row.Run t slot who) rows sound fits e runs =
      some_is who e (λ (n : ℕ). s.dead n ≡ false) runs (turn_of s t slot who (and_parts (is_next s t slot who) (excess_in s who == 0) fits).0).lives
  lives_next (row.Give t slot from to) rows sound fits e runs = some_is to e (λ (n : ℕ). s.dead n ≡ false) runs (gift_of s slot from to fits).lives
  lives_next (row.Async t slot from to) rows sound fits e runs = some_is to e (λ (n : ℕ). s.dead n ≡ false) runs (gift_of s slot from to fits).lives
  lives_next (row.Sync t slot from to) rows sound fits e runs =
      some_is to e (λ (n : ℕ). s.dead n ≡ false) runs (gift_of s slot from to (and_parts (is_gift s slot from to) _ fits).0).lives
  lives_next (row.Stop t slot who) rows sound fits e runs = cc
  lives_next (row.Dead t slot who) rows sound fits e runs = cc
  lives_next r rows sound fits e runs = sound.lives e runs

  pub owes_less : (b : Bool) (overs pays more : ℕ) → pays ≤ more → (if b then 0 else overs - more) ≤ (if b then 0 else overs - pays)
  owes_less true overs pays more less = omega arith
  owes_less false overs pays more less = omega (arith, less)

  pub more_least : (b : Bool) (n : ℕ) → n ≤ more_if b n
  more_least true n = omega arith
  more_least false n = omega arith

  owes_one_more : (b counts : Bool) (overs pays : ℕ) → (if b then 0 else more_if counts overs - pays) ≤ (if b then 0 else overs - pays) + 1
  owes_one_more true counts overs pays = omega arith
  owes_one_more false true overs pays = omega arith
  owes_one_more false false overs pays = omega arith

  -- before a row that isn't a death nobody's excess is above the limit
  pub over_low : (t slot who excess : ℕ) (rows : List Row) → IsSound s (row.Over t slot who excess ∷ rows) → (i : ℕ) → excess_in s i ≤ excess_limit
  over_low t slot who excess rows sound i =
      elim (cases_lt excess_limit (excess_in s i)) [
        | inl many ↦ let never : false ≡ true = sound.modest i many in cc
        | inr few ↦ few
      ]

  sentenced : (b dies : Bool) → b ≡ true → (if b then dies else not dies) ≡ true → dies ≡ true
  sentenced true dies is judged = judged
  sentenced false dies is judged = cc

  over_judged : (t slot who excess : ℕ) (rows : List Row) → IsSound s (row.Over t slot who excess ∷ rows) → is_fit_by_kind q s (row.Over t slot who excess) rows ≡ true → (e : ℕ) → who ≡ e
      → excess_limit < excess_in (after_row (row.Over t slot who excess) s) e → dies_next t e rows ≡ true
  over_judged t slot who excess rows sound fits e is above =
      let rest = (and_parts (is_runners s slot who) (in_grace s.phase && ((t == limit_in q s) && ((excess == excess_in s who + 1) && is_judged t who excess rows))) fits).1 in
      let last = (and_parts (in_grace s.phase) ((t == limit_in q s) && ((excess == excess_in s who + 1) && is_judged t who excess rows)) rest).1 in
      let counted = (and_parts (t == limit_in q s) ((excess == excess_in s who + 1) && is_judged t who excess rows) last).1 in
      let both = and_parts (excess == excess_in s who + 1) (is_judged t who excess rows) counted in
      let one : excess_in (after_row (row.Over t slot who excess) s) e ≤ excess_in s e + 1 = owes_one_more (s.dead e) (who == e) (s.overs e) (s.pays e) in
      let written : excess ≡ excess_in s who + 1 = eqb-true excess (excess_in s who + 1) both.0 in
      let owed : excess_in s who ≡ excess_in s e = ap (excess_in s) is in
      let top : excess_in s e ≤ excess_limit = over_low t slot who excess rows sound e in
      let ninth : (excess == excess_limit + 1) ≡ true = eq-eqb excess (excess_limit + 1) (omega (arith, one, written, owed, top, above)) in
      let dies : dies_next t who rows ≡ true = sentenced (excess == excess_limit + 1) (dies_next t who rows) ninth both.1 in
      ap (λ (n : ℕ). dies_next t n rows) (sym is) ∙ dies

  modest_next : (r : Row) (rows : List Row) → IsSound s (r ∷ rows) → is_fit_by_kind q s r rows ≡ true → (e : ℕ) → excess_limit < excess_in (after_row r s) e
      → dies_next (after_row r s).grace_start e rows ≡ true
  modest_next (row.Pay t slot who) rows sound fits e above =
      let less : excess_in (after_row (row.Pay t slot who) s) e ≤ excess_in s e = owes_less (s.dead e) (s.overs e) (s.pays e) (more_if (who == e) (s.pays e)) (more_least (who == e) (s.pays e)) in
      let never : false ≡ true = sound.modest e (omega (arith, less, above)) in cc
  modest_next (row.Over t slot who excess) rows sound fits e above =
      elim (cases_eq who e) [
        | inl is ↦ over_judged t slot who excess rows sound fits e is above
        | inr other ↦
            let same : excess_in (after_row (row.Over t slot who excess) s) e ≡ excess_in s e = ap (λ (b : Bool). if s.dead e then 0 else more_if b (s.overs e) - s.pays e) (ne_eqb who e other) in
            let never : false ≡ true = sound.modest e (omega (arith, same, above)) in cc
      ]
  modest_next (row.Dead t slot who) rows sound fits e above = by_test (e == who) refl
    where
      by_test : (b : Bool) → (e == who) ≡ b → dies_next s.grace_start e rows ≡ true
      by_test true same =
          let none : excess_in (after_row (row.Dead t slot who) s) e ≡ 0 = ap (λ (b : Bool). if unwrap_or (if b then Some true else None) (s.dead e) then 0 else s.overs e - s.pays e) same in
          absurd (omega (arith, none, above))
      by_test false other =
          let same : excess_in (after_row (row.Dead t slot who) s) e ≡ excess_in s e = ap (λ (b : Bool). if unwrap_or (if b then Some true else None) (s.dead e) then 0 else s.overs e - s.pays e) other in
          let dies = sound.modest e (omega (arith, same, above)) in
          let is : who ≡ e = eqb-true who e (and_parts (t == s.grace_start) (who == e) dies).1 in
          absurd (eqb-false e who other (sym is))
  modest_next r rows sound fits e above = let never : false ≡ true = sound.modest e above in cc

  pays_less : (b : Bool) (overs pays : ℕ) → 0 < (if b then 0 else overs - pays) → pays + 1 ≤ overs
  pays_less true overs pays some = absurd (omega (arith, some))
  pays_less false overs pays some = omega (arith, some)

  paid_next : (r : Row) (rows : List Row) → IsSound s (r ∷ rows) → is_fit_by_kind q s r rows ≡ true → (e : ℕ) → (after_row r s).pays e ≤ (after_row r s).overs e
  paid_next (row.Pay t slot who) rows sound fits e =
      by_test (who == e) (λ same. eqb-true who e same)
    where
      owing : s.pays who + 1 ≤ s.overs who
      owing = pays_less (s.dead who) (s.overs who) (s.pays who) (ltb-true 0 (excess_in s who) (and_parts (is_next s t slot who) (nat_lt 0 (excess_in s who)) fits).1)

      by_test : (b : Bool) → (b ≡ true → who ≡ e) → more_if b (s.pays e) ≤ s.overs e
      by_test true same = subst (λ (n : ℕ). s.pays n + 1 ≤ s.overs n) (same refl) owing
      by_test false same = sound.paid e
  paid_next (row.Over t slot who excess) rows sound fits e = let more = more_least (who == e) (s.overs e) in omega (arith, sound.paid e, more)
  paid_next r rows sound fits e = sound.paid e

  slice_next : (r : Row) (rows : List Row) → IsSound s (r ∷ rows) → s.time ≤ time_of r → (after_row r s).slice_start ≤ time_of r
  slice_next (row.Run t slot who) rows sound rises = omega arith
  slice_next r rows sound rises = omega (arith, sound.slice, rises)

  grace_next : (r : Row) (rows : List Row) → IsSound s (r ∷ rows) → s.time ≤ time_of r → (after_row r s).grace_start ≤ time_of r
  grace_next (row.End t slot who) rows sound rises = omega arith
  grace_next (row.Over t slot who excess) rows sound rises = omega arith
  grace_next r rows sound rises = omega (arith, sound.grace, rises)

  turn_next : (r : Row) (rows : List Row) → IsSound s (r ∷ rows) → s.time ≤ time_of r → (after_row r s).turn ≤ time_of r + 1
  turn_next (row.Stop t slot who) rows sound rises = omega arith
  turn_next (row.Dead t slot who) rows sound rises = omega arith
  turn_next r rows sound rises = omega (arith, sound.turn, rises)

  boot_next : (r : Row) (rows : List Row) → IsSound s (r ∷ rows) → (is_own_row r ≡ true → s.at_boot ≡ true → time_of r ≡ 0) → (after_row r s).at_boot ≡ true
      → ((after_row r s).runner ≡ None) × (time_of r ≡ 0) × ((after_row r s).turn ≡ 0)
  boot_next (row.Own t slot owner holder) rows sound boot is = let was = sound.boot is in (was.0, boot refl is, was.2)
  boot_next r rows sound boot is = cc

  rows_drop : (t : ℕ) (rows : List Row) → AreBefore t rows → AreBefore t (drop 1 rows)
  rows_drop t [] before = tt
  rows_drop t (r ∷ rows) before = before.1

  due_next : (r : Row) (rows : List Row) → IsSound s (r ∷ rows) → (after_row r s).runner ≡ None → AreBefore (after_row r s).turn (after_row r s).due
  due_next (row.Own t slot owner holder) rows sound nobody = rows_drop s.turn s.due (sound.due nobody)
  due_next (row.Sync t slot from to) rows sound nobody = cc
  due_next (row.Dead t slot who) rows sound nobody = released_before t who s.slots
  due_next r rows sound nobody = tt

  pub sound_next : (r : Row) (rows : List Row) → IsSound s (r ∷ rows) → Follows q s r rows → IsSound (after_row r s) rows
  sound_next r rows sound follows = record {
    lives = lives_next r rows sound follows.fits;
    modest = modest_next r rows sound follows.fits;
    paid = paid_next r rows sound follows.fits;
    slice = slice_next r rows sound follows.rises;
    grace = grace_next r rows sound follows.rises;
    turn = turn_next r rows sound follows.rises;
    boot = boot_next r rows sound follows.boot;
    due = due_next r rows sound;
  }

-- so it is before the first row
pub first_sound : (rows : List Row) → IsSound first_state rows
first_sound rows = record {
  lives = λ e runs. cc;
  modest = λ e above. absurd (omega (arith, above));
  paid = λ e. omega arith;
  slice = omega arith;
  grace = omega arith;
  turn = omega arith;
  boot = λ is. (refl, refl, refl);
  due = λ nobody. tt;
}
