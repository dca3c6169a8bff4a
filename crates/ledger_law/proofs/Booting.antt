-- The rows of slots at boot.
use Rattle.std.proofs.Common.{arith, refl, sym, ◌∙◌, ap, subst, ◌≡◌, ◌<◌, ◌≤◌, ◌+◌, ◌-◌, inl, inr, ℕ, zero, suc, List, [], ◌∷◌, ◌++◌, length, Bool, true, false, Option, None, Some}
use Rattle.std.specs.Prelude.{◌==◌, nat_lt, if◌then◌else◌, slice_get, unwrap_or}
use Rattle.std.specs.Option.{option_flatten, option_map}
use Rattle.std.proofs.lemmas.Bool.{cases_eq, cases_lt, eq-eqb, ne_eqb, lt-ltb, le-ltb}
use Rattle.aegis_limits.specs.Limits.{most_slots}
use Rattle.boot_image.specs.ImageValue.{ImageValue, ProgramValue}
use Rattle.boot_image.specs.Accepted.{IsAccepted}
use Rattle.kernel_journal.specs.declared.row.Row.{Row}
use Rattle.kernel_journal.specs.declared.row.Row.TheVariants as row
use Rattle.world_model.specs.Book.{Book, own_hold}
use Rattle.run_model.specs.Boot.{book_of_image, boot_slot, boot_world, own_row, own_rows, with_all_kept, with_kept}
use Rattle.ledger_audit.specs.LedgerState.{LedgerState, first_state, state_after, state_from}
use Rattle.ledger_audit.specs.RowRules.{are_fit, is_behind, is_fit, is_fit_by_kind, is_in_time}
use Rattle.ledger_law.proofs.Told.{Core, IsBound, IsTold, Says, and_true, core, fit_append, state_append}

-- the state once the rows of the slots below n are told
record Booted (owners : List (Option ℕ)) (n : ℕ) (s : LedgerState) : Type 0 where
  at_boot : s.at_boot ≡ true
  runner : s.runner ≡ None
  turn : s.turn ≡ 0
  time : s.time ≡ 0
  cursor : s.cursor ≡ most_slots - 1
  dead : s.dead ≡ (λ e. false)
  slots : (j : ℕ) → s.slots j ≡ (if nat_lt j n then boot_slot owners j else None)
  last : (k : ℕ) → s.last_slot ≡ Some k → k < n

further : (owners : List (Option ℕ)) (n j : ℕ) → (j ≡ n → ⊥) → (if nat_lt j n then boot_slot owners j else None) ≡ (if nat_lt j (suc n) then boot_slot owners j else None)
further owners n j other =
    elim (cases_lt j n) [
      | inl less ↦ rw (lt-ltb j n less, lt-ltb j (suc n) (omega arith)) refl
      | inr more ↦ rw (le-ltb j n more, le-ltb j (suc n) (omega arith)) refl
    ]

booted_next : (owners : List (Option ℕ)) (n : ℕ) (s : LedgerState) (o : Option ℕ) → boot_slot owners n ≡ option_map own_hold o → Booted owners n s
    → Booted owners (suc n) (state_from s (own_row n (option_map own_hold o)))
booted_next owners n s None is booted = record {
  at_boot = booted.at_boot;
  runner = booted.runner;
  turn = booted.turn;
  time = booted.time;
  cursor = booted.cursor;
  dead = booted.dead;
  slots = λ j. booted.slots j ∙ at j;
  last = λ k last. let less = booted.last k last in omega arith;
}
  where
    at : (j : ℕ) → (if nat_lt j n then boot_slot owners j else None) ≡ (if nat_lt j (suc n) then boot_slot owners j else None)
    at j =
        elim (cases_eq j n) [
          | inl same ↦ rw (same, le-ltb n n (omega arith), lt-ltb n (suc n) (omega arith)) (sym is)
          | inr other ↦ further owners n j other
        ]
booted_next owners n s (Some e) is booted = record {
  at_boot = booted.at_boot;
  runner = booted.runner;
  turn = booted.turn;
  time = refl;
  cursor = booted.cursor;
  dead = booted.dead;
  slots = at;
  last = λ k last. let same : n ≡ k = cc in omega arith;
}
  where
    at : (j : ℕ) → unwrap_or (if j == n then Some (Some (own_hold e)) else None) (s.slots j) ≡ (if nat_lt j (suc n) then boot_slot owners j else None)
    at j =
        elim (cases_eq j n) [
          | inl same ↦ rw (eq-eqb j n same, lt-ltb j (suc n) (omega arith), same) (sym is)
          | inr other ↦ rw (ne_eqb j n other) (booted.slots j ∙ further owners n j other)
        ]

booted_rows : (owners : List (Option ℕ)) (n : ℕ) → Booted owners n (state_after (own_rows owners n))
booted_rows owners zero = record {
  at_boot = refl;
  runner = refl;
  turn = refl;
  time = refl;
  cursor = refl;
  dead = refl;
  slots = λ j. rw (le-ltb j 0 (omega arith)) refl;
  last = λ k last. cc;
}
booted_rows owners (suc n) =
    subst (Booted owners (suc n)) (sym (state_append (own_rows owners n) (own_row n (boot_slot owners n)) first_state))
    (booted_next owners n (state_after (own_rows owners n)) (option_flatten (slice_get owners n)) refl (booted_rows owners n))

-- each of them fits
row_fits : (q end n : ℕ) (s : LedgerState) (o : Option ℕ) (later : List Row) → s.at_boot ≡ true → ((k : ℕ) → s.last_slot ≡ Some k → k < n)
    → are_fit q end s (own_row n (option_map own_hold o)) later ≡ true
row_fits q end n s None later boot last = refl
row_fits q end n s (Some e) later boot last =
    let r = row.Own 0 n (Some e) (Some e) in
    and_true (is_fit q end s r later) true
    (and_true (is_in_time q end s r) (is_fit_by_kind q s r later) (rw boot refl) (rw boot (and_true (is_behind s.last_slot n) (e == e) (behind s.last_slot refl) (eq-eqb e e refl)))) refl
  where
    behind : (o : Option ℕ) → s.last_slot ≡ o → is_behind o n ≡ true
    behind None is = refl
    behind (Some k) is = lt-ltb k n (last k is)

rows_fit : (q end : ℕ) (owners : List (Option ℕ)) (n : ℕ) (later : List Row) → are_fit q end first_state (own_rows owners n) later ≡ true
rows_fit q end owners zero later = refl
rows_fit q end owners (suc n) later =
    let booted = booted_rows owners n in
    fit_append q end first_state (own_rows owners n) (own_row n (boot_slot owners n)) later (rows_fit q end owners n (own_row n (boot_slot owners n) ++ later))
    (row_fits q end n (state_after (own_rows owners n)) (option_flatten (slice_get owners n)) later booted.at_boot booted.last)

-- pages that are kept change nothing of slices
pub core_kept : (e : ℕ) (programs : List ProgramValue) (b : Book) → core (with_all_kept e programs b) ≡ core b
core_kept e [] b = refl
core_kept e (p ∷ programs) b = core_kept (e + 1) programs (with_kept e p b)

beyond_get : (owners : List (Option ℕ)) (j : ℕ) → length owners ≤ j → slice_get owners j ≡ None
beyond_get [] zero past = refl
beyond_get [] (suc j) past = refl
beyond_get (x ∷ owners) zero past = absurd (omega arith)
beyond_get (x ∷ owners) (suc j) past = beyond_get owners j (omega arith)

beyond_slot : (owners : List (Option ℕ)) (j : ℕ) → length owners ≤ j → boot_slot owners j ≡ None
beyond_slot owners j past = ap (λ (o : Option (Option ℕ)). option_map own_hold (option_flatten o)) (beyond_get owners j past)

pub boot_told : (image : ImageValue) → IsAccepted image → IsTold image.quantum 0 0 0 (boot_world image)
boot_told image accepted = record {
  says = subst (λ (c : Core). Says q 0 0 s c) (sym same) (record {
    slots = λ i j. slot j i;
    cursor = inr (booted.cursor, omega (arith, accepted.slots_least));
    time = omega (arith, booted.time);
    runs = (booted.runner, booted.turn);
  });
  bound = subst (IsBound q) (sym same) (record {
    beyond = λ k past. beyond_slot owners k past;
    within = omega (arith, accepted.slots_least);
    most = accepted.slots_most;
    same = refl;
    least = omega (arith, accepted.quantum_least);
    modest = λ e. omega arith;
  });
  spares = λ e lives. ap (λ (f : ℕ → Bool). f e) booted.dead;
  fits = λ end later ends from. rows_fit q end owners (length owners) later;
}
  where
    q : ℕ
    q = image.quantum

    owners : List (Option ℕ)
    owners = image.slots

    s : LedgerState
    s = state_after (own_rows owners (length owners))

    same : core (boot_world image).book ≡ core (book_of_image image)
    same = core_kept 0 image.programs (book_of_image image)

    booted : Booted owners (length owners) s
    booted = booted_rows owners (length owners)

    slot : (j : ℕ) → s.slots j ≡ boot_slot owners j
    slot j = booted.slots j ∙ seen j
      where
        seen : (j : ℕ) → (if nat_lt j (length owners) then boot_slot owners j else None) ≡ boot_slot owners j
        seen j =
            elim (cases_lt j (length owners)) [
              | inl less ↦ rw (lt-ltb j (length owners) less) refl
              | inr past ↦ rw (le-ltb j (length owners) past) (sym (beyond_slot owners j past))
            ]
