-- A refill by which a step finds all its rows that didn't is that of its miss.
use Rattle.std.proofs.Common.{◌≡◌, ◌<◌, ℕ, zero, suc, List, [], ◌∷◌, Bool, true, false, Option, Some, None, refl, sym, ◌∙◌, ap, rules}
use Rattle.std.specs.Prelude.{◌==◌, ◌||◌, if◌then◌else◌, find, is_none, slice_set}
use Rattle.std.proofs.lemmas.Bool.{and_parts, eqb-true}
use Rattle.aegis_limits.specs.Limits.{environment_numbers}
use Rattle.env_frames.specs.declared.mapping.Mapping.{Mapping}
use Rattle.r3k_tlb.specs.declared.row.Row.{Row}
use Rattle.r3k_tlb.specs.Row.{fits, is_global, row_pid, row_vpn}
use Rattle.r3k_tlb.specs.Rows.{with_row_at}
use Rattle.tlb_model.specs.Cache.{row_for}
use Rattle.tlb_model.specs.Lookups.{first_missing, has_no_row}
use Rattle.tlb_model.proofs.Fitting.{row_words}
use Rattle.tlb_laws.specs.Laws.{RightRefill}

-- what is found passes its test, and fails each test that finds nothing
found_holds : (p : ℕ → Bool) (xs : List ℕ) (v : ℕ) → find p xs ≡ Some v → p v ≡ true
found_holds p [] v is = search rules
found_holds p (x ∷ xs) v is = by_test (p x) refl is (found_holds p xs v)
  where
    by_test : (b : Bool) → p x ≡ b → (if b then Some x else find p xs) ≡ Some v → (find p xs ≡ Some v → p v ≡ true) → p v ≡ true
    by_test true here is behind = let same : x ≡ v = cc in ap p (sym same) ∙ here
    by_test false here is behind = behind is

fails_other : (p q : ℕ → Bool) (xs : List ℕ) (v : ℕ) → find p xs ≡ Some v → find q xs ≡ None → q v ≡ false
fails_other p q [] v is none = search rules
fails_other p q (x ∷ xs) v is none = by_tests (p x) (q x) refl is none (fails_other p q xs v)
  where
    by_tests : (b c : Bool) → q x ≡ c → (if b then Some x else find p xs) ≡ Some v → (if c then Some x else find q xs) ≡ None
        → (find p xs ≡ Some v → find q xs ≡ None → q v ≡ false) → q v ≡ false
    by_tests b true here is none behind = search rules
    by_tests true false here is none behind = let same : x ≡ v = cc in ap q (sym same) ∙ here
    by_tests false false here is none behind = behind is none

-- where nothing was found but behind one write, what was written is found
found_written : (p : Row → Bool) (rows : List Row) (i : ℕ) (row : Row) → is_none (find p rows) ≡ true → is_none (find p (slice_set rows i row)) ≡ false → p row ≡ true
found_written p [] i row none some = search rules
found_written p (x ∷ rows) zero row none some = by_tests (p row) (p x) refl none some
  where
    by_tests : (b c : Bool) → p row ≡ b → is_none (if c then Some x else find p rows) ≡ true → is_none (if b then Some row else find p rows) ≡ false → p row ≡ true
    by_tests true c here none some = here
    by_tests false true here none some = search rules
    by_tests false false here none some = search rules
found_written p (x ∷ rows) (suc i) row none some = by_test (p x) none some (found_written p rows i row)
  where
    by_test : (c : Bool) → is_none (if c then Some x else find p rows) ≡ true → is_none (if c then Some x else find p (slice_set rows i row)) ≡ false
        → (is_none (find p rows) ≡ true → is_none (find p (slice_set rows i row)) ≡ false → p row ≡ true) → p row ≡ true
    by_test true none some behind = search rules
    by_test false none some behind = behind none some

number_of : (e v : ℕ) (m : Mapping) → e < environment_numbers → fits v e (row_for e m) ≡ true → m.vpn ≡ v
number_of e v m small holds =
    let words = row_words e m small in
    let at = and_parts (row_vpn (row_for e m) == v) (row_pid (row_for e m) == e || is_global (row_for e m)) holds in
    sym words.vpn ∙ eqb-true (row_vpn (row_for e m)) v at.0

pub right_refill : RightRefill
right_refill e vpns rows i m small missed found = by_miss (first_missing rows e vpns) refl
  where
    by_miss : (o : Option ℕ) → first_missing rows e vpns ≡ o → first_missing rows e vpns ≡ Some m.vpn
    by_miss None is = absurd (missed is)
    by_miss (Some v) is =
        let gone = found_holds (has_no_row rows e) vpns v is in
        let there = fails_other (has_no_row rows e) (has_no_row (with_row_at rows i (row_for e m)) e) vpns v is found in
        let at = number_of e v m small (found_written (fits v e) rows i (row_for e m) gone there) in
        is ∙ ap Some (sym at)
