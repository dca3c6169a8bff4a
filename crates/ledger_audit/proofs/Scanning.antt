-- The auditor's pass over plain data: the state carries how many rows are due, and not which.
use Rattle.std.proofs.Common.{arith, refl, sym, ◌∙◌, ap, subst, ◌≡◌, ◌≤◌, ◌+◌, ℕ, suc, List, [], ◌∷◌, drop, Bool, true, false, ◌&&◌, All, length, Option, None, Some}
use Rattle.std.specs.Prelude.{if◌then◌else◌, nat_lt, slice_index}
use Rattle.std.specs.Option.{option_or}
use Rattle.std.proofs.lemmas.Bool.{and_parts, lt-ltb}
use Rattle.std.proofs.lemmas.List.{length-drop}
use Rattle.world_model.specs.SlotCalls.{holds}
use Rattle.kernel_journal.specs.declared.row.Row.{Row}
use Rattle.kernel_journal.specs.declared.row.Row.TheVariants as row
use Rattle.ledger_audit.specs.LedgerState.{LedgerState, after_row, due_after, first_state, is_over_by, is_pay_by, is_run_by, more_if, state_from}
use Rattle.ledger_audit.specs.RowRules.{are_empty, are_passed, is_end_by, is_first, is_fit, is_fit_by_kind, is_gift, is_in_time, is_row, is_runners, stand_first}
use Rattle.ledger_text.specs.LedgerText.{LedgerValue}
use Rattle.ledger_text.specs.PlanText.{PlanValue}
use Rattle.kernel_journal.specs.RowTable.{IsRowWithin}
use Rattle.ledger_audit.specs.Answer.{end_line, first_fault, first_unfit, first_wrong_sum, rows_of, wrong_end}
use Rattle.ledger_audit.specs.declared.gifts.Gifts.{Gifts}
use Rattle.ledger_audit.specs.declared.state.State.{State}
use Rattle.ledger_audit.specs.Auditor.{IsCounted, due_left, fits, fits_by_kind, state_of, undue}
use Rattle.ledger_audit.specs.Gifts.{AreCounted, gifts_of}
use Rattle.ledger_audit.specs.StrideRule.{gifts_with, is_gift_to, keeps_plan, no_gifts}

-- what is left of the answer behind all rows
abbrev pub behind_rows : ℕ → LedgerValue → LedgerState → Option ℕ
behind_rows quantum ledger s = option_or (first_wrong_sum s 0 ledger.sums) (wrong_end quantum ledger s)

-- the answer of the rows that are left, behind those of which a state tells
abbrev pub scan : ℕ → LedgerValue → Option PlanValue → ℕ → LedgerState → (ℕ → ℕ) → List (ℕ × Row) → Option ℕ
scan quantum ledger plan left s gifts [] = behind_rows quantum ledger s
scan quantum ledger plan left s gifts (x ∷ rows) =
    if fits left quantum ledger.time s x.1 (rows_of rows) && keeps_plan plan gifts x.1
    then scan quantum ledger plan (due_left x.1 left s) (undue (after_row x.1 s)) (gifts_with plan x.1 gifts) rows
    else Some x.0

pub passed_undue : (s : LedgerState) (slot : ℕ) → are_passed (undue s) slot ≡ are_passed s slot
unfolding are_passed
passed_undue s slot = refl

pub empty_undue : (s : LedgerState) → are_empty (undue s) ≡ are_empty s
unfolding are_empty
empty_undue s = refl

-- the sums and the end don't ask what is due
sum_undue : (s : LedgerState) (e : ℕ) (sums : List (ℕ × List ℕ)) → first_wrong_sum (undue s) e sums ≡ first_wrong_sum s e sums
sum_undue s e [] = refl
sum_undue s e (x ∷ sums) = rw (sum_undue s (e + 1) sums) refl

end_undue : (q : ℕ) (ledger : LedgerValue) (s : LedgerState) → wrong_end q ledger (undue s) ≡ wrong_end q ledger s
end_undue q ledger s = by_runner s.runner
  where
    by_runner : (o : Option ℕ) → (if is_end_by q ledger.idle ledger.time (undue s) o then None else Some end_line) ≡ (if is_end_by q ledger.idle ledger.time s o then None else Some end_line)
    by_runner None = rw (empty_undue s) refl
    by_runner (Some e) = refl

-- a row that is due is the first of those that are
due_first : (due : List Row) (r : Row) (later : List Row) → stand_first due (r ∷ later) ≡ true → is_first due r ≡ nat_lt 0 (length due)
due_first [] r later stand = refl
due_first (x ∷ due) r later stand =
    (and_parts (is_row x r) (stand_first due later) stand).0 ∙ sym (lt-ltb 0 (length (x ∷ due)) (omega arith))

-- a row fits by how many are due as it does by which
kind_same : (q : ℕ) (s : LedgerState) (r : Row) (later : List Row) → stand_first s.due (r ∷ later) ≡ true
    → is_fit_by_kind q s r later ≡ fits_by_kind (length s.due) q (undue s) r later
kind_same q s (row.Own t slot owner holder) later stand = rw (due_first s.due (row.Own t slot owner holder) later stand) refl
kind_same q s (row.Run t slot e) later stand = rw (passed_undue s slot) refl
kind_same q s (row.Pay t slot e) later stand = rw (passed_undue s slot) refl
kind_same q s r later stand = refl

-- behind a row that fits, those that are due then stand first
stand_next : (q : ℕ) (s : LedgerState) (r : Row) (later : List Row) → stand_first s.due (r ∷ later) ≡ true
    → is_fit_by_kind q s r later ≡ true → stand_first (due_after r s) later ≡ true
stand_next q s (row.Own t slot owner holder) later stand fit = rest s.due stand
  where
    rest : (due : List Row) → stand_first due (row.Own t slot owner holder ∷ later) ≡ true → stand_first (drop 1 due) later ≡ true
    rest [] stand = refl
    rest (x ∷ due) stand = (and_parts (is_row x (row.Own t slot owner holder)) (stand_first due later) stand).1
stand_next q s (row.Sync t slot from to) later stand fit =
    (and_parts (holds from (s.slots slot)) (stand_first (due_after (row.Sync t slot from to) s) later)
    (and_parts (is_gift s slot from to) (holds from (s.slots slot) && stand_first (due_after (row.Sync t slot from to) s) later) fit).1).1
stand_next q s (row.Dead t slot e) later stand fit =
    (and_parts (is_runners s slot e) (stand_first (due_after (row.Dead t slot e) s) later) fit).1
stand_next q s r later stand fit = refl

-- how many are due then
left_next : (r : Row) (s : LedgerState) → due_left r (length s.due) (undue s) ≡ length (due_after r s)
left_next (row.Own t slot owner holder) s = sym (length-drop 1 s.due)
left_next r s = refl

-- The pass finds what the rules say, where the rows that are due stand first.
pub scan_finds : (quantum : ℕ) (ledger : LedgerValue) (plan : Option PlanValue) (rows : List (ℕ × Row)) (s : LedgerState) (gifts : ℕ → ℕ)
    → stand_first s.due (rows_of rows) ≡ true
    → scan quantum ledger plan (length s.due) (undue s) gifts rows
    ≡ option_or (first_unfit quantum ledger.time plan s gifts rows) (behind_rows quantum ledger (state_from s (rows_of rows)))
scan_finds quantum ledger plan [] s gifts stand = rw (sum_undue s 0 ledger.sums, end_undue quantum ledger s) refl
scan_finds quantum ledger plan (x ∷ rows) s gifts stand =
    let later = rows_of rows in
    let fit = is_fit quantum ledger.time s x.1 later in
    let same : fits (length s.due) quantum ledger.time (undue s) x.1 later ≡ fit =
    ap (λ (b : Bool). is_in_time quantum ledger.time s x.1 && b) (sym (kind_same quantum s x.1 later stand)) in
    let next = scan_finds quantum ledger plan rows (after_row x.1 s) (gifts_with plan x.1 gifts) in
    rw same (step (fit && keeps_plan plan gifts x.1) _ _ _ x.0 (λ is. rw (left_next x.1 s) (next (stands is))))
  where
    step : (b : Bool) (a c d : Option ℕ) (n : ℕ) → (b ≡ true → a ≡ option_or c d) → (if b then a else Some n) ≡ option_or (if b then c else Some n) d
    step true a c d n same = same refl
    step false a c d n same = refl

    stands : (is_fit quantum ledger.time s x.1 (rows_of rows) && keeps_plan plan gifts x.1) ≡ true → stand_first (due_after x.1 s) (rows_of rows) ≡ true
    stands is =
        let later = rows_of rows in
        let fit = (and_parts (is_fit quantum ledger.time s x.1 later) (keeps_plan plan gifts x.1) is).0 in
        let kind = (and_parts (is_in_time quantum ledger.time s x.1) (is_fit_by_kind quantum s x.1 later) fit).1 in
        stand_next quantum s x.1 later stand kind

-- The whole pass.
pub scan_all : (quantum : ℕ) (ledger : LedgerValue) (plan : Option PlanValue) (left : ℕ) (s : LedgerState) (gifts : ℕ → ℕ) (xs : List (ℕ × Row))
    → left ≡ 0 → s ≡ first_state → gifts ≡ no_gifts → xs ≡ ledger.rows → scan quantum ledger plan left s gifts xs ≡ first_fault quantum plan ledger
scan_all quantum ledger plan left s gifts xs none state given is =
    rw (none, state, given, is) (scan_finds quantum ledger plan ledger.rows first_state no_gifts refl)

-- the first of rows that are within their limits, and the others
pub first_within : (xs rows : List (ℕ × Row)) (x : ℕ × Row) → xs ≡ x ∷ rows → All (λ (y : ℕ × Row). IsRowWithin y.1) xs → IsRowWithin x.1
first_within xs rows x is all =
    let P : List (ℕ × Row) → Type 0 = λ ys. All (λ (y : ℕ × Row). IsRowWithin y.1) ys in
    (subst P is all) 0 x (omega arith)

pub rest_within : (xs rows : List (ℕ × Row)) (x : ℕ × Row) → xs ≡ x ∷ rows → All (λ (y : ℕ × Row). IsRowWithin y.1) xs
    → All (λ (y : ℕ × Row). IsRowWithin y.1) rows
rest_within xs rows x is all k d less =
    let P : List (ℕ × Row) → Type 0 = λ ys. All (λ (y : ℕ × Row). IsRowWithin y.1) ys in
    (subst P is all) (suc k) d (omega (arith, less))

-- A row that fits and keeps to the plan.
pub scan_next : (q : ℕ) (ledger : LedgerValue) (plan : Option PlanValue) (left left-after : ℕ) (s s-after : LedgerState) (gifts gifts-after : ℕ → ℕ)
    (xs rows : List (ℕ × Row)) (x : ℕ × Row) → xs ≡ x ∷ rows → fits left q ledger.time s x.1 (rows_of rows) ≡ true → keeps_plan plan gifts x.1 ≡ true
    → left-after ≡ due_left x.1 left s → s-after ≡ undue (after_row x.1 s) → gifts-after ≡ gifts_with plan x.1 gifts
    → scan q ledger plan left-after s-after gifts-after rows ≡ scan q ledger plan left s gifts xs
scan_next q ledger plan left left-after s s-after gifts gifts-after xs rows x is fit keep due state given =
    rw (is, fit, keep, due, state, given) refl

-- No count rises by more than one.
count_next : (b : Bool) (n m : ℕ) → n ≤ m → more_if b n ≤ m + 1
count_next true n m less = omega (arith, less)
count_next false n m less = omega (arith, less)

pub counted_next : (a b : State) (r : Row) (m k : ℕ) → state_of b ≡ undue (after_row r (state_of a)) → IsCounted m a → m + 1 ≤ k → IsCounted k b
counted_next a b r m k is before more = record {
  runs = λ e. along (λ (s : LedgerState). s.runs e) (is_run_by e r) (slice_index a.runs e) (before.runs e) refl;
  pays = λ e. along (λ (s : LedgerState). s.pays e) (is_pay_by e r) (slice_index a.pays e) (before.pays e) refl;
  overs = λ e. along (λ (s : LedgerState). s.overs e) (is_over_by e r) (slice_index a.overs e) (before.overs e) refl;
}
  where
    along : (part : LedgerState → ℕ) (c : Bool) (n : ℕ) → n ≤ m → part (undue (after_row r (state_of a))) ≡ more_if c n → part (state_of b) ≤ k
    along part c n less same =
        let here : part (state_of b) ≡ more_if c n = ap part is ∙ same in
        let top : more_if c n ≤ m + 1 = count_next c n m less in
        omega (arith, here, top, more)

pub gifts_next : (plan : Option PlanValue) (a b : Gifts) (r : Row) (m k : ℕ) → gifts_of b ≡ gifts_with plan r (gifts_of a) → AreCounted m a → m + 1 ≤ k → AreCounted k b
gifts_next plan a b r m k is before more e =
    let here : slice_index b.counts e ≡ more_if (is_gift_to plan e r) (slice_index a.counts e) = ap (λ (f : ℕ → ℕ). f e) is in
    let top : more_if (is_gift_to plan e r) (slice_index a.counts e) ≤ m + 1 = count_next (is_gift_to plan e r) (slice_index a.counts e) m (before e) in
    omega (arith, here, top, more)

pub counted_more : (a : State) (m k : ℕ) → IsCounted m a → m ≤ k → IsCounted k a
counted_more a m k counts more = record {
  runs = λ e. let here = counts.runs e in omega (arith, here, more);
  pays = λ e. let here = counts.pays e in omega (arith, here, more);
  overs = λ e. let here = counts.overs e in omega (arith, here, more);
}
