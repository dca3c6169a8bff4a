-- That no fault is found is that the rules are kept.
use Rattle.std.proofs.Common.{refl, sym, ◌∙◌, ap, ◌≡◌, ℕ, List, [], ◌∷◌, ◌++◌, Bool, true, false, ◌&&◌, Option, None, Some}
use Rattle.std.specs.Prelude.{if◌then◌else◌}
use Rattle.std.specs.Option.{option_or}
use Rattle.std.proofs.lemmas.Bool.{and_from, and_parts}
use Rattle.std.proofs.lemmas.List.{append-nil}
use Rattle.kernel_journal.specs.declared.row.Row.{Row}
use Rattle.ledger_audit.specs.LedgerState.{LedgerState, after_row, first_state, state_after}
use Rattle.ledger_audit.specs.RowRules.{are_fit, is_end, is_fit}
use Rattle.ledger_text.specs.PlanText.{PlanValue}
use Rattle.ledger_audit.specs.declared.answer.AuditAnswer.TheVariants.{Clean}
use Rattle.ledger_audit.specs.Answer.{answer_by, audit_of, end_line, first_fault, first_unfit, first_wrong_sum, rows_of, wrong_end}
use Rattle.ledger_audit.specs.Laws.{CleanKeepsRules, KeptIsClean, keep_plan}
use Rattle.ledger_audit.specs.StrideRule.{gifts_with, keeps_plan, no_gifts}

-- a test that stops at a fault
pub passed : (b : Bool) (n : ℕ) (rest : Option ℕ) → (if b then rest else Some n) ≡ None → (b ≡ true) × (rest ≡ None)
passed true n rest none = (refl, none)
passed false n rest none = cc

pub none_first : (a b : Option ℕ) → option_or a b ≡ None → (a ≡ None) × (b ≡ None)
none_first None b none = (refl, none)
none_first (Some n) b none = cc

pub clean_none : (o : Option ℕ) → answer_by o ≡ Clean → o ≡ None
clean_none None is = refl
clean_none (Some n) is = cc

-- the next row, where the later ones are all that is behind it
last_rows : (q end : ℕ) (s : LedgerState) (r : Row) (rows : List Row) → is_fit q end s r (rows ++ []) ≡ is_fit q end s r rows
last_rows q end s r rows = ap (is_fit q end s r) (append-nil rows)

all_fit : (q end : ℕ) (plan : Option PlanValue) (s : LedgerState) (gifts : ℕ → ℕ) (rows : List (ℕ × Row)) → first_unfit q end plan s gifts rows ≡ None
    → (are_fit q end s (rows_of rows) [] ≡ true) × (keep_plan plan gifts (rows_of rows) ≡ true)
all_fit q end plan s gifts [] none = (refl, refl)
all_fit q end plan s gifts (x ∷ rows) none =
    let fit = is_fit q end s x.1 (rows_of rows) in
    let keep = keeps_plan plan gifts x.1 in
    let here = passed (fit && keep) x.0 (first_unfit q end plan (after_row x.1 s) (gifts_with plan x.1 gifts) rows) none in
    let both = and_parts fit keep here.0 in
    let rest = all_fit q end plan (after_row x.1 s) (gifts_with plan x.1 gifts) rows here.1 in (
      and_from (is_fit q end s x.1 (rows_of rows ++ [])) (are_fit q end (after_row x.1 s) (rows_of rows) []) (last_rows q end s x.1 (rows_of rows) ∙ both.0) rest.0,
      and_from keep (keep_plan plan (gifts_with plan x.1 gifts) (rows_of rows)) both.1 rest.1,
    )

none_unfit : (q end : ℕ) (plan : Option PlanValue) (s : LedgerState) (gifts : ℕ → ℕ) (rows : List (ℕ × Row)) → are_fit q end s (rows_of rows) [] ≡ true
    → keep_plan plan gifts (rows_of rows) ≡ true → first_unfit q end plan s gifts rows ≡ None
none_unfit q end plan s gifts [] fit keep = refl
none_unfit q end plan s gifts (x ∷ rows) fit keep =
    let fits = and_parts (is_fit q end s x.1 (rows_of rows ++ [])) (are_fit q end (after_row x.1 s) (rows_of rows) []) fit in
    let keeps = and_parts (keeps_plan plan gifts x.1) (keep_plan plan (gifts_with plan x.1 gifts) (rows_of rows)) keep in
    let here : is_fit q end s x.1 (rows_of rows) ≡ true = sym (last_rows q end s x.1 (rows_of rows)) ∙ fits.0 in
    let first : keeps_plan plan gifts x.1 ≡ true = keeps.0 in
    rw (here, first) (none_unfit q end plan (after_row x.1 s) (gifts_with plan x.1 gifts) rows fits.1 keeps.1)

pub clean_keeps : CleanKeepsRules
unfolding audit_of
clean_keeps q plan ledger clean =
    let s = state_after (rows_of ledger.rows) in
    let found = none_first (first_unfit q ledger.time plan first_state no_gifts ledger.rows) (option_or (first_wrong_sum s 0 ledger.sums) (wrong_end q ledger s))
    (clean_none (first_fault q plan ledger) clean) in
    let behind = none_first (first_wrong_sum s 0 ledger.sums) (wrong_end q ledger s) found.1 in
    let rows = all_fit q ledger.time plan first_state no_gifts ledger.rows found.0 in
    record { rows = rows.0; plan = rows.1; sums = behind.0; end = (passed (is_end q ledger.idle ledger.time s) end_line None behind.1).0 }

pub kept_clean : KeptIsClean
unfolding audit_of
kept_clean q plan ledger kept =
    let s = state_after (rows_of ledger.rows) in
    let rows = none_unfit q ledger.time plan first_state no_gifts ledger.rows kept.rows kept.plan in
    let sums = kept.sums in
    let end = kept.end in
    rw (rows, sums, end) refl
