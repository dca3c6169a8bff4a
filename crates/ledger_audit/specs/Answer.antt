-- The auditor's answer: whether a ledger keeps the rules of slices and excess, and a plan if there is one.
use Rattle.std.specs.Prelude.{ℕ, ◌+◌, List, [], ◌∷◌, Bool, ◌==◌, ◌&&◌, Option, None, Some, if◌then◌else◌, slice_index}
use Rattle.std.specs.Option.{option_or}
use Rattle.kernel_journal.specs.declared.row.Row.{Row}
use Rattle.ledger_audit.specs.LedgerState.{LedgerState, after_row, first_state, state_after}
use Rattle.ledger_audit.specs.RowRules.{is_end, is_fit}
use Rattle.ledger_text.specs.LedgerText.{LedgerValue}
use Rattle.ledger_text.specs.PlanText.{PlanValue}
use Rattle.ledger_audit.specs.declared.answer.AuditAnswer.{AuditAnswer}
use Rattle.ledger_audit.specs.declared.answer.AuditAnswer.TheVariants.{Clean, Broken}
use Rattle.ledger_audit.specs.StrideRule.{gifts_with, keeps_plan, no_gifts}

-- rows without the numbers of their lines
abbrev pub rows_of : List (ℕ × Row) → List Row
rows_of [] = []
rows_of (x ∷ rows) = x.1 ∷ rows_of rows

-- The line of the first row that doesn't fit, or doesn't keep to the plan, behind rows that tell of this state and of
-- so many gifts of the scheduler's.
abbrev pub first_unfit : ℕ → ℕ → Option PlanValue → LedgerState → (ℕ → ℕ) → List (ℕ × Row) → Option ℕ
first_unfit quantum end plan s gifts [] = None
first_unfit quantum end plan s gifts (x ∷ rows) =
    if is_fit quantum end s x.1 (rows_of rows) && keeps_plan plan gifts x.1
    then first_unfit quantum end plan (after_row x.1 s) (gifts_with plan x.1 gifts) rows
    else Some x.0

-- a sum is of this environment, and has how many of its rows are runs, pays and overs
abbrev pub is_sum : LedgerState → ℕ → List ℕ → Bool
is_sum s e sum =
    (slice_index sum 0 == e) && ((slice_index sum 1 == s.runs e)
    && ((slice_index sum 2 == s.pays e) && (slice_index sum 3 == s.overs e)))

-- the line of the first sum that doesn't count right, where they are of the environments from this one on
abbrev pub first_wrong_sum : LedgerState → ℕ → List (ℕ × List ℕ) → Option ℕ
first_wrong_sum s e [] = None
first_wrong_sum s e (x ∷ sums) = if is_sum s e x.1 then first_wrong_sum s (e + 1) sums else Some x.0

-- the line that says how the run ended
abbrev pub end_line : ℕ
end_line = 2

abbrev pub wrong_end : ℕ → LedgerValue → LedgerState → Option ℕ
wrong_end quantum ledger s = if is_end quantum ledger.idle ledger.time s then None else Some end_line

-- the line of the first fault: of the rows, then of the sums, then of the end
abbrev pub first_fault : ℕ → Option PlanValue → LedgerValue → Option ℕ
first_fault quantum plan ledger =
    let s = state_after (rows_of ledger.rows) in
    option_or (first_unfit quantum ledger.time plan first_state no_gifts ledger.rows)
    (option_or (first_wrong_sum s 0 ledger.sums) (wrong_end quantum ledger s))

abbrev pub answer_by : Option ℕ → AuditAnswer
answer_by None = Clean
answer_by (Some line) = Broken line

unfoldable pub audit_of : ℕ → Option PlanValue → LedgerValue → AuditAnswer
audit_of quantum plan ledger = answer_by (first_fault quantum plan ledger)
