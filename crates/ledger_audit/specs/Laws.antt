-- What the auditor's yes is worth: it is given exactly where a ledger keeps the rules.
use Rattle.std.specs.Prelude.{◌≡◌, ◌≤◌, ◌%◌, ℕ, List, [], ◌∷◌, Bool, true, ◌&&◌, Option, None}
use Rattle.kernel_journal.specs.declared.row.Row.{Row}
use Rattle.ledger_audit.specs.LedgerState.{first_state, state_after}
use Rattle.ledger_audit.specs.RowRules.{are_fit, is_end}
use Rattle.ledger_text.specs.LedgerText.{LedgerValue}
use Rattle.ledger_text.specs.Limits.{most_share}
use Rattle.ledger_text.specs.PlanText.{PlanValue}
use Rattle.ledger_audit.specs.declared.answer.AuditAnswer.TheVariants.{Clean}
use Rattle.ledger_audit.specs.Answer.{audit_of, first_wrong_sum, rows_of}
use Rattle.ledger_audit.specs.StrideRule.{gifts_with, keeps_plan, no_gifts, stride_unit}

-- rows that all keep to a plan, behind so many gifts
abbrev pub keep_plan : Option PlanValue → (ℕ → ℕ) → List Row → Bool
keep_plan plan gifts [] = true
keep_plan plan gifts (r ∷ rows) = keeps_plan plan gifts r && keep_plan plan (gifts_with plan r gifts) rows

-- a ledger in which each row fits and keeps to the plan, each sum counts right, and the end fits
pub record KeepsRules (quantum : ℕ) (rule : Option PlanValue) (ledger : LedgerValue) : Type 0 where
  pub rows : are_fit quantum ledger.time first_state (rows_of ledger.rows) [] ≡ true
  pub plan : keep_plan rule no_gifts (rows_of ledger.rows) ≡ true
  pub sums : first_wrong_sum (state_after (rows_of ledger.rows)) 0 ledger.sums ≡ None
  pub end : is_end quantum ledger.idle ledger.time (state_after (rows_of ledger.rows)) ≡ true

abbrev pub CleanKeepsRules : Type 0
CleanKeepsRules =
    (quantum : ℕ) (plan : Option PlanValue) (ledger : LedgerValue) → audit_of quantum plan ledger ≡ Clean →
    KeepsRules quantum plan ledger

abbrev pub KeptIsClean : Type 0
KeptIsClean =
    (quantum : ℕ) (plan : Option PlanValue) (ledger : LedgerValue) → KeepsRules quantum plan ledger →
    audit_of quantum plan ledger ≡ Clean

abbrev pub SharesDivideUnit : Type 0
SharesDivideUnit = (share : ℕ) → 1 ≤ share → share ≤ most_share → stride_unit % share ≡ 0
