-- The strict audit's answer: whether a ledger keeps both tables of rules.
use Rattle.std.specs.Prelude.{◌≡◌, ℕ, List, [], ◌∷◌, true, nat_lt, if◌then◌else◌, drop, length, Option, None, Some}
use Rattle.std.specs.Option.{option_or}
use Rattle.kernel_journal.specs.declared.row.Row.{Row}
use Rattle.ledger_text.specs.LedgerText.{LedgerValue}
use Rattle.ledger_text.specs.PlanText.{PlanValue}
use Rattle.ledger_audit.specs.declared.answer.AuditAnswer.{AuditAnswer}
use Rattle.ledger_audit.specs.declared.answer.AuditAnswer.TheVariants.{Clean}
use Rattle.ledger_audit.specs.Answer.{answer_by, first_fault, rows_of}
use Rattle.ledger_audit.specs.Laws.{KeepsRules}
use Rattle.ledger_audit.specs.StrictRules.{RequestState, are_strict, is_strict, no_requests, requests_after}

-- the line of the first row that breaks a rule of the second table
abbrev pub first_loose : ℕ → RequestState → List (ℕ × Row) → Option ℕ
first_loose n q [] = None
first_loose n q (x ∷ rows) = if is_strict n q x.1 then first_loose n (requests_after x.1 q) rows else Some x.0

-- Each environment has a sum. The line of the first sum too many; or where one is missing, of the line that stands in its
-- place.
abbrev pub first_line : List (ℕ × List ℕ) → Option ℕ
first_line [] = None
first_line (x ∷ sums) = Some x.0

abbrev pub wrong_count : ℕ → ℕ → List (ℕ × List ℕ) → Option ℕ
wrong_count n done sums = if nat_lt (length sums) n then Some done else first_line (drop n sums)

-- the line of the first fault by the second table: of the rows, then of the sums
abbrev pub first_strict_fault : LedgerValue → Option ℕ
first_strict_fault ledger =
    let n = length ledger.environments in
    option_or (first_loose n no_requests ledger.rows) (wrong_count n ledger.done ledger.sums)

-- a ledger is tested by the first table, and if it keeps that, by the second
unfoldable pub strict_audit_of : ℕ → Option PlanValue → LedgerValue → AuditAnswer
strict_audit_of quantum plan ledger = answer_by (option_or (first_fault quantum plan ledger) (first_strict_fault ledger))

-- a ledger in which each row keeps the second table, and each environment has a sum
pub record KeepsStrictRules (ledger : LedgerValue) : Type 0 where
  pub rows : are_strict (length ledger.environments) no_requests (rows_of ledger.rows) ≡ true
  pub sums : length ledger.sums ≡ length ledger.environments

abbrev pub CleanKeepsBoth : Type 0
CleanKeepsBoth =
    (quantum : ℕ) (plan : Option PlanValue) (ledger : LedgerValue) → strict_audit_of quantum plan ledger ≡ Clean →
    KeepsRules quantum plan ledger × KeepsStrictRules ledger

abbrev pub BothKeptIsClean : Type 0
BothKeptIsClean =
    (quantum : ℕ) (plan : Option PlanValue) (ledger : LedgerValue) → KeepsRules quantum plan ledger →
    KeepsStrictRules ledger → strict_audit_of quantum plan ledger ≡ Clean
