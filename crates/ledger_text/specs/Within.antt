-- Ledgers and plans whose numbers are within their limits.
use Rattle.std.specs.Prelude.{◌≡◌, ℕ, ◌≤◌, List, All, Ok, slice_index}
use Rattle.aegis_limits.specs.Limits.{most_run_ticks}
use Rattle.kernel_journal.specs.declared.row.Row.{Row}
use Rattle.kernel_journal.specs.RowTable.{IsRowWithin}
use Rattle.ledger_text.specs.LedgerText.{LedgerValue, ledger_read}
use Rattle.ledger_text.specs.Limits.{last_environment, most_share}
use Rattle.ledger_text.specs.PlanText.{PlanValue, plan_read}

abbrev pub IsTime : ℕ → Type 0
IsTime t = t ≤ most_run_ticks

abbrev pub IsEnv : ℕ → Type 0
IsEnv e = e ≤ last_environment

-- the environment of a sum
abbrev pub IsSumWithin : List ℕ → Type 0
IsSumWithin sum = IsEnv (slice_index sum 0)

pub record IsLedgerWithin (ledger : LedgerValue) : Type 0 where
  pub time : IsTime ledger.time
  pub rows : All (λ (x : ℕ × Row). IsRowWithin x.1) ledger.rows
  pub sums : All (λ (x : ℕ × List ℕ). IsSumWithin x.1) ledger.sums

-- the number of a client, and its share
pub record IsClientWithin (client : ℕ × ℕ) : Type 0 where
  pub number : IsEnv client.0
  pub least : 1 ≤ client.1
  pub most : client.1 ≤ most_share

pub record IsPlanWithin (plan : PlanValue) : Type 0 where
  pub from : IsEnv plan.from
  pub clients : All IsClientWithin plan.clients

-- what the readers give is within its limits
abbrev pub LedgersAreWithin : Type 0
LedgersAreWithin = (text : List ℕ) (ledger : LedgerValue) → ledger_read text ≡ Ok ledger → IsLedgerWithin ledger

abbrev pub PlansAreWithin : Type 0
PlansAreWithin = (text : List ℕ) (plan : PlanValue) → plan_read text ≡ Ok plan → IsPlanWithin plan
