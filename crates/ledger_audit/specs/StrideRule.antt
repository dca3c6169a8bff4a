-- The stride rule: to whom a scheduler with a plan hands its next slice on.
use Rattle.std.specs.Prelude.{ℕ, ◌*◌, ◌/◌, List, Bool, true, false, not, ◌==◌, ◌&&◌, ◌||◌, nat_lt, nat_le, Option, Some}
use Rattle.std.specs.List.{list_all, list_any}
use Rattle.kernel_journal.specs.declared.row.Row.{Row}
use Rattle.kernel_journal.specs.declared.row.Row.TheVariants as row
use Rattle.ledger_audit.specs.LedgerState.{more_if}
use Rattle.ledger_text.specs.PlanText.{PlanValue}

-- every share divides this
abbrev pub stride_unit : ℕ
stride_unit = 27720

-- how far a client has come: a gift brings it the further, the smaller its share
abbrev pub pass_of : (ℕ → ℕ) → ℕ × ℕ → ℕ
pass_of gifts client = gifts client.0 * stride_unit / client.1

-- a client that hasn't come as far as another, or just as far with no higher number
abbrev pub is_before : (ℕ → ℕ) → ℕ × ℕ → ℕ × ℕ → Bool
is_before gifts a b =
    nat_lt (pass_of gifts a) (pass_of gifts b) || ((pass_of gifts a == pass_of gifts b) && nat_le a.0 b.0)

-- a client that is before all others
abbrev pub is_least : (ℕ → ℕ) → List (ℕ × ℕ) → ℕ × ℕ → Bool
is_least gifts clients client = list_all (is_before gifts client) clients

-- whether it is the number of the client whose turn it is
abbrev pub is_client_next : (ℕ → ℕ) → List (ℕ × ℕ) → ℕ → Bool
is_client_next gifts clients to =
    list_any (λ (client : ℕ × ℕ). (client.0 == to) && is_least gifts clients client) clients

-- whether a row keeps to the plan behind so many gifts: it is no gift of the scheduler's, or goes to the client whose
-- turn it is
abbrev pub keeps_plan : Option PlanValue → (ℕ → ℕ) → Row → Bool
keeps_plan (Some plan) gifts (row.Give t slot from to) =
    not (from == plan.from) || is_client_next gifts plan.clients to
keeps_plan plan gifts r = true

-- a slice that the scheduler hands on to an environment
abbrev pub is_gift_to : Option PlanValue → ℕ → Row → Bool
is_gift_to (Some plan) e (row.Give t slot from to) = (from == plan.from) && (to == e)
is_gift_to plan e r = false

-- how many such gifts each environment has had, with one row more
abbrev pub gifts_with : Option PlanValue → Row → (ℕ → ℕ) → ℕ → ℕ
gifts_with plan r gifts e = more_if (is_gift_to plan e r) (gifts e)

abbrev pub no_gifts : ℕ → ℕ
no_gifts e = 0
