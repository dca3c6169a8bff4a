use Rattle.std.proofs.Common.{◌≡◌, ◌≤◌, ◌-◌, All, ℕ, length, option_map}
use Rattle.std.specs.Option.{option_copied}
use Rattle.kernel_journal.specs.declared.row.Row.{Row}
use Rattle.ledger_text.specs.LedgerText.{ledger_seen}
use Rattle.ledger_text.specs.PlanText.{plan_seen}
use Rattle.kernel_journal.specs.RowTable.{IsRowWithin}
use Rattle.ledger_audit.specs.Answer.{first_fault}
use Rattle.ledger_audit.specs.Auditor.{IsCounted, state_of}
use Rattle.ledger_audit.specs.Gifts.{AreCounted, gifts_of}
use Rattle.ledger_audit.proofs.Scanning.{scan}
use Rattle.ledger_audit.proofs.pass.first_fault.Given as goal

-- what is left is judged as the whole is
abbrev pub invariant-rows : goal.invariant-rows
invariant-rows l =
    let plan = option_map plan_seen (option_copied l.plan) in
    record {
      rest : scan l.quantum (ledger_seen l.ledger) plan l.state.due (state_of l.state) (gifts_of l.gifts) l.left ≡ first_fault l.quantum plan (ledger_seen l.ledger);
      within : All (λ (x : ℕ × Row). IsRowWithin x.1) l.left;
      few : length l.left ≤ length l.ledger.rows.items;
      counts : IsCounted (length l.ledger.rows.items - length l.left) l.state;
      gifts : AreCounted (length l.ledger.rows.items - length l.left) l.gifts;
    }

abbrev pub decreases-rows : goal.decreases-rows
decreases-rows l = length l.left
