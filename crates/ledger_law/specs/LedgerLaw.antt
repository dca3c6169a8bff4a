-- The rows of every run keep the rules of slices and excess.
use Rattle.std.specs.Prelude.{◌≡◌, ℕ, [], Bool, true, false, None}
use Rattle.boot_image.specs.Accepted.{IsAccepted}
use Rattle.kernel_journal.specs.declared.row.RunEnd.{RunEnd}
use Rattle.kernel_journal.specs.declared.row.RunEnd.TheVariants as end
use Rattle.run_model.specs.Run.{System, end_of_run, world_after}
use Rattle.ledger_audit.specs.LedgerState.{first_state, state_after}
use Rattle.ledger_audit.specs.RowRules.{are_fit, is_end}
use Rattle.ledger_text.specs.LedgerText.{LedgerValue}
use Rattle.ledger_audit.specs.declared.answer.AuditAnswer.TheVariants.{Clean}
use Rattle.ledger_audit.specs.Answer.{audit_of, first_wrong_sum, rows_of}

-- for every image within its limits, every schedule and every number of ticks
abbrev pub RowsFit : Type 0
RowsFit = (system : System) (t : ℕ) → IsAccepted system.image →
    let w = world_after system t in are_fit system.image.quantum w.book.time first_state w.rows [] ≡ true

-- and so does the line that says how the run ended
abbrev pub says_idle : RunEnd → Bool
says_idle end.Limit = false
says_idle end.Idle = true

abbrev pub EndFits : Type 0
EndFits = (system : System) (limit : ℕ) → IsAccepted system.image →
    let w = world_after system limit in
    is_end system.image.quantum (says_idle (end_of_run w limit)) w.book.time (state_after w.rows) ≡ true

-- a ledger of a run: its rows, how it ended and when, and sums that count right
pub record IsOfRun (system : System) (limit : ℕ) (ledger : LedgerValue) : Type 0 where
  pub rows : rows_of ledger.rows ≡ (world_after system limit).rows
  pub time : ledger.time ≡ (world_after system limit).book.time
  pub idle : ledger.idle ≡ says_idle (end_of_run (world_after system limit) limit)
  pub sums : first_wrong_sum (state_after (rows_of ledger.rows)) 0 ledger.sums ≡ None

-- and with the image's quantum the auditor finds it clean
abbrev pub RunsAreClean : Type 0
RunsAreClean =
    (system : System) (limit : ℕ) (ledger : LedgerValue) → IsAccepted system.image → IsOfRun system limit ledger →
    audit_of system.image.quantum None ledger ≡ Clean
