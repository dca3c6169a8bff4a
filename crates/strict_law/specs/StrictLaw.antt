-- The rows of every run keep the second table of the ledger's rules.
use Rattle.std.specs.Prelude.{◌≡◌, ℕ, ◌≤◌, length, true, None, Ok}
use Rattle.aegis_limits.specs.Limits.{most_run_ticks}
use Rattle.boot_image.specs.Accepted.{IsAccepted}
use Rattle.run_model.specs.Run.{System, world_after}
use Rattle.ledger_text.specs.LedgerText.{LedgerValue, ledger_read}
use Rattle.ledger_audit.specs.declared.answer.AuditAnswer.TheVariants.{Clean}
use Rattle.ledger_audit.specs.StrictAnswer.{strict_audit_of}
use Rattle.ledger_audit.specs.StrictRules.{are_strict, no_requests}
use Rattle.report_law.specs.ReportLaw.{AreEventsWithin, written}

-- for every image within its limits, every schedule of events within theirs, and every limit that a run may have
abbrev pub RowsAreStrict : Type 0
RowsAreStrict =
    (system : System) (limit : ℕ) → IsAccepted system.image → AreEventsWithin system.schedule → limit ≤ most_run_ticks
    → are_strict (length system.image.programs) no_requests (world_after system limit).rows ≡ true

-- The bytes are read as a ledger which the strict audit finds clean with the image's quantum, and which has as many rows as
-- the run.
pub record IsFoundStrictlyClean (system : System) (limit : ℕ) : Type 0 where
  pub ledger : LedgerValue
  pub read : ledger_read (written system limit) ≡ Ok ledger
  pub clean : strict_audit_of system.image.quantum None ledger ≡ Clean
  pub rows : length ledger.rows ≡ length (world_after system limit).rows

abbrev pub ReportsAreStrict : Type 0
ReportsAreStrict =
    (system : System) (limit : ℕ) → IsAccepted system.image → AreEventsWithin system.schedule → limit ≤ most_run_ticks
    → IsFoundStrictlyClean system limit
