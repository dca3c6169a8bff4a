-- What a run writes is read as the run's ledger.
use Rattle.std.specs.Prelude.{◌≡◌, ℕ, ◌≤◌, List, [], ◌∷◌, count_by, length, true, None, Ok}
use Rattle.std.specs.List.{AllByRecursion, list_all}
use Rattle.aegis_limits.specs.Limits.{most_run_ticks}
use Rattle.boot_image.specs.Accepted.{IsAccepted}
use Rattle.external_event.specs.EventValue.{is_occurrence}
use Rattle.kernel_journal.specs.declared.row.Row.{Row}
use Rattle.world_model.specs.Event.{Schedule}
use Rattle.world_model.specs.Table.{listed}
use Rattle.run_model.specs.Excess.{is_over_of, is_pay_of, is_run_of}
use Rattle.run_model.specs.Run.{System, end_of_run, world_after}
use Rattle.run_report.specs.Report.{report_text}
use Rattle.ledger_text.specs.LedgerText.{LedgerValue, ledger_read}
use Rattle.ledger_audit.specs.declared.answer.AuditAnswer.TheVariants.{Clean}
use Rattle.ledger_audit.specs.Answer.{audit_of}
use Rattle.ledger_audit.specs.StrictRules.{are_there}
use Rattle.ledger_law.specs.LedgerLaw.{IsOfRun}

-- what happens in each tick is within its limits
abbrev pub AreEventsWithin : Schedule → Type 0
AreEventsWithin schedule = (t : ℕ) → list_all is_occurrence (schedule t) ≡ true

-- the bytes that a run of so many ticks at most writes
abbrev pub written : System → ℕ → List ℕ
written system limit = let w = world_after system limit in report_text w (end_of_run w limit)

-- an environment, and how many of these rows are its runs, pays and overs
abbrev pub tally_of : List Row → ℕ → List ℕ
tally_of rows e = e ∷ count_by (is_run_of e) rows ∷ count_by (is_pay_of e) rows ∷ count_by (is_over_of e) rows ∷ []

-- things without the numbers of their lines
abbrev pub values_of : {X : Type 0} → List (ℕ × X) → List X
values_of [] = []
values_of (x ∷ xs) = x.1 ∷ values_of xs

-- The bytes have no fault, and are read as a ledger of the run, with the lines and a sum of each environment of the image;
-- and its rows name no others.
pub record IsRead (system : System) (limit : ℕ) : Type 0 where
  pub ledger : LedgerValue
  pub read : ledger_read (written system limit) ≡ Ok ledger
  pub of_run : IsOfRun system limit ledger
  pub sums : let w = world_after system limit in
      values_of ledger.sums ≡ listed (tally_of w.rows) (length system.image.programs)
  pub environments : length ledger.environments ≡ length system.image.programs
  pub named : AllByRecursion (λ (r : Row). are_there (length system.image.programs) r ≡ true) (world_after system limit).rows

-- So it is for every image within its limits, every schedule of events within theirs, and every limit that a run may have.
abbrev pub ReportsAreRead : Type 0
ReportsAreRead =
    (system : System) (limit : ℕ) → IsAccepted system.image → AreEventsWithin system.schedule → limit ≤ most_run_ticks
    → IsRead system limit

-- The bytes are read as a ledger which the auditor finds clean with the image's quantum, and which has as many rows as
-- the run.
pub record IsFoundClean (system : System) (limit : ℕ) : Type 0 where
  pub ledger : LedgerValue
  pub read : ledger_read (written system limit) ≡ Ok ledger
  pub clean : audit_of system.image.quantum None ledger ≡ Clean
  pub rows : length ledger.rows ≡ length (world_after system limit).rows

abbrev pub ReportsAreClean : Type 0
ReportsAreClean =
    (system : System) (limit : ℕ) → IsAccepted system.image → AreEventsWithin system.schedule → limit ≤ most_run_ticks
    → IsFoundClean system limit
