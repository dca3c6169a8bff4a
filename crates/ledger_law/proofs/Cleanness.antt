-- Runs are clean, by the laws of their rows and their ends.
use Rattle.std.proofs.Common.{refl, ◌≡◌, ℕ, List, [], ◌∷◌, true, None}
use Rattle.kernel_journal.specs.declared.row.Row.{Row}
use Rattle.ledger_audit.specs.Answer.{rows_of}
use Rattle.ledger_audit.specs.Laws.{KeptIsClean, keep_plan}
use Rattle.ledger_audit.specs.StrideRule.{gifts_with, no_gifts}
use Rattle.ledger_law.specs.LedgerLaw.{EndFits, RowsFit, RunsAreClean}

-- without a plan each row keeps to it
no_plan : (gifts : ℕ → ℕ) (rows : List Row) → keep_plan None gifts rows ≡ true
no_plan gifts [] = refl
no_plan gifts (r ∷ rows) = no_plan (gifts_with None r gifts) rows

pub runs_clean : RowsFit → EndFits → KeptIsClean → RunsAreClean
runs_clean fit end kept system limit ledger accepted of =
    let rows = of.rows in
    let time = of.time in
    let idle = of.idle in
    kept system.image.quantum None ledger (record {
      rows = rw (rows, time) (fit system limit accepted);
      plan = no_plan no_gifts (rows_of ledger.rows);
      sums = of.sums;
      end = rw (rows, time, idle) (end system limit accepted);
    })
