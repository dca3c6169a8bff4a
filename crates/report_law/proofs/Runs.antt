-- The report of a run.
use Rattle.std.proofs.Common.{arith, refl, sym, ◌∙◌, ap, subst, ◌≡◌, ◌≤◌, ◌+◌, ℕ, List, [], ◌∷◌, length, true, ◌&&◌, Option, None, Some}
use Rattle.std.specs.Prelude.{◌==◌, count_by}
use Rattle.std.specs.List.{AllByRecursion}
use Rattle.std.proofs.lemmas.Bool.{and_from, eq-eqb}
use Rattle.aegis_limits.specs.Limits.{most_run_ticks}
use Rattle.boot_image.specs.Accepted.{IsAccepted}
use Rattle.kernel_journal.specs.declared.row.Row.{Row}
use Rattle.world_model.specs.Table.{listed}
use Rattle.call_verdicts.specs.Granted.{GrantedMay}
use Rattle.run_model.specs.Excess.{is_over_of, is_pay_of, is_run_of}
use Rattle.run_model.specs.Licensed.{FeedIsLicensed}
use Rattle.run_model.specs.Run.{IsFoldOfFeed, System, end_of_run, world_after}
use Rattle.kernel_journal.specs.RowTable.{RowsAreReadBack, time_of}
use Rattle.ledger_audit.specs.LedgerState.{LedgerState, first_state, state_after}
use Rattle.ledger_text.specs.Limits.{most_number}
use Rattle.ledger_audit.specs.Answer.{is_sum, rows_of}
use Rattle.ledger_audit.specs.StrictRules.{are_there}
use Rattle.ledger_law.specs.LedgerLaw.{RowsFit, RunsAreClean}
use Rattle.report_law.specs.ReportLaw.{AreEventsWithin, ReportsAreClean, ReportsAreRead, tally_of}
use Rattle.report_law.proofs.Bounded.{AllSmall}
use Rattle.report_law.proofs.Counts.{IsCounted, overs_told, pays_told, rows_counted, runs_told, started}
use Rattle.report_law.proofs.Names.{run_named}
use Rattle.report_law.proofs.Reading.{AreWithin}
use Rattle.report_law.proofs.Ticks.{count_is, run_bounded}
use Rattle.report_law.proofs.Whole.{IsShown, report_read, rows_values, sums_right}

-- times and other numbers together
rows_small : (most n : ℕ) (rows : List Row) → most ≤ most_run_ticks → AllByRecursion (λ (r : Row). time_of r ≤ most) rows → AllSmall n rows → AreWithin rows
rows_small most n [] soon times small = tt
rows_small most n (r ∷ rows) soon (time, times) (here, small) = (here.0 (omega (arith, time, soon)), rows_small most n rows soon times small)

-- whom they name
rows_there : (n : ℕ) (rows : List Row) → AllSmall n rows → AllByRecursion (λ (r : Row). are_there n r ≡ true) rows
rows_there n [] small = tt
rows_there n (r ∷ rows) (here, small) = (here.1, rows_there n rows small)

begun : (s : LedgerState) (end e : ℕ) → IsCounted end s → s.runs e ≤ s.time + 1
begun s end e c = by_runner s.runner (c.runs e)
  where
    by_runner : (o : Option ℕ) → s.runs e ≤ started o s.turn s.time → s.runs e ≤ s.time + 1
    by_runner None few = omega (arith, few, c.turn)
    by_runner (Some who) few = few

-- no count is large
few_of : (rows : List Row) (end e : ℕ) → end ≤ most_run_ticks → IsCounted end (state_after rows)
    → (count_by (is_run_of e) rows ≤ most_number) × (count_by (is_pay_of e) rows ≤ most_number) × (count_by (is_over_of e) rows ≤ most_number)
few_of rows end e soon c = (
  omega (arith, soon, c.within, begun (state_after rows) end e c, runs_told e first_state rows),
  omega (arith, soon, c.within, c.grace, c.overs e, c.pays e, pays_told e first_state rows),
  omega (arith, soon, c.within, c.grace, c.overs e, overs_told e first_state rows),
)

right_sum : (rows : List Row) (e : ℕ) → is_sum (state_after rows) e (tally_of rows e) ≡ true
right_sum rows e =
    let s = state_after rows in
    let runs = count_by (is_run_of e) rows in
    let pays = count_by (is_pay_of e) rows in
    let overs = count_by (is_over_of e) rows in
    let run_test : (runs == s.runs e) ≡ true = eq-eqb runs (s.runs e) (omega (arith, runs_told e first_state rows)) in
    let pay_test : (pays == s.pays e) ≡ true = eq-eqb pays (s.pays e) (omega (arith, pays_told e first_state rows)) in
    let over_test : (overs == s.overs e) ≡ true = eq-eqb overs (s.overs e) (omega (arith, overs_told e first_state rows)) in
    and_from (e == e) ((runs == s.runs e) && ((pays == s.pays e) && (overs == s.overs e))) (eq-eqb e e refl)
    (and_from (runs == s.runs e) ((pays == s.pays e) && (overs == s.overs e)) run_test (and_from (pays == s.pays e) (overs == s.overs e) pay_test over_test))

shown : GrantedMay → IsFoldOfFeed → FeedIsLicensed → RowsFit → (system : System) (limit : ℕ) → IsAccepted system.image → AreEventsWithin system.schedule → limit ≤ most_run_ticks → IsShown (world_after system limit)
shown granted fold licensed fit system limit accepted events soon =
    let w = world_after system limit in
    let bounded = run_bounded granted system limit accepted events soon in
    let time : w.book.time ≤ most_run_ticks = omega (arith, bounded.held.time, soon) in
    let counted = rows_counted system.image.quantum w.book.time w.rows (omega (arith, accepted.quantum_least)) (fit system limit accepted) in
    record {
      time = time;
      named = run_named fold licensed system accepted limit;
      some = omega (arith, count_is system limit, accepted.programs_least);
      few = bounded.held.few;
      rows = rows_small w.book.time w.count w.rows time counted.times bounded.rows;
      counts = λ e. few_of w.rows w.book.time e time counted.state;
    }

pub reports_read : RowsAreReadBack → GrantedMay → IsFoldOfFeed → FeedIsLicensed → RowsFit → ReportsAreRead
reports_read back granted fold licensed fit system limit accepted events soon =
    let w = world_after system limit in
    let how = end_of_run w limit in
    let read = report_read back w how (shown granted fold licensed fit system limit accepted events soon) in
    let rows : rows_of read.ledger.rows ≡ w.rows = rows_values read.ledger.rows ∙ read.has.rows in
    record {
      ledger = read.ledger;
      read = read.is;
      of_run = record {
        rows = rows;
        time = read.has.time;
        idle = read.has.idle;
        sums = sums_right (state_after (rows_of read.ledger.rows)) (tally_of w.rows)
            (λ e. subst (λ (rs : List Row). is_sum (state_after rs) e (tally_of w.rows e) ≡ true) (sym rows) (right_sum w.rows e)) w.count read.ledger.sums read.has.sums;
      };
      sums = read.has.sums ∙ ap (listed (tally_of w.rows)) (count_is system limit);
      environments = read.has.environments ∙ count_is system limit;
      named = subst (λ (n : ℕ). AllByRecursion (λ (r : Row). are_there n r ≡ true) w.rows) (count_is system limit) (rows_there w.count w.rows (run_bounded granted system limit accepted events soon).rows);
    }

-- and so it is found clean
rows_length : (rows : List (ℕ × Row)) → length rows ≡ length (rows_of rows)
rows_length [] = refl
rows_length (x ∷ rows) = omega (arith, rows_length rows)

pub reports_clean : ReportsAreRead → RunsAreClean → ReportsAreClean
reports_clean reads clean system limit accepted events soon =
    let is = reads system limit accepted events soon in
    record {
      ledger = is.ledger;
      read = is.read;
      clean = clean system limit is.ledger accepted is.of_run;
      rows = rows_length is.ledger.rows ∙ ap length is.of_run.rows;
    }
