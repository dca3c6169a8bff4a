-- Ticks and whole runs.
use Rattle.std.proofs.Common.{arith, refl, sym, ◌∙◌, ap, subst, ◌≡◌, ◌<◌, ◌≤◌, ◌+◌, ◌*◌, ℕ, zero, suc, List, [], ◌∷◌, map, length, length-append, Bool, true, false, Option, None, Some}
use Rattle.std.specs.Prelude.{if◌then◌else◌}
use Rattle.std.specs.List.{list_all}
use Rattle.std.proofs.lemmas.Bool.{and_parts}
use Rattle.boot_image.specs.ImageValue.{ImageValue}
use Rattle.kernel_journal.specs.declared.row.Row.{Row}
use Rattle.external_event.specs.declared.event.Occurrence.{Occurrence}
use Rattle.external_event.specs.EventValue.{is_occurrence}
use Rattle.revocation_book.specs.declared.revocation.Pending.{Pending}
use Rattle.revocation_book.specs.declared.revocation.Taking.{Taking}
use Rattle.world_model.specs.declared.hold.Hold.{Hold}
use Rattle.world_model.specs.Book.{is_idle_book}
use Rattle.world_model.specs.Deadlines.{settles, takes, takings}
use Rattle.world_model.specs.Event.{Schedule, happen}
use Rattle.world_model.specs.Table.{listed}
use Rattle.world_model.specs.Tick.{phases_after, step, tick_phases, timer, turn}
use Rattle.world_model.specs.World.{World, Reply, after, run_phases}
use Rattle.run_model.specs.Boot.{boot_slot, boot_world, own_row, own_rows}
use Rattle.run_model.specs.Run.{System, happens_in, next_phases, takings_next, world_after}
use Rattle.revocation_law.proofs.Booting.{boot_imaged}
use Rattle.revocation_law.proofs.Fixed.{Pace, happen_pace, later, pace, tick_pace, turn_pace}
use Rattle.ledger_law.specs.LedgerLaw.{RunsAreClean}
use Rattle.ledger_audit.specs.Answer.{rows_of}
use Rattle.ledger_audit.specs.Laws.{CleanKeepsRules}
use Rattle.ledger_audit.specs.StrictAnswer.{BothKeptIsClean}
use Rattle.ledger_audit.specs.StrictRules.{RequestState, are_strict, no_requests}
use Rattle.report_law.specs.ReportLaw.{AreEventsWithin, ReportsAreRead, tally_of, values_of}
use Rattle.strict_law.specs.StrictLaw.{ReportsAreStrict, RowsAreStrict}
use Rattle.strict_law.proofs.Events.{event_goes}
use Rattle.strict_law.proofs.Replies.{step_goes, timer_goes, turn_goes}
use Rattle.strict_law.proofs.Requests.{AreQuiet, Covers, Goes, IsKept, are_kept, kept_both, quiet_both, quiet_rows, requests_both, requests_from, strict_from}
use Rattle.strict_law.proofs.Takings.{IsServing, begins_serving, settles_goes, taking_goes}

-- the rows of a world keep the rules, and tell the requests that are pending
abbrev state_of_rows : World → RequestState
state_of_rows w = requests_from no_requests w.rows

record IsRun (time : ℕ) (w : World) : Type 0 where
  kept : are_kept no_requests w.rows ≡ true
  now : IsKept time w (state_of_rows w)

goes_on : (time : ℕ) (w : World) (r : Reply) → are_kept no_requests w.rows ≡ true → Goes time w r (state_of_rows w) → IsRun time (after w r)
goes_on time w r kept goes = record {
  kept = kept_both no_requests w.rows r.rows kept goes.kept;
  now = subst (IsKept time (after w r)) (sym (requests_both no_requests w.rows r.rows)) goes.now;
}

module _ (tick q : ℕ) (some : 0 < q) where
  ahead : (w : World) → pace w.book ≡ (tick, q) → suc tick ≤ w.book.time + 2 * w.book.quantum
  ahead w is =
      let time : w.book.time ≡ tick = ap (λ (p : Pace). p.0) is in
      let quantum : w.book.quantum ≡ q = ap (λ (p : Pace). p.1) is in
      omega (arith, time, quantum, some)

  settled_run : (w : World) → pace w.book ≡ (tick, q) → are_kept no_requests w.rows ≡ true → IsServing tick [] w (state_of_rows w) → IsRun (suc tick) (run_phases w (tick_phases []))
  settled_run w is kept serving =
      let time : w.book.time ≡ tick = ap (λ (p : Pace). p.0) is in
      let s = after w (settles w) in
      let first = goes_on (suc tick) w (settles w) kept (settles_goes tick w (state_of_rows w) time serving) in
      let t = after s (turn s) in
      let second = goes_on (suc tick) s (turn s) first.kept (turn_goes (suc tick) s (state_of_rows s) first.now) in
      let u = after t (step t) in
      let third = goes_on (suc tick) t (step t) second.kept (step_goes (suc tick) t (state_of_rows t) (ahead t (turn_pace s ∙ is)) second.now) in
      goes_on (suc tick) u (timer u) third.kept (timer_goes (suc tick) u (state_of_rows u) third.now)

  served_run : (xs : List Taking) (w : World) → pace w.book ≡ (tick, q) → are_kept no_requests w.rows ≡ true → IsServing tick xs w (state_of_rows w) → IsRun (suc tick) (run_phases w (tick_phases xs))
  served_run [] w is kept serving = settled_run w is kept serving
  served_run (x ∷ xs) w is kept serving =
      let r = takes x w in
      let takes_one = taking_goes tick x xs w (state_of_rows w) (ap (λ (p : Pace). p.0) is) serving in
      served_run xs (after w r) is (kept_both no_requests w.rows r.rows kept takes_one.kept)
      (subst (IsServing tick xs (after w r)) (sym (requests_both no_requests w.rows r.rows)) takes_one.now)

  tick_run : (happens : List Occurrence) (xs : List Taking) (w : World) → pace w.book ≡ (tick, q) → list_all is_occurrence happens ≡ true → xs ≡ takings (run_phases w (map happen happens))
      → IsRun tick w → IsRun (suc tick) (run_phases w (phases_after happens xs))
  tick_run [] xs w is within all run =
      served_run xs w is run.kept (subst (λ (ys : List Taking). IsServing tick ys w (state_of_rows w)) (sym all) (begins_serving tick w (state_of_rows w) (ap (λ (p : Pace). p.0) is) run.now))
  tick_run (what ∷ happens) xs w is within all run =
      let parts = and_parts (is_occurrence what) (list_all is_occurrence happens) within in
      let time : w.book.time ≡ tick = ap (λ (p : Pace). p.0) is in
      let r = happen what w in
      tick_run happens xs (after w r) (happen_pace what w ∙ is) parts.1 all
      (goes_on tick w r run.kept (event_goes w (state_of_rows w) tick (omega (arith, time)) run.now what parts.0))

-- whole runs
record IsSteady (q : ℕ) (w : World) : Type 0 where
  quantum : w.book.quantum ≡ q
  run : IsRun w.book.time w

next_steady : (q : ℕ) → 0 < q → (schedule : Schedule) → AreEventsWithin schedule → (w : World) → IsSteady q w → (idle : Bool) → IsSteady q (if idle then w else run_phases w (next_phases schedule w))
next_steady q some schedule within w steady true = steady
next_steady q some schedule within w steady false =
    let v = run_phases w (next_phases schedule w) in
    let after_tick : pace v.book ≡ later (pace w.book) = tick_pace (happens_in schedule w) (takings_next schedule w) w in
    let time : suc w.book.time ≡ v.book.time = (let is = ap (λ (p : Pace). p.0) after_tick in omega (arith, is)) in
    let here : pace w.book ≡ (w.book.time, q) = ap (λ (n : ℕ). (w.book.time, n)) steady.quantum in
    record {
      quantum = ap (λ (p : Pace). p.1) after_tick ∙ steady.quantum;
      run = subst (λ (n : ℕ). IsRun n v) time (tick_run w.book.time q some (happens_in schedule w) (takings_next schedule w) w here (within w.book.time) refl steady.run);
    }

-- at boot rows are quiet, and nothing is pending
own_quiet : (owners : List (Option ℕ)) (count : ℕ) → AreQuiet (own_rows owners count)
own_quiet owners zero = refl
own_quiet owners (suc k) = quiet_both (own_rows owners k) (own_row k (boot_slot owners k)) (own_quiet owners k) (by_hold (boot_slot owners k))
  where
    by_hold : (hold : Option Hold) → AreQuiet (own_row k hold)
    by_hold None = refl
    by_hold (Some hold) = refl

boot_run : (image : ImageValue) → IsRun (boot_world image).book.time (boot_world image)
boot_run image =
    let w = boot_world image in
    let quiet = quiet_rows no_requests w.rows (own_quiet image.slots (length image.slots)) in
    record {
      kept = quiet.1;
      now = subst (IsKept w.book.time w) (sym quiet.0) (record {
        covers = λ e. subst (λ (o : Option Pending). Covers w.book.time o 0 0) (sym (ap (λ (f : ℕ → Option Pending). f e) (boot_imaged image).pending)) tt;
        dead = λ e gone. cc;
      });
    }

run_steady : (system : System) → 0 < system.image.quantum → AreEventsWithin system.schedule → (t : ℕ) → IsSteady system.image.quantum (world_after system t)
run_steady system some within zero = record { quantum = (boot_imaged system.image).quantum; run = boot_run system.image }
run_steady system some within (suc t) =
    let w = world_after system t in
    next_steady system.image.quantum some system.schedule within w (run_steady system some within t) (is_idle_book w.book)

pub rows_are_strict : ReportsAreRead → RowsAreStrict
rows_are_strict reads system limit accepted events soon =
    let w = world_after system limit in
    let named = (reads system limit accepted events soon).named in
    let least = accepted.quantum_least in
    strict_from (length system.image.programs) no_requests w.rows named (run_steady system (omega (arith, least)) events limit).run.kept

-- and so the strict audit finds its report clean
values_length : (f : ℕ → List ℕ) (n : ℕ) → length (listed f n) ≡ n
values_length f zero = refl
values_length f (suc n) = omega (arith, length-append (listed f n) (f n ∷ []), values_length f n)

same_length : (xs : List (ℕ × List ℕ)) → length (values_of xs) ≡ length xs
same_length [] = refl
same_length (x ∷ xs) = omega (arith, same_length xs)

rows_length : (rows : List (ℕ × Row)) → length rows ≡ length (rows_of rows)
rows_length [] = refl
rows_length (x ∷ rows) = omega (arith, rows_length rows)

pub reports_are_strict : RowsAreStrict → ReportsAreRead → RunsAreClean → CleanKeepsRules → BothKeptIsClean → ReportsAreStrict
reports_are_strict strict reads clean keeps kept system limit accepted events soon =
    let q = system.image.quantum in
    let n = length system.image.programs in
    let w = world_after system limit in
    let is = reads system limit accepted events soon in
    let rules = keeps q None is.ledger (clean system limit is.ledger accepted is.of_run) in
    let rows : are_strict (length is.ledger.environments) no_requests (rows_of is.ledger.rows) ≡ true =
    subst (λ (m : ℕ). are_strict m no_requests (rows_of is.ledger.rows) ≡ true) (sym is.environments)
    (subst (λ (rs : List Row). are_strict n no_requests rs ≡ true) (sym is.of_run.rows) (strict system limit accepted events soon)) in
    let sums : length is.ledger.sums ≡ length is.ledger.environments =
    omega (arith, same_length is.ledger.sums, ap length is.sums, values_length (tally_of w.rows) n, is.environments) in
    record {
      ledger = is.ledger;
      read = is.read;
      clean = kept q None is.ledger rules (record { rows = rows; sums = sums });
      rows = rows_length is.ledger.rows ∙ ap length is.of_run.rows;
    }
