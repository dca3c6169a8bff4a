-- What the rows of a run tell, at the end of a tick.
use Rattle.std.proofs.Common.{arith, refl, subst, ◌≡◌, ℕ, Option, None, Some}
use Rattle.boot_image.specs.Accepted.{IsAccepted}
use Rattle.world_model.specs.declared.slot.Runner.{Runner}
use Rattle.world_model.specs.Book.{running}
use Rattle.world_model.specs.World.{World}
use Rattle.call_verdicts.specs.Granted.{GrantedMay}
use Rattle.run_model.specs.Boot.{boot_world}
use Rattle.run_model.specs.Excess.{TurnsGoByRule}
use Rattle.run_model.specs.Run.{System, world_after}
use Rattle.run_model.proofs.Balance.{boots_accounted, ticks_keep_accounts}
use Rattle.ledger_audit.specs.LedgerState.{state_after}
use Rattle.ledger_law.specs.Telling.{LedgerTells, TellsRunner}
use Rattle.ledger_law.proofs.Told.{IsTold, SaysRunner, core}
use Rattle.ledger_law.proofs.Stepping.{get_runs}
use Rattle.ledger_law.proofs.Timing.{excess_told}
use Rattle.ledger_law.proofs.Ticks.{NextIs, run_told}
use Rattle.ledger_law.proofs.Booting.{boot_told}

-- what a run's world is told to be after so many ticks
pub told_after : GrantedMay → NextIs → TurnsGoByRule → (system : System) (t : ℕ) → IsAccepted system.image → IsTold system.image.quantum 0 0 0 (world_after system t)
told_after granted next goes system t accepted =
    run_told granted next goes system.image.quantum system.schedule (boot_world system.image) (boots_accounted system.image) (boot_told system.image accepted) t

runner_told : (q : ℕ) (w : World) → IsTold q 0 0 0 w → (o : Option Runner) → w.book.runner ≡ o → (state_after w.rows).runner ≡ running o
runner_told q w told None is =
    let nobody : SaysRunner q 0 0 (state_after w.rows) w.book.cursor w.book.time None = subst (λ (o : Option Runner). SaysRunner q 0 0 (state_after w.rows) w.book.cursor w.book.time o) is told.says.runs in nobody.0
runner_told q w told (Some r) is = (get_runs q 0 0 (state_after w.rows) (core w.book) r is told.says).runner

turn_told : (q : ℕ) (w : World) → IsTold q 0 0 0 w → w.book.runner ≡ None → (state_after w.rows).turn ≡ w.book.time
turn_told q w told is =
    let nobody : SaysRunner q 0 0 (state_after w.rows) w.book.cursor w.book.time None = subst (λ (o : Option Runner). SaysRunner q 0 0 (state_after w.rows) w.book.cursor w.book.time o) is told.says.runs in omega (arith, nobody.1)

runs_told : (q : ℕ) (w : World) → IsTold q 0 0 0 w → (r : Runner) → w.book.runner ≡ Some r → TellsRunner q (state_after w.rows) w r
runs_told q w told r is =
    let runs = get_runs q 0 0 (state_after w.rows) (core w.book) r is told.says in
    record { env = runs.runner; slot = runs.place; phase = runs.phase; limit = omega (arith, runs.limit) }

pub ledger_tells : GrantedMay → NextIs → TurnsGoByRule → LedgerTells
ledger_tells granted next goes system t accepted =
    let w = world_after system t in
    let q = system.image.quantum in
    let told = told_after granted next goes system t accepted in
    let accounted = ticks_keep_accounts granted system.schedule (boot_world system.image) (boots_accounted system.image) t in
    record {
      slots = told.says.slots;
      runner = runner_told q w told w.book.runner refl;
      runs = runs_told q w told;
      turn = turn_told q w told;
      lives = told.spares;
      excess = excess_told w accounted told.spares;
    }
