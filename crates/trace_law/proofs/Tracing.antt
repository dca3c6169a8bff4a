-- The lines of a trace are the steps of a feed.
use Rattle.std.proofs.Common.{arith, refl, sym, ◌∙◌, ap, ◌≡◌, ◌+◌, ℕ, zero, suc, List, [], ◌∷◌, length, take, Bool, true, ◌&&◌, Option, None, Some}
use Rattle.std.specs.Prelude.{nat_lt}
use Rattle.std.proofs.lemmas.Bool.{cond_both, lt-ltb}
use Rattle.world_model.specs.declared.slot.Runner.{Runner}
use Rattle.world_model.specs.Book.{is_idle_book, is_runner, running}
use Rattle.world_model.specs.World.{World, Reply, after, run_phases}
use Rattle.run_model.specs.Run.{System, at_step, before_turn, next_phases, world_after}
use Rattle.ledger_audit.specs.RowRules.{is_number}
use Rattle.aegis_tick.specs.Halves.{MiddlesAreAtSteps}
use Rattle.trace_view.specs.Trace.{makes_step}
use Rattle.runner_law.specs.RunnerLaw.{RunnersAreTold, StepsAreTold}
use Rattle.trace_law.specs.TraceLaw.{TraceIsFeed}

-- environments are as many as the image has
run_count : (w : World) (phases : List (World → Reply)) → (run_phases w phases).count ≡ w.count
run_count w [] = refl
run_count w (phase ∷ phases) = run_count (after w (phase w)) phases

count_is : (system : System) (t : ℕ) → (world_after system t).count ≡ length system.image.programs
count_is system zero = refl
count_is system (suc t) =
    let w = world_after system t in
    cond_both (is_idle_book w.book) w (run_phases w (next_phases system.schedule w)) (λ (v : World). v.count ≡ length system.image.programs)
    (λ idle. count_is system t) (λ busy. run_count w (next_phases system.schedule w) ∙ count_is system t)

step_count : (system : System) (t : ℕ) → (at_step system t).count ≡ length system.image.programs
step_count system t =
    let w = world_after system t in run_count w (take (before_turn system t + 1) (next_phases system.schedule w)) ∙ count_is system t

runner_is : (e : ℕ) (o : Option Runner) → is_runner e o ≡ is_number e (running o)
runner_is e None = refl
runner_is e (Some r) = refl

pub trace_is_feed : MiddlesAreAtSteps → RunnersAreTold → StepsAreTold → TraceIsFeed
trace_is_feed middles runners steps system e t accepted there =
    let w = at_step system t in
    let named = steps system t (suc t) e accepted (omega arith) ∙ ap (is_number e) (runners system t (suc t) accepted (omega arith)) in
    let inside : nat_lt e w.count ≡ true = ap (nat_lt e) (step_count system t) ∙ lt-ltb e (length system.image.programs) there in
    ap (makes_step e) (middles system t) ∙ ap (λ (b : Bool). b && is_runner e w.book.runner) inside ∙ runner_is e w.book.runner ∙ sym named
