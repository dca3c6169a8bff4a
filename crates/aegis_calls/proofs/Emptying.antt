-- What the phases of a tick empty of the TLB's rows is what the model says, by the world that the board shows.
use Rattle.std.proofs.Common.{◌≡◌, ℕ, List, [], ◌∷◌, Bool, true, false, not, Option, Some, None, refl, sym, ◌∙◌, ap, rules}
use Rattle.std.specs.Prelude.{◌==◌, fold, map}
use Rattle.mips_exec.specs.Cpu.{reg}
use Rattle.mips_exec.specs.Step.{Step, Retired, Called, Trapped}
use Rattle.mips_exec.specs.declared.exception.Exc.{Exc}
use Rattle.revocation_book.specs.declared.revocation.Taking.{Taking}
use Rattle.slot_vector.specs.Slices.{excess_of, timer_by}
use Rattle.world_model.specs.declared.call.Deed.{Deed}
use Rattle.world_model.specs.declared.call.Deed.TheVariants.{Answers, Own, Stops, Gives, Allocates, Frees, Recaps, Binds, Unbinds, Transfers, TakesSlot, DropsSlot, TakesLine, DropsLine, Claims, Unclaims, Downloads, Loads}
use Rattle.world_model.specs.declared.slot.Runner.{Runner}
use Rattle.world_model.specs.declared.slot.Turn.{Turn}
use Rattle.world_model.specs.declared.timer.Timer.{Timer}
use Rattle.world_model.specs.declared.timer.Timer.TheVariants as timer
use Rattle.world_model.specs.declared.verdict.Verdict.{Verdict}
use Rattle.world_model.specs.declared.verdict.Verdict.TheVariants.{Again, Grant, Refuse}
use Rattle.world_model.specs.Book.{running}
use Rattle.world_model.specs.Call.{called, deed_of, exit_number}
use Rattle.world_model.specs.Item.{deed_at}
use Rattle.world_model.specs.Solo.{Solo, Store, store_of}
use Rattle.world_model.specs.Step.{act_at_call, act_of, call_act, store_act, trap_act}
use Rattle.world_model.specs.Timer.{timer_of}
use Rattle.world_model.specs.Tick.{handles_end}
use Rattle.world_model.specs.Verdict.{verdict}
use Rattle.board_model.specs.Doing.{after_count_down, after_deadlines, after_exit_or_call, after_forfeit, after_grant, after_runner_call, after_runner_step, after_start_if, after_taking, after_timer_by, after_timer_phase, after_trap, after_turn_phase, after_verdict, board_takings, has_end, with_one_asked}
use Rattle.board_model.specs.Shown.{Shown, handlers_in, handlers_of}
use Rattle.board_model.specs.Showing.{book_of, solo_of, world_of}
use Rattle.board_model.specs.Sound.{HasRunner, IsSoundBoard}
use Rattle.board_model.specs.declared.roster.Environment.{Environment}
use Rattle.board_model.proofs.Seen.{Runs, runner_runs, runner_seen, runner_solo}
use Rattle.tlb_model.specs.Cache.{Cache}
use Rattle.tlb_model.specs.Flushes.{flushed_all}
use Rattle.tlb_course.specs.Course.{cache_acted, cache_called, cache_served, cache_timed}
use Rattle.tlb_course.specs.Emptying.{count_flushes, deed_flushes, taking_flush, timer_flushes, verdict_flushes}

-- a turn empties nothing
forfeits_leave : (b : Shown) (pays : List Turn) → (fold after_forfeit b pays).tlb ≡ b.tlb
forfeits_leave b [] = refl
forfeits_leave b (t ∷ pays) = forfeits_leave (after_forfeit b t) pays

start_leaves : (b : Shown) (runs : Option Turn) → (after_start_if b runs).tlb ≡ b.tlb
start_leaves b None = refl
start_leaves b (Some t) = refl

pub turn_leaves : (b : Shown) → (after_turn_phase b).tlb ≡ b.tlb
turn_leaves b = search (rules, forfeits_leave, start_leaves)

-- takings empty the rows of their pages
takings_empty : (b : Shown) (xs : List Taking) → (fold after_taking b xs).tlb ≡ flushed_all (map taking_flush xs) b.tlb
takings_empty b [] = refl
takings_empty b (x ∷ xs) = takings_empty (after_taking b x) xs

pub served_empties : (b : Shown) → (after_deadlines b).tlb ≡ cache_served (world_of b) b.tlb
served_empties b = takings_empty b (board_takings b)

-- ---- calls

deed_empties : (b : Shown) (e v : ℕ) (d : Deed) → (after_grant b e v d).tlb ≡ flushed_all (deed_flushes (book_of b) e d) b.tlb
deed_empties b e v Answers = refl
deed_empties b e v (Own own) = refl
deed_empties b e v Stops = refl
deed_empties b e v (Gives target) = refl
deed_empties b e v (Allocates page words) = refl
deed_empties b e v (Frees page) = refl
deed_empties b e v (Recaps page words) = refl
deed_empties b e v (Binds binding word) = refl
deed_empties b e v (Unbinds vpn) = refl
deed_empties b e v (Transfers target kind) = refl
deed_empties b e v (TakesSlot slot) = refl
deed_empties b e v (DropsSlot slot) = refl
deed_empties b e v (TakesLine line) = refl
deed_empties b e v (DropsLine line) = refl
deed_empties b e v (Claims claim address atoms page) = refl
deed_empties b e v (Unclaims claim) = refl
deed_empties b e v (Downloads claim address words) = refl
deed_empties b e v (Loads page) = refl

asking_leaves : (b : Shown) (who : ℕ) → (with_one_asked b who).tlb ≡ b.tlb
asking_leaves b who = search rules

module _ (b : Shown) (e : ℕ) (x : Environment) (r : Runs b e x) where
  -- the call is that of the runner's registers
  deed_is : (v : ℕ) → deed_of (called b.cpu) v b.cpu ≡ deed_at (solo_of b e) v
  deed_is v = ap (λ (s : Solo). deed_at s v) (sym (runner_seen b e x r))

  verdict_empties : (answer : Verdict) → (after_verdict b e (called b.cpu) answer).tlb ≡ flushed_all (verdict_flushes (world_of b) e answer) b.tlb
  verdict_empties (Refuse why v) = refl
  verdict_empties (Again who) = asking_leaves b who
  verdict_empties (Grant v) =
      deed_empties b e v (deed_of (called b.cpu) v b.cpu) ∙ ap (λ d. flushed_all (deed_flushes (book_of b) e d) b.tlb) (deed_is v)

  call_empties : (exits : Bool) → (after_exit_or_call b e exits).tlb ≡ cache_acted (world_of b) e (act_at_call b.cpu exits) b.tlb
  call_empties true = refl
  call_empties false = verdict_empties (verdict (world_of b) e (called b.cpu))

  -- a trap is a death, where there is no handler
  trap_empties : (exc : Exc) → (after_trap b e exc).tlb ≡ cache_acted (world_of b) e (trap_act x.env.handlers.exception exc) b.tlb
  trap_empties exc =
      by_test ((handlers_of b.roster.list e).exception == 0) refl
      ∙ ap (λ o. cache_acted (world_of b) e (trap_act (handlers_in o).exception exc) b.tlb) r.at
    where
      by_test : (none : Bool) → ((handlers_of b.roster.list e).exception == 0) ≡ none → (after_trap b e exc).tlb ≡ cache_acted (world_of b) e (trap_act (handlers_of b.roster.list e).exception exc) b.tlb
      by_test true is = rw is refl
      by_test false is = rw is refl

  -- a store empties nothing
  store_leaves : (y : Option Store) (c : Cache) → c ≡ cache_acted (world_of b) e (store_act y) c
  store_leaves None c = refl
  store_leaves (Some y) c = refl

  -- whatever the step comes to
  pub step_empties : (st : Step) → (after_runner_step b e st).tlb ≡ cache_acted (world_of b) e (act_of (runner_solo b e x) st) b.tlb
  step_empties (Retired cpu w) = store_leaves (store_of (runner_solo b e x) w) b.tlb
  step_empties Called = call_empties (reg b.cpu 2 == exit_number)
  step_empties (Trapped exc) = trap_empties exc

-- a call apart from a tick
pub called_empties : (b : Shown) (e : ℕ) → HasRunner b e → (after_runner_call b e).tlb ≡ cache_called (world_of b) e b.tlb
called_empties b e has =
    let x = runner_runs b e has.sound has.runs in
    call_empties b e x.0 x.1 (reg b.cpu 2 == exit_number)
    ∙ ap (λ (s : Solo). cache_acted (world_of b) e (call_act s.cpu) b.tlb) (sym (runner_seen b e x.0 x.1))

-- ---- the timer

timer_empties : (b : Shown) (e : ℕ) (answer : Timer) → (after_timer_by b e answer).tlb ≡ flushed_all (timer_flushes (world_of b) e answer) b.tlb
timer_empties b e timer.Nothing = refl
timer_empties b e timer.End = refl
timer_empties b e timer.Stop = refl
timer_empties b e (timer.Over excess) = refl
timer_empties b e timer.Kill = refl

pub counted_empties : (b : Shown) → IsSoundBoard b → (after_timer_phase b).tlb ≡ cache_timed (world_of b) b.tlb
counted_empties b sound = by_runner b.slots.runner refl
  where
    by_runner : (o : Option Runner) → b.slots.runner ≡ o → (after_count_down b o).tlb ≡ flushed_all (count_flushes (world_of b) o) b.tlb
    by_runner None is = refl
    by_runner (Some r) is =
        let x = runner_runs b r.env sound (ap running is) in
        let handles : has_end b r.env ≡ handles_end (world_of b) r.env =
        ap (λ o. not ((handlers_in o).end == 0)) x.1.at ∙ ap (λ (s : Solo). not (s.handlers.end == 0)) (sym (runner_seen b r.env x.0 x.1)) in
        ap (λ o. (after_timer_by b r.env (timer_by o (has_end b r.env) (excess_of b.slots.excess))).tlb) is
        ∙ timer_empties b r.env (timer_of r (has_end b r.env) (excess_of b.slots.excess r.env))
        ∙ ap (λ has. flushed_all (timer_flushes (world_of b) r.env (timer_of r has (excess_of b.slots.excess r.env))) b.tlb) handles
