-- The turn and the timer, on the world that is shown.
use Rattle.std.proofs.Common.{◌≡◌, ◌≢◌, ℕ, zero, suc, ◌+◌, ◌<◌, [], ◌∷◌, length, length-set, get_or-set_same, Bool, true, false, not, Option, Some, None, IsSome, refl, sym, ◌∙◌, ap, arith, append_assoc, rules}
use Rattle.std.specs.Prelude.{◌==◌, nat_lt, if◌then◌else◌, slice_get, slice_set}
use Rattle.std.specs.Option.{option_map}
use Rattle.std.proofs.lemmas.Bool.{ne_eqb, eq-eqb}
use Rattle.std.proofs.lemmas.List.{append-nil}
use Rattle.aegis_limits.specs.Limits.{page_size, excess_limit}
use Rattle.mips_exec.specs.Access.{Write}
use Rattle.env_frames.specs.Context.{end_area, end_bytes, resumed_cpu}
use Rattle.slot_vector.specs.declared.turn.NextTurn.{NextTurn}
use Rattle.slot_vector.specs.declared.turn.NextTurn.TheVariants as next
use Rattle.slot_vector.specs.Laws.{owed_by_all}
use Rattle.slot_vector.specs.Slices.{after_turn, excess_of, in_grace_again, next_held, next_turn, spent, timer_by, whole_turn_of}
use Rattle.world_model.specs.Timer.{timer_at_end, timer_of}
use Rattle.world_model.specs.declared.timer.Timer.TheVariants as timer
use Rattle.slot_vector.proofs.Owed.{excess_set}
use Rattle.slot_vector.proofs.Whole.{idle_step, is_idle, paid_is, pay_lowers, pay_step, ran_is, run_step}
use Rattle.world_model.specs.declared.life.Life.{Life}
use Rattle.world_model.specs.declared.life.Life.TheVariants.{Live}
use Rattle.world_model.specs.declared.life.Cause.TheVariants as cause
use Rattle.world_model.specs.declared.slot.Phase.{Phase}
use Rattle.world_model.specs.declared.slot.Phase.TheVariants as phase
use Rattle.world_model.specs.declared.slot.Runner.{Runner}
use Rattle.world_model.specs.declared.slot.Turn.{Turn}
use Rattle.world_model.specs.Book.{WholeTurn, is_idle_book, is_runner, pays_first, running}
use Rattle.world_model.specs.Item.{End, Killed, Start, absorb_all}
use Rattle.world_model.specs.Solo.{Solo, dead, is_dead, kept_after}
use Rattle.world_model.specs.Step.{Dies}
use Rattle.world_model.specs.World.{World, after, in_turn}
use Rattle.world_model.specs.Tick as tick
use Rattle.run_model.proofs.Phases.{in_turn_is_each}
use Rattle.board_model.specs.declared.roster.Environment.{Environment}
use Rattle.board_model.specs.Shown.{Shown, handlers_in, mappings_of}
use Rattle.board_model.specs.Showing.{world_of, book_of, solo_of, solo_or_absent, solo_seen, cpu_seen, pages_seen}
use Rattle.board_model.specs.Sound.{IsSoundBoard}
use Rattle.board_model.specs.Laws.{TimerShowsModel, TurnShowsModel}
use Rattle.board_model.specs.Doing.{after_timer_by, after_count_down, after_death, after_end, has_end, over_row, with_overrun, after_forfeit, start_registers, after_start, after_stop, with_next_time, after_turn_phase, after_told, with_registers}
use Rattle.board_model.proofs.Contexts.{left_by, left_others, left_own, left_sights, left_store, start_others, start_seen, start_sights, waiting}
use Rattle.board_model.proofs.Dying.{MayDie, dies as dying, may_die, numbered_within}
use Rattle.board_model.proofs.Lists.{changed_here, changed_else, length-changed}
use Rattle.board_model.proofs.Mappings.{kept_mappings}
use Rattle.board_model.proofs.Parts.{by_env, worlds, one_absorbed}
use Rattle.board_model.proofs.Phases.{quiet_world}
use Rattle.board_model.proofs.Replying.{told}
use Rattle.board_model.proofs.Seen.{like_solo, same_solo, named, Runs, its_mappings, live_record, runner_runs, runner_seen, runner_solo}
use Rattle.board_model.proofs.Sound.{held_live, keeps_registers}
use Rattle.board_model.proofs.Turns.{paid_sound}
use Rattle.world_model.specs.declared.timer.Timer.{Timer}

-- nobody runs
idle_names : (b : Shown) (i : ℕ) → b.slots.runner ≡ None → is_runner i b.slots.runner ≡ false
idle_names b i none = ap (is_runner i) none

-- the start of a slice
module _ (b : Shown) (sound : IsSoundBoard b) (t : Turn) (x : Environment) (at : slice_get b.roster.list t.env ≡ Some x) (lives : x.life ≡ Live) (none : b.slots.runner ≡ None) where
  waiting_seen : solo_of b t.env ≡ waiting b t.env x
  waiting_seen = search (rules, idle_names)

  starts : solo_of (after_start b t) t.env ≡ absorb_all (solo_of b t.env) (Start ∷ [])
  starts =
      let new = after_start b t in
      let cpu : cpu_seen new t.env x.env.cpu ≡ start_registers b.roster.list t.env = rw (eq-eqb t.env t.env refl) refl in
      ap (solo_or_absent new t.env) at
      ∙ (λ k. record (solo_seen new t.env x) { life = lives k; cpu = cpu k; seen = λ p. start_sights b sound t.env t.env p k })
      ∙ start_seen b sound t.env x at
      ∙ ap (λ s. absorb_all s (Start ∷ [])) (sym waiting_seen)

  others : (i : ℕ) → i ≢ t.env → solo_of (after_start b t) i ≡ solo_of b i
  others i ne = same_solo i (after_start b t) b (search (rules, (ne_eqb t.env i (λ same. ne (sym same))), (idle_names b i none), (start_others b sound t.env i ne), (start_sights b sound t.env i)))

  pub started_world : world_of (after_start b t) ≡ after (world_of b) (tick.take_turn (world_of b) (record { pays = []; runs = Some t; excess = excess_of b.slots.excess; cursor = t.slot }) (Some t))
  started_world =
      worlds (world_of (after_start b t)) (after (world_of b) (tick.take_turn (world_of b) (record { pays = []; runs = Some t; excess = excess_of b.slots.excess; cursor = t.slot }) (Some t))) refl refl
      (one_absorbed (solo_of b) (solo_of (after_start b t)) t.env (Start ∷ []) starts others)
      refl

-- a forfeit changes no environment
paid_solo : (b : Shown) (t : Turn) (i : ℕ) → solo_of (after_forfeit b t) i ≡ solo_of b i
paid_solo b t i = like_solo i (after_forfeit b t) b (record { version = refl; record_is = refl; rings = refl; cpu = λ kept. refl; pages = refl; binds = refl; sights = refl })

-- the turn as the model tells it
abbrev told_world : Shown → WholeTurn → World
told_world b told = after (world_of b) (tick.take_turn (world_of b) told told.runs)

-- a forfeit, and then the rest of the turn, in which somebody runs
forfeit_first : (b : Shown) (t : Turn) (rest : WholeTurn) (runs : Option Turn) → rest.runs ≡ runs → runs ≢ None → told_world (after_forfeit b t) rest ≡ told_world b (pays_first t rest)
forfeit_first b t rest runs is some = search (rules, paid_solo, append_assoc)

-- after a forfeit somebody runs: the slot is still held
pays_runs : (b : Shown) (t : Turn) → next_turn b.slots ≡ next.Pay t → (whole_turn_of (after_turn b.slots (next.Pay t))).runs ≢ None
pays_runs b t is none = search (rules, paid_is, pay_step, is_idle)

-- the turn is the model's, where that of a board after a forfeit is
abbrev IsTold : Shown → Type 0
IsTold b = world_of (after_told b (whole_turn_of b.slots)) ≡ told_world b (whole_turn_of b.slots)

module _ (b : Shown) (sound : IsSoundBoard b) (whole : b.roster.spare ≡ 0) (none : b.slots.runner ≡ None) where
  told_next : ((t : Turn) → next_turn b.slots ≡ next.Pay t → IsTold (after_forfeit b t)) → (comes : NextTurn) → next_turn b.slots ≡ comes → IsTold b
  told_next later next.Idle is = rw (idle_step b.slots is) (quiet_world (world_of b))
  told_next later (next.Run t) is =
      let held = (ran_is (excess_of b.slots.excess) (next_held b.slots) t is).0 in
      let live = held_live b.slots b.roster t sound.book whole held in
      let x = live_record b.roster.list t.env live.1 in
      rw (run_step b.slots t is) (started_world b sound t x.0 x.1.0 x.1.1 none)
  told_next later (next.Pay t) is =
      let rest = whole_turn_of (after_turn b.slots (next.Pay t)) in
      rw (pay_step b.slots t is) (later t is ∙ forfeit_first b t rest rest.runs refl (pays_runs b t is))

-- so it is with fewer than so much owed
told_within : (n : ℕ) (b : Shown) → owed_by_all b.slots < n → IsSoundBoard b → b.roster.spare ≡ 0 → b.slots.runner ≡ None → IsTold b
told_within zero b enough sound whole none = absurd (omega arith)
told_within (suc n) b enough sound whole none =
    told_next b sound whole none
    (λ t is. told_within n (after_forfeit b t) (let less = pay_lowers b.slots t is in omega (arith, less)) (paid_sound b t sound) whole none)
    (next_turn b.slots) refl

pub turned_world : TurnShowsModel
turned_world b sound whole = search (rules, quiet_world, told_within)

-- after the turn of a board that isn't idle somebody runs
pub turned_runs : (b : Shown) → is_idle_book (book_of b) ≡ false → IsSome (after_turn_phase b).slots.runner
turned_runs b busy = grind (arith, is_idle)

-- the runner is stopped
module _ (b : Shown) (e : ℕ) (x : Environment) (r : Runs b e x) where
  pub stopped_solo : solo_of (after_stop b e) e ≡ solo_of b e
  stopped_solo = search (rules, changed_here)

  pub stopped_others : (i : ℕ) → i ≢ e → solo_of (after_stop b e) i ≡ solo_of b i
  stopped_others i ne =
      same_solo i (after_stop b e) b (search (rules, (changed_else (with_registers b.cpu) b.roster.list e i ne), (r.runs.others i ne)))

  pub stopped_mappings : (i : ℕ) → mappings_of (after_stop b e).roster.list i ≡ mappings_of b.roster.list i
  stopped_mappings i = kept_mappings (with_registers b.cpu) (keeps_registers b.cpu) b.roster.list e i

  pub stopped_count : (world_of (after_stop b e)).count ≡ (world_of b).count
  stopped_count = length-changed (with_registers b.cpu) b.roster.list e

-- The timer. A board at the next time is the same to everybody.
ticked_solo : (b : Shown) (i : ℕ) → solo_of (with_next_time b) i ≡ solo_of b i
ticked_solo b i = like_solo i (with_next_time b) b (record { version = refl; record_is = refl; rings = refl; cpu = λ kept. refl; pages = refl; binds = refl; sights = refl })

ticked_world : (b : Shown) → world_of (with_next_time b) ≡ after (world_of b) (tick.clock (world_of b))
ticked_world b = worlds (world_of (with_next_time b)) (after (world_of b) (tick.clock (world_of b))) refl refl (ticked_solo b) (sym (append-nil b.ledger.rows))

-- a runner goes on, with other ticks left
abbrev going_on : Shown → Runner → Shown
going_on b r = record b { slots = record b.slots { runner = Some r } }

same_runner : (o : Option Runner) (r : Runner) (i : ℕ) → running o ≡ Some r.env → is_runner i (Some r) ≡ is_runner i o
same_runner o r i is = search rules

goes_on : (b : Shown) (r : Runner) → running b.slots.runner ≡ Some r.env → world_of (going_on b r) ≡ after (world_of b) (tick.with_runner r (world_of b))
goes_on b r runs = search (rules, like_solo, same_runner, append-nil)

-- by its runner, who has ticks left
module _ (b : Shown) (sound : IsSoundBoard b) (r : Runner) (is : b.slots.runner ≡ Some r) (x : Environment) (runs : Runs b r.env x) where
  -- nothing
  counts_on : world_of (after_timer_by b r.env timer.Nothing) ≡ after (world_of b) (tick.timer_reply r timer.Nothing (world_of b))
  counts_on = search (rules, goes_on)

  -- the end of its slice, where it has no handler of ends
  stops : world_of (after_timer_by b r.env timer.Stop) ≡ after (world_of b) (tick.stop_at_end r.env (world_of b))
  stops =
      let now = after_stop b r.env in
      worlds (world_of now) (after (world_of b) (tick.stop_at_end r.env (world_of b)))
      (λ k. record (book_of now) { kept = λ i. stopped_mappings b r.env x runs i k })
      (stopped_count b r.env x runs)
      (by_env (solo_of now) (solo_of b) r.env (stopped_solo b r.env x runs) (stopped_others b r.env x runs))
      refl

  in_grace : in_grace_again b.slots b.slots.runner ≡ Some (tick.grace_of (world_of b) r.env)
  in_grace = ap (in_grace_again b.slots) is

  -- and where it has one
  ends : world_of (after_timer_by b r.env timer.End) ≡ after (world_of b) (tick.slice_end r.env (world_of b))
  ends =
      let e = r.env in
      let now = after_end b e in
      let w : Write = record { address = page_size + end_area; bytes = end_bytes b.cpu } in
      let maps = its_mappings b e x runs in
      let pages : pages_seen now.frames x.env.mappings ≡ kept_after (pages_seen b.frames x.env.mappings) (left_store w) =
      ap (pages_seen (left_by b e w)) (sym maps) ∙ left_own b sound e w refl ∙ ap (λ ms. kept_after (pages_seen b.frames ms) (left_store w)) maps in
      let still : Runs now e x = record { at = runs.at; lives = runs.lives; runs = named e now.slots.runner (ap running in_grace) } in
      worlds (world_of now) (after (world_of b) (tick.slice_end e (world_of b)))
      (λ k. record (book_of now) { runner = in_grace k })
      refl
      (one_absorbed (solo_of b) (solo_of now) e (End ∷ [])
      (runner_seen now e x still
      ∙ (λ k. record (runner_solo b e x) { cpu = resumed_cpu (handlers_in (runs.at k)).end b.cpu; kept = pages k; seen = λ p. left_sights b sound e w refl e p k })
      ∙ ap (λ s. absorb_all s (End ∷ [])) (sym (runner_seen b e x runs)))
      (λ i ne. same_solo i now b (search (rules, (still.runs.others i ne), (runs.runs.others i ne), (left_others b sound e w refl i ne), (left_sights b sound e w refl i)))))
      refl

  -- A quantum of grace is over: the runner owes one more, and the ledger says so.
  abbrev owing : ℕ
  owing = excess_of b.slots.excess r.env + 1

  abbrev over : Shown
  over = record b { slots = record b.slots { excess = slice_set b.slots.excess r.env owing }; ledger = over_row b r.env owing }

  within : r.env < length b.slots.excess
  within = numbered_within b r.env x runs.at sound

  over_world : world_of over ≡ after (world_of b) (tick.owes_more r.env (world_of b))
  over_world = search (rules, excess_set, like_solo, within)

  -- what it owes then
  owes : excess_of over.slots.excess r.env ≡ owing
  owes = get_or-set_same b.slots.excess r.env owing 0 within

  -- another quantum of grace
  goes_over : world_of (after_timer_by b r.env (timer.Over owing)) ≡ after (world_of over) (tick.grace_again r.env (world_of over))
  goes_over = search (rules, goes_on)

  -- death of too much excess
  over_runs : Runs over r.env x
  over_runs = record { at = runs.at; lives = runs.lives; runs = runs.runs }

  may : MayDie over r.env
  may = record { numbered = omega (arith, within, length-set b.slots.excess r.env owing); count = sound.book.count; books = sound.books; claims = sound.claims.owned; pending = (may_die b r.env x runs.at sound).pending; backups = (may_die b r.env x runs.at sound).backups }

  spent_ends : (o : Option Runner) → o ≡ Some r → (if is_runner r.env (option_map spent o) then None else option_map spent o) ≡ (if is_runner r.env o then None else o)
  spent_ends o is = rw is (rw (eq-eqb r.env r.env refl) refl)

  same_death : after_death (with_overrun b r.env) r.env cause.Excess ≡ after_death over r.env cause.Excess
  same_death = search (rules, spent_ends, owes)

  dies : world_of (after_timer_by b r.env timer.Kill) ≡ after (world_of over) (tick.kill r.env (world_of over))
  dies =
      let e = r.env in
      let lives : (solo_of over e).life ≡ Live = ap (λ (s : Solo). s.life) (runner_seen over e x over_runs) in
      ap world_of same_death
      ∙ told over e Killed (Dies cause.Excess) (after_death over e cause.Excess) (dying over e x over_runs may cause.Excess)
      (ap (λ (life : Life). if is_dead life then solo_of over e else dead cause.Excess (solo_of over e)) lives)

  -- by what the timer answers
  answers : (last : Bool) → (let answer : Timer = if last then timer_at_end r.phase (has_end b r.env) (excess_of b.slots.excess r.env) else timer.Nothing in
      world_of (after_timer_by b r.env answer) ≡ after (world_of b) (tick.timer_reply r answer (world_of b)))
  answers false = counts_on
  answers true = by_phase r.phase
    where
      by_handler : (has : Bool) → (let answer : Timer = timer_at_end phase.Own has (excess_of b.slots.excess r.env) in
          world_of (after_timer_by b r.env answer) ≡ after (world_of b) (tick.timer_reply r answer (world_of b)))
      by_handler true = ends
      by_handler false = stops

      by_excess : (over : Bool) → (let answer : Timer = if over then timer.Kill else timer.Over owing in
          world_of (after_timer_by b r.env answer) ≡ after (world_of b) (tick.timer_reply r answer (world_of b)))
      by_excess true =
          dies ∙ ap (λ v. after v (tick.kill r.env v)) over_world
          ∙ sym (in_turn_is_each (world_of b) (tick.owes_more r.env ∷ tick.kill r.env ∷ []))
      by_excess false =
          goes_over ∙ ap (λ v. after v (tick.grace_again r.env v)) over_world
          ∙ sym (in_turn_is_each (world_of b) (tick.owes_more r.env ∷ tick.grace_again r.env ∷ []))

      by_phase : (p : Phase) → (let answer : Timer = timer_at_end p (has_end b r.env) (excess_of b.slots.excess r.env) in
          world_of (after_timer_by b r.env answer) ≡ after (world_of b) (tick.timer_reply r answer (world_of b)))
      by_phase phase.Own = by_handler (has_end b r.env)
      by_phase phase.Grace = by_excess (nat_lt excess_limit owing)

  -- the slots' answer is the model's
  handles : has_end b r.env ≡ tick.handles_end (world_of b) r.env
  handles = ap (λ o. not ((handlers_in o).end == 0)) runs.at ∙ ap (λ (s : Solo). not (s.handlers.end == 0)) (sym (runner_seen b r.env x runs))

  counts : world_of (after_timer_by b r.env (timer_of r (has_end b r.env) (excess_of b.slots.excess r.env))) ≡ after (world_of b) (tick.count_when (Some r) (world_of b))
  counts =
      answers (r.left == 1)
      ∙ ap (λ has. after (world_of b) (tick.timer_reply r (timer_of r has (excess_of b.slots.excess r.env)) (world_of b))) handles

pub counted_world : TimerShowsModel
counted_world b sound = by_runner b.slots.runner refl
  where
    after_timer_phase : (o : Option Runner) → b.slots.runner ≡ o → world_of (after_count_down b o) ≡ after (world_of b) (tick.count_when o (world_of b))
    after_timer_phase None is = quiet_world (world_of b)
    after_timer_phase (Some r) is =
        let x = runner_runs b r.env sound (ap running is) in
        ap (λ o. world_of (after_timer_by b r.env (timer_by o (has_end b r.env) (excess_of b.slots.excess)))) is
        ∙ counts b sound r is x.0 x.1

    by_runner : (o : Option Runner) → b.slots.runner ≡ o → world_of (with_next_time (after_count_down b o)) ≡ after (world_of b) (in_turn (tick.count_when o ∷ tick.clock ∷ []) (world_of b))
    by_runner o is =
        ticked_world (after_count_down b o)
        ∙ ap (λ v. after v (tick.clock v)) (after_timer_phase o is)
        ∙ sym (in_turn_is_each (world_of b) (tick.count_when o ∷ tick.clock ∷ []))
