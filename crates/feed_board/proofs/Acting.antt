-- What others see of the runner's next step, by what the board keeps.
use Rattle.std.proofs.Common.{◌≡◌, ℕ, ◌/◌, Bool, true, false, List, Option, Some, None, is_some, refl, sym, ◌∙◌, ap}
use Rattle.std.specs.Prelude.{◌==◌, if◌then◌else◌, slice_get}
use Rattle.std.specs.Option.{option_map, option_or}
use Rattle.aegis_limits.specs.Limits.{page_size}
use Rattle.mips_exec.specs.declared.registers.Cpu.{Cpu}
use Rattle.mips_exec.specs.declared.exception.Exc.{Exc}
use Rattle.mips_exec.specs.Access.{Write}
use Rattle.mips_exec.specs.Cpu.{reg}
use Rattle.mips_exec.specs.Step.{Step, Retired, Called, Trapped, outcome_of, write_after}
use Rattle.env_frames.specs.declared.mapping.Mapping.{Mapping}
use Rattle.env_frames.specs.Frame.{EnvValue, mapping_at}
use Rattle.bind_book.specs.declared.binding.Binding.{Binding}
use Rattle.bind_book.specs.Stripe.{binding_at, stripes}
use Rattle.guest_memory.specs.Look.{guest_step}
use Rattle.guest_memory.specs.Space.{SpaceValue, lookup}
use Rattle.world_model.specs.declared.life.Cause.TheVariants as cause
use Rattle.world_model.specs.Book.{running}
use Rattle.world_model.specs.Call.{exit_number}
use Rattle.world_model.specs.Page.{KeptPage}
use Rattle.world_model.specs.PageCalls.{is_guaranteed_vpn}
use Rattle.world_model.specs.Solo.{Solo, bound_place, kept_at, place_at, store_of, store_through}
use Rattle.world_model.specs.Step.{Dies, Raises, act_at_call, act_of, step_alone, store_act}
use Rattle.world_model.specs.Tick.{act_now}
use Rattle.board_model.specs.declared.roster.Environment.{Environment}
use Rattle.board_model.specs.Shown.{Shown, mappings_of}
use Rattle.board_model.specs.Showing.{solo_of, world_of}
use Rattle.board_model.specs.Sound.{IsSoundBoard}
use Rattle.board_model.proofs.Reading.{guaranteed_same, runner_registers}
use Rattle.board_model.proofs.Seen.{Runs, its_mappings, its_step, runner_runs, runner_seen, runner_solo}
use Rattle.feed_telling.specs.declared.act.NextAct.{NextAct}
use Rattle.feed_telling.specs.declared.act.NextAct.TheVariants as next
use Rattle.feed_telling.specs.Tell.{act_shown}
use Rattle.feed_board.specs.Acting.{outcome_shown, store_at_vpn, write_shown}

-- a store goes to a guaranteed page, or through a binding
stored : (v : ℕ) (w : Write) (kept : Option KeptPage) (bound : Option Binding)
    → act_shown (store_act (option_map (store_through w) (option_or (option_map (place_at v) kept) (option_map bound_place bound)))) ≡ store_at_vpn w (is_some kept) bound
stored v w None None = refl
stored v w None (Some b) = refl
stored v w (Some p) bound = refl

called_shown : (cpu : Cpu) (exits : Bool) → act_shown (act_at_call cpu exits) ≡ (if exits then next.Dies else next.Calls)
called_shown cpu true = refl
called_shown cpu false = refl

trapped_shown : (exc : Exc) (none : Bool) → act_shown (if none then Dies (cause.Trapped exc.code) else Raises exc) ≡ (if none then next.Dies else next.Aside)
trapped_shown exc true = refl
trapped_shown exc false = refl

-- what an environment of the board with these guaranteed mappings sees
abbrev space_of : Shown → ℕ → List Mapping → SpaceValue
space_of b e mappings = record { mappings = mappings; binds = b.binds; number = e }

-- a step that ended as that of such an environment does
abbrev shown_by : Shown → ℕ → List Mapping → ℕ → Cpu → Step → NextAct
shown_by b e mappings handler cpu st = outcome_shown (space_of b e mappings) handler cpu (outcome_of st) (write_after st)

abbrev seen_by : Shown → ℕ → List Mapping → ℕ → Cpu → NextAct
seen_by b e mappings handler cpu = shown_by b e mappings handler cpu (guest_step b.frames (lookup (space_of b e mappings)) cpu)

module _ (b : Shown) (e : ℕ) (x : Environment) (r : Runs b e x) (sound : IsSoundBoard b) where
  abbrev its : Solo
  its = runner_solo b e x

  abbrev maps : List Mapping
  maps = mappings_of b.roster.list e

  guaranteed : (v : ℕ) → is_some (kept_at its.kept v) ≡ is_some (mapping_at maps v)
  guaranteed v = ap (λ (s : Solo). is_guaranteed_vpn s v) (sym (runner_seen b e x r)) ∙ sym (guaranteed_same b e v)

  written : (w : Write) → act_shown (store_act (store_of its (Some w))) ≡ write_shown (space_of b e maps) (Some w)
  written w =
      let v = w.address / page_size in
      let bound = binding_at b.binds.version (stripes b.binds e) v in
      stored v w (kept_at its.kept v) bound ∙ ap (λ (t : Bool). store_at_vpn w t bound) (guaranteed v)

  shown : (st : Step) → act_shown (act_of its st) ≡ shown_by b e maps x.env.handlers.exception b.cpu st
  shown (Retired cpu None) = refl
  shown (Retired cpu (Some w)) = written w
  shown Called = called_shown b.cpu (reg b.cpu 2 == exit_number)
  shown (Trapped exc) = trapped_shown exc (x.env.handlers.exception == 0)

  by_record : (env : EnvValue) → option_map (λ (y : Environment). y.env) (slice_get b.roster.list e) ≡ Some env
      → seen_by b e env.mappings env.handlers.exception b.cpu ≡ act_shown (act_now (world_of b) e)
  by_record env is =
      let same_some : Some env ≡ Some x.env = sym is ∙ ap (option_map (λ (y : Environment). y.env)) r.at in
      let same : env ≡ x.env = cc in
      ap (λ (y : EnvValue). seen_by b e y.mappings y.handlers.exception b.cpu) same
      ∙ ap (λ (ms : List Mapping). seen_by b e ms x.env.handlers.exception b.cpu) (sym (its_mappings b e x r))
      ∙ ap (shown_by b e maps x.env.handlers.exception b.cpu) (its_step b e x r sound)
      ∙ sym (shown (step_alone its))
      ∙ ap (λ (s : Solo). act_shown (act_of s (step_alone s))) (sym (runner_seen b e x r))

-- the runner's next act, by its frame
pub act_is : (b : Shown) (e : ℕ) (env : EnvValue) (cpu : Cpu) → IsSoundBoard b → running b.slots.runner ≡ Some e
    → option_map (λ (y : Environment). y.env) (slice_get b.roster.list e) ≡ Some env → cpu ≡ (solo_of b e).cpu
    → seen_by b e env.mappings env.handlers.exception cpu ≡ act_shown (act_now (world_of b) e)
act_is b e env cpu sound runs is registers =
    let x = runner_runs b e sound runs in
    ap (seen_by b e env.mappings env.handlers.exception) (registers ∙ sym (runner_registers b e sound runs))
    ∙ by_record b e x.0 x.1 sound env is
