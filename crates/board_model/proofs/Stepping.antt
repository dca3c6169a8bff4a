-- The runner's step, on the world that is shown.
use Rattle.std.proofs.Common.{◌≤◌, ◌+◌, ◌≡◌, ◌≢◌, ℕ, ◌/◌, ◌%◌, ◌<◌, List, [], ◌∷◌, ◌++◌, length, Bool, true, false, Option, Some, None, ◌⊎◌, inl, inr, refl, sym, ◌∙◌, ap, subst, arith, get_or-set_other, rules}
use Rattle.std.specs.Prelude.{◌==◌, if◌then◌else◌, slice_get}
use Rattle.std.specs.Option.{option_map, option_or}
use Rattle.std.proofs.lemmas.Bool.{eq-eqb, ne_eqb, or_cases, or_parts}
use Rattle.std.proofs.lemmas.List.{append-nil}
use Rattle.aegis_limits.specs.Limits.{page_size}
use Rattle.mips_exec.specs.Cpu.{reg}
use Rattle.mips_exec.specs.declared.registers.Cpu.{Cpu}
use Rattle.mips_exec.specs.declared.exception.Exc.{Exc}
use Rattle.mips_exec.specs.declared.exception.Outcome.TheVariants as outcome
use Rattle.mips_exec.specs.Access.{Write}
use Rattle.mips_exec.specs.Step.{Step, Retired, Called, Trapped, cpu_after, outcome_of}
use Rattle.frame_store.specs.Pages.{page_at, after_put, with_bytes}
use Rattle.page_book.specs.Row.{is_owned_by}
use Rattle.page_book.specs.Rows.{row_in}
use Rattle.page_book.proofs.Owners.{owner_is}
use Rattle.bind_book.specs.declared.binding.Binding.{Binding}
use Rattle.bind_book.specs.Stripe.{binding_at, is_bound, is_of_page, row_of}
use Rattle.bind_book.proofs.Rows.{found_in_row}
use Rattle.env_frames.specs.declared.mapping.Mapping.{Mapping}
use Rattle.env_frames.specs.Context.{exception_bytes, raised_cpu}
use Rattle.env_frames.specs.Frame.{mapping_at}
use Rattle.guest_memory.specs.Look.{bound_mapping, frames_after, mapping_in, written_through}
use Rattle.guest_memory.specs.Space.{lookup}
use Rattle.world_model.specs.declared.life.Life.{Life}
use Rattle.world_model.specs.declared.life.Life.TheVariants.{Live}
use Rattle.world_model.specs.declared.life.Cause.TheVariants as cause
use Rattle.world_model.specs.declared.slot.Runner.{Runner}
use Rattle.world_model.specs.Table.{set_at}
use Rattle.world_model.specs.Book.{running, sees}
use Rattle.world_model.specs.Call.{exit_number}
use Rattle.world_model.specs.Upcalls.{raise}
use Rattle.call_verdicts.specs.Granted.{AgainAsks, GrantedMay}
use Rattle.filter_tree.specs.Laws.{FirstIsNumbered}
use Rattle.world_model.specs.Item.{Step as AStep, absorb, absorb_all}
use Rattle.world_model.specs.PageCalls.{left_at, left_if}
use Rattle.world_model.specs.Solo.{Solo, Store, Physical, bound_place, kept_after, place_at, store_of, store_through, with_store}
use Rattle.world_model.specs.Step.{Act, act_of, acted, call_act, step_alone, stepped, store_act, trap_act}
use Rattle.world_model.specs.World.{World, after, in_turn, no_change, only, run_phases, tells}
use Rattle.world_model.specs.Tick as tick
use Rattle.world_model.proofs.Stores.{kept_as_was}
use Rattle.page_laws.specs.Sight.{Sees, seen_in}
use Rattle.page_laws.proofs.Sights.{readers_see, writer_sees}
use Rattle.page_laws.proofs.Stripes.{bound_row}
use Rattle.run_model.proofs.Phases.{in_turn_is_each}
use Rattle.board_model.specs.declared.roster.Environment.{Environment}
use Rattle.board_model.specs.Shown.{Shown, handlers_in, handlers_of, mappings_in, mappings_of}
use Rattle.board_model.specs.Showing.{world_of, book_of, solo_of, solo_or_absent, solo_seen, cpu_seen, page_seen, pages_seen}
use Rattle.board_model.specs.Sound.{HasClaimNumbers, HasRunner, IsSoundBoard, IsLiving, IsOwned}
use Rattle.board_model.specs.Laws.{StepShowsModel}
use Rattle.board_model.specs.Doing.{after_death, step_seen, lookup_of, after_machine_step, after_raise, after_trap, after_runner_call, after_runner_step}
use Rattle.board_model.proofs.Contexts.{left_by, left_others, left_own, left_sights, left_store}
use Rattle.board_model.proofs.Looks.{leads_by}
use Rattle.board_model.proofs.Pages.{its_store}
use Rattle.board_model.proofs.Parts.{worlds, by_env, set_here, set_else, only_here, only_else}
use Rattle.board_model.proofs.Seen.{same_solo, stripe_of, sights_of, Runs, runner_solo, runner_seen, runner_runs, its_mappings, its_step, live_record, bound_there}
use Rattle.board_model.proofs.Serving.{Leaves, Serves, told, call_serves, called_leaves, died_serves}
use Rattle.board_model.proofs.Stores.{own_kept, other_kept, guaranteed_sights, sights_stay, put_table, bound_kept}

-- the mapping that a VPN has, by the parts of what an environment sees
opened_lookup : (b : Shown) (e v : ℕ) → lookup_of b e v ≡ mapping_in b.binds.version (mappings_of b.roster.list e) (stripe_of b e) v
unfolding lookup
opened_lookup b e v = refl

-- who sees a page that isn't guaranteed lives
pub seer_live : (b : Shown) (i page : ℕ) → IsSoundBoard b → sees (book_of b) i page ≡ true → IsLiving b.roster.list i
seer_live b i page sound is = by_cause (or_cases (is_owned_by i (row_in b.pages page)) (is_bound page (stripe_of b i)) is)
  where
    by_row : (row : ℕ) (o : Option Binding) → stripe_of b i row ≡ o → is_of_page page o ≡ true → IsLiving b.roster.list i
    by_row row None at its = cc
    by_row row (Some y) at its = sound.books.binders i row y at

    by_cause : (is_owned_by i (row_in b.pages page) ≡ true) ⊎ (is_bound page (stripe_of b i) ≡ true) → IsLiving b.roster.list i
    by_cause (inl owns) = sound.books.owners page i (owner_is i (row_in b.pages page) owns)
    by_cause (inr binds) = let there = bound_row page (stripe_of b i) binds in by_row there.0 (stripe_of b i there.0) refl there.1

-- a step that is a call changed nothing yet
pub came_called : (b : Shown) (e : ℕ) (st : Step) → outcome_of st ≡ outcome.Call → after_runner_call (after_machine_step b e st) e ≡ after_runner_step b e st
came_called b e (Retired cpu write) is = cc
came_called b e Called is = refl
came_called b e (Trapped exc) is = cc

-- nothing is left to the writer
writer_left : (w : World) (e : ℕ) (x : Option Store) → (tick.act_reply e (store_act x) w).items e ≡ []
writer_left w e None = refl
writer_left w e (Some x) = grind (arith, eq-eqb)

-- The runner's store: physical memory after it, and the store that the model knows.
abbrev pub struck : Shown → Cpu → List (List ℕ) → Shown
struck b cpu frames = record b { cpu = cpu; frames = frames }

-- a store that goes to a page by its number in physical memory, and that memory after it
abbrev store_to : Write → ℕ → Store
store_to w page = record { key = Physical page; offset = w.address % page_size; bytes = w.bytes }

abbrev memory_after : Shown → Write → ℕ → List (List ℕ)
memory_after b w page = after_put b.frames page (w.address % page_size) w.bytes

record Strikes (b : Shown) (e : ℕ) (x : Environment) (cpu : Cpu) (frames : List (List ℕ)) (store : Option Store) : Type 0 where
  own_pages : pages_seen frames x.env.mappings ≡ (acted (store_act store) (runner_solo b e x)).kept
  own_sights : seen_in e (row_in b.pages) (stripe_of b e) (page_at frames) ≡ (acted (store_act store) (runner_solo b e x)).seen
  others : (i : ℕ) → i ≢ e → solo_of (struck b cpu frames) i ≡ absorb_all (solo_of b i) ((tick.act_reply e (store_act store) (world_of b)).items i)

module _ (b : Shown) (e : ℕ) (x : Environment) (r : Runs b e x) (sound : IsSoundBoard b) (cpu : Cpu) (w : Write) where
  ms_are : mappings_of b.roster.list e ≡ x.env.mappings
  ms_are = its_mappings b e x r

  -- an environment that goes on as it is
  as_was : (i : ℕ) (frames : List (List ℕ)) → i ≢ e → pages_seen frames (mappings_of b.roster.list i) ≡ pages_seen b.frames (mappings_of b.roster.list i)
      → ((p : ℕ) → seen_in i (row_in b.pages) (stripe_of b i) (page_at frames) p ≡ sights_of b i p) → solo_of (struck b cpu frames) i ≡ solo_of b i
  as_was i frames ne pages sights = same_solo i (struck b cpu frames) b (record { version = refl; record_is = refl; rings = refl; idles = r.runs.others i ne; idled = r.runs.others i ne; pages = pages; binds = refl; sights = λ k p. sights p k })

  -- through a guaranteed mapping
  kept_strikes : (m : Mapping) → mapping_at (mappings_of b.roster.list e) (w.address / page_size) ≡ Some m → Strikes b e x cpu (written_through b.frames w (Some m)) (Some (its_store w))
  kept_strikes m is = record {
    own_pages =
        ap (pages_seen (written_through b.frames w (Some m))) (sym ms_are)
        ∙ own_kept b.frames b.pages b.roster.list sound.memory e w (Some m) is
        ∙ ap (λ ms. kept_after (pages_seen b.frames ms) (its_store w)) ms_are;
    own_sights = λ k p. guaranteed_sights b.frames b.pages b.binds b.roster sound.memory sound.books e w e (Some m) is p k;
    others = λ i ne. as_was i (written_through b.frames w (Some m)) ne
        (other_kept b.frames b.pages b.roster.list sound.memory e w i ne (Some m) is)
        (guaranteed_sights b.frames b.pages b.binds b.roster sound.memory sound.books e w i (Some m) is);
  }

  -- through a binding
  module _ (y : Binding) (found : binding_at b.binds.version (stripe_of b e) (w.address / page_size) ≡ Some y) where
    there : y.page < length b.frames
    there = (bound_there b e (w.address / page_size) y sound found).0

    lent : IsOwned (row_in b.pages y.page)
    lent = sound.books.bound e (row_of b.binds.version (w.address / page_size)) y (found_in_row (w.address / page_size) (stripe_of b e (row_of b.binds.version (w.address / page_size))) y found)

    table : (p : ℕ) → page_at (memory_after b w y.page) p ≡ set_at y.page (with_bytes (page_at b.frames y.page) (w.address % page_size) w.bytes) (page_at b.frames) p
    table = put_table b.frames y.page (w.address % page_size) w.bytes there

    pages_stay : (i : ℕ) → pages_seen (memory_after b w y.page) (mappings_of b.roster.list i) ≡ pages_seen b.frames (mappings_of b.roster.list i)
    pages_stay i = bound_kept b.frames b.pages b.roster.list sound.memory i w y.page there lent

    -- what one sees to whom the bytes were given
    given_sights : (i : ℕ) (s : Solo) → Sees i (row_in b.pages) (stripe_of b i) (set_at y.page (with_bytes (page_at b.frames y.page) (w.address % page_size) w.bytes) (page_at b.frames)) s →
        seen_in i (row_in b.pages) (stripe_of b i) (page_at (memory_after b w y.page)) ≡ s.seen
    given_sights i s sees =
        ap (seen_in i (row_in b.pages) (stripe_of b i)) (λ k p. table p k) ∙ (λ k p. sym (sees.seen p) k)

    reader : (i : ℕ) → i ≢ e → (z : Environment) → slice_get b.roster.list i ≡ Some z → z.life ≡ Live → sees (book_of b) i y.page ≡ true →
        solo_of (struck b cpu (memory_after b w y.page)) i ≡ absorb_all (solo_of b i) (left_if true y.page (store_to w y.page))
    reader i ne z at lives seen =
        let new = struck b cpu (memory_after b w y.page) in
        let s : Solo = record (solo_seen b i z) { life = Live } in
        let now : cpu_seen new i z.env.cpu ≡ cpu_seen b i z.env.cpu = rw (r.runs.others i ne) refl in
        let mine : mappings_of b.roster.list i ≡ z.env.mappings = ap mappings_in at in
        let kept : pages_seen new.frames z.env.mappings ≡ kept_after s.kept (store_to w y.page) =
        ap (pages_seen new.frames) (sym mine) ∙ pages_stay i ∙ ap (pages_seen b.frames) mine
        ∙ sym (kept_as_was s.kept y.page (w.address % page_size) w.bytes) in
        let sights = given_sights i (absorb_all s (left_if (sees (book_of b) i y.page) y.page (store_to w y.page)))
        (readers_see i y.page (store_to w y.page) (book_of b) (page_at b.frames) s (record { binds = λ row. refl; seen = λ p. refl }) refl) in
        ap (solo_or_absent new i) at
        ∙ (λ k. record (solo_seen b i z) { life = lives k; cpu = now k; kept = kept k; seen = (sights ∙ ap (λ t. (absorb_all s (left_if t y.page (store_to w y.page))).seen) seen) k })
        ∙ ap (λ (l : Life). absorb_all (record (solo_seen b i z) { life = l }) (left_if true y.page (store_to w y.page))) (sym lives)
        ∙ ap (λ s. absorb_all s (left_if true y.page (store_to w y.page))) (sym (ap (solo_or_absent b i) at))

    other : (i : ℕ) → i ≢ e → solo_of (struck b cpu (memory_after b w y.page)) i ≡ absorb_all (solo_of b i) (left_at (book_of b) e (store_to w y.page) (Physical y.page) i)
    other i ne =
        by_sight (sees (book_of b) i y.page) refl
        ∙ ap (λ t. absorb_all (solo_of b i) (if t then [] else left_if (sees (book_of b) i y.page) y.page (store_to w y.page))) (sym (ne_eqb i e ne))
      where
        by_sight : (t : Bool) → sees (book_of b) i y.page ≡ t → solo_of (struck b cpu (memory_after b w y.page)) i ≡ absorb_all (solo_of b i) (left_if (sees (book_of b) i y.page) y.page (store_to w y.page))
        by_sight true seen =
            let live = seer_live b i y.page sound seen in
            let z = live_record b.roster.list i live.1 in
            reader i ne z.0 z.1.0 z.1.1 seen ∙ ap (λ t. absorb_all (solo_of b i) (left_if t y.page (store_to w y.page))) (sym seen)
        by_sight false blind =
            let apart = or_parts (is_owned_by i (row_in b.pages y.page)) (is_bound y.page (stripe_of b i)) blind in
            as_was i (memory_after b w y.page) ne (pages_stay i)
            (sights_stay i (row_in b.pages) (stripe_of b i) (page_at b.frames) (page_at (memory_after b w y.page)) y.page apart.0 apart.1
            (λ p differs. get_or-set_other b.frames y.page p (with_bytes (page_at b.frames y.page) (w.address % page_size) w.bytes) [] differs))
            ∙ ap (λ t. absorb_all (solo_of b i) (left_if t y.page (store_to w y.page))) (sym blind)

    bound_strikes : Strikes b e x cpu (written_through b.frames w (Some (bound_mapping y))) (Some (store_to w y.page))
    bound_strikes = record {
      own_pages =
          ap (pages_seen (memory_after b w y.page)) (sym ms_are) ∙ pages_stay e ∙ ap (pages_seen b.frames) ms_are
          ∙ sym (kept_as_was (pages_seen b.frames x.env.mappings) y.page (w.address % page_size) w.bytes);
      own_sights = given_sights e (with_store (store_to w y.page) (runner_solo b e x)) (writer_sees e y.page (store_to w y.page) (row_in b.pages) (stripe_of b e) (page_at b.frames) (runner_solo b e x) (record { binds = λ row. refl; seen = λ p. refl }) refl);
      others = other;
    }

  none_strikes : Strikes b e x cpu b.frames None
  none_strikes = record { own_pages = refl; own_sights = refl; others = λ i ne. as_was i b.frames ne refl (λ p. refl) }

  -- by the mapping and the binding of the VPN
  strikes_by : (m : Option Mapping) (y : Option Binding) → mapping_at (mappings_of b.roster.list e) (w.address / page_size) ≡ m → binding_at b.binds.version (stripe_of b e) (w.address / page_size) ≡ y →
      Strikes b e x cpu (written_through b.frames w (option_or m (option_map bound_mapping y))) (option_map (store_through w) (option_or (option_map (place_at (w.address / page_size)) (option_map (page_seen b.frames) m)) (option_map bound_place y)))
  strikes_by (Some m) y is found = kept_strikes m is
  strikes_by None (Some y) is found = bound_strikes y found
  strikes_by None None is found = none_strikes

  strikes : Strikes b e x cpu (frames_after b.frames (lookup_of b e) (Some w)) (store_of (runner_solo b e x) (Some w))
  strikes =
      let v = w.address / page_size in
      let ms = mappings_of b.roster.list e in
      let leads = leads_by b.binds.version b.frames e (row_in b.pages) (stripe_of b e) ms (runner_solo b e x) (ap (pages_seen b.frames) (sym ms_are)) refl refl refl v in
      subst (λ o. Strikes b e x cpu (written_through b.frames w o) (store_of (runner_solo b e x) (Some w))) (sym (opened_lookup b e v))
      (subst (λ o. Strikes b e x cpu (written_through b.frames w (option_or (mapping_at ms v) (option_map bound_mapping (binding_at b.binds.version (stripe_of b e) v)))) (option_map (store_through w) o)) (sym leads)
      (strikes_by (mapping_at ms v) (binding_at b.binds.version (stripe_of b e) v) refl refl))

-- whatever the step writes
wrote_strikes : (b : Shown) (e : ℕ) (x : Environment) → Runs b e x → IsSoundBoard b → (cpu : Cpu) (w : Option Write) → Strikes b e x cpu (frames_after b.frames (lookup_of b e) w) (store_of (runner_solo b e x) w)
wrote_strikes b e x r sound cpu None = record { own_pages = refl; own_sights = refl; others = λ i ne. same_solo i (struck b cpu b.frames) b (record { version = refl; record_is = refl; rings = refl; idles = r.runs.others i ne; idled = r.runs.others i ne; pages = refl; binds = refl; sights = refl }) }
wrote_strikes b e x r sound cpu (Some w) = strikes b e x r sound cpu w

module _ (b : Shown) (e : ℕ) (x : Environment) (r : Runs b e x) (sound : IsSoundBoard b) where
  -- the world after the runner's step, which comes to this
  abbrev stepping : Act → World
  stepping act = after (world_of b) (in_turn (tells e AStep ∷ tick.act_reply e act ∷ []) (world_of b))

  -- absorbing the step is what it comes to
  absorbs : (st : Step) → step_alone (runner_solo b e x) ≡ st → absorb (solo_of b e) AStep ≡ stepped (runner_solo b e x) st
  absorbs st at = ap (λ s. absorb s AStep) (runner_seen b e x r) ∙ ap (stepped (runner_solo b e x)) at

  acts : (st : Step) → step_alone (runner_solo b e x) ≡ st → cpu_after b.cpu st ≡ b.cpu → absorb (solo_of b e) AStep ≡ acted (act_of (runner_solo b e x) st) (solo_of b e)
  acts st at still = absorbs st at ∙ ap (λ cpu. acted (act_of (runner_solo b e x) st) (record (runner_solo b e x) { cpu = cpu })) still ∙ ap (acted (act_of (runner_solo b e x) st)) (sym (runner_seen b e x r))

  -- the runner once its step retired
  after_write : (cpu : Cpu) (frames : List (List ℕ)) (y : Option Store) → Strikes b e x cpu frames y → solo_of (struck b cpu frames) e ≡ acted (store_act y) (record (runner_solo b e x) { cpu = cpu })
  after_write cpu frames y strikes =
      runner_seen (struck b cpu frames) e x (record { at = r.at; lives = r.lives; runs = r.runs })
      ∙ by_store y strikes.own_pages strikes.own_sights
    where
      by_store : (y : Option Store) → pages_seen frames x.env.mappings ≡ (acted (store_act y) (runner_solo b e x)).kept → seen_in e (row_in b.pages) (stripe_of b e) (page_at frames) ≡ (acted (store_act y) (runner_solo b e x)).seen →
          runner_solo (struck b cpu frames) e x ≡ acted (store_act y) (record (runner_solo b e x) { cpu = cpu })
      by_store None kept sights = λ k. record (runner_solo b e x) { cpu = cpu; kept = kept k; seen = sights k }
      by_store (Some y) kept sights = λ k. record (runner_solo b e x) { cpu = cpu; kept = kept k; seen = sights k }

  -- each environment once the runner stored
  struck_solos : (cpu : Cpu) (frames : List (List ℕ)) (y : Option Store) → Strikes b e x cpu frames y → absorb (solo_of b e) AStep ≡ acted (store_act y) (record (runner_solo b e x) { cpu = cpu }) →
      (i : ℕ) → solo_of (struck b cpu frames) i ≡ absorb_all (absorb_all (solo_of b i) (only e (AStep ∷ []) i)) ((tick.act_reply e (store_act y) (world_of b)).items i)
  struck_solos cpu frames y strikes steps = search (rules, by_env, only_here, writer_left, only_else, strikes, after_write)

  retired : (cpu : Cpu) (w : Option Write) → step_alone (runner_solo b e x) ≡ Retired cpu w → world_of (after_machine_step b e (Retired cpu w)) ≡ stepping (act_of (runner_solo b e x) (Retired cpu w))
  retired cpu w at = by_store (store_of (runner_solo b e x) w) (wrote_strikes b e x r sound cpu w) (absorbs (Retired cpu w) at)
    where
      rows : (b.ledger.rows ++ []) ++ [] ≡ b.ledger.rows
      rows = append-nil (b.ledger.rows ++ []) ∙ append-nil b.ledger.rows

      by_store : (y : Option Store) → Strikes b e x cpu (frames_after b.frames (lookup_of b e) w) y → absorb (solo_of b e) AStep ≡ acted (store_act y) (record (runner_solo b e x) { cpu = cpu }) →
          world_of (after_machine_step b e (Retired cpu w)) ≡ stepping (store_act y)
      by_store None strikes steps =
          worlds (world_of (after_machine_step b e (Retired cpu w))) (run_phases (world_of b) (tells e AStep ∷ tick.act_reply e (store_act None) ∷ [])) refl refl
          (struck_solos cpu (frames_after b.frames (lookup_of b e) w) None strikes steps) (sym rows)
          ∙ sym (in_turn_is_each (world_of b) (tells e AStep ∷ tick.act_reply e (store_act None) ∷ []))
      by_store (Some y) strikes steps =
          worlds (world_of (after_machine_step b e (Retired cpu w))) (run_phases (world_of b) (tells e AStep ∷ tick.act_reply e (store_act (Some y)) ∷ [])) refl refl
          (struck_solos cpu (frames_after b.frames (lookup_of b e) w) (Some y) strikes steps) (sym rows)
          ∙ sym (in_turn_is_each (world_of b) (tells e AStep ∷ tick.act_reply e (store_act (Some y)) ∷ []))

  -- a step that retires is the model's
  pub retired_step : (o : Option Runner) → running o ≡ Some e → (cpu : Cpu) (w : Option Write) → step_seen b e ≡ Retired cpu w → world_of (after_machine_step b e (step_seen b e)) ≡ after (world_of b) (tick.step_when (world_of b) o)
  retired_step None is cpu w at = cc
  retired_step (Some runner) is cpu w at =
      let same : e ≡ runner.env = cc in
      ap (λ st. world_of (after_machine_step b e st)) at
      ∙ retired cpu w (sym (its_step b e x r sound) ∙ at)
      ∙ ap (λ st. stepping (act_of (runner_solo b e x) st)) (sym at ∙ its_step b e x r sound)
      ∙ ap (λ (s : Solo). stepping (act_of s (step_alone s))) (sym (runner_seen b e x r))
      ∙ ap (λ n. after (world_of b) (in_turn (tells n AStep ∷ tick.act_reply n (tick.act_now (world_of b) n) ∷ []) (world_of b))) same

  -- The runner's exception goes to its handler: the words stand in its context page, and nobody else's page changes.
  raised_serves : (exc : Exc) → Serves b e (raise exc (solo_of b e)) (no_change (world_of b)) (after_raise b e (handlers_of b.roster.list e).exception exc)
  raised_serves exc =
      let w : Write = record { address = page_size; bytes = exception_bytes exc b.cpu } in
      let now = after_raise b e (handlers_of b.roster.list e).exception exc in
      let maps = its_mappings b e x r in
      let pages : pages_seen now.frames x.env.mappings ≡ kept_after (pages_seen b.frames x.env.mappings) (left_store w) =
      ap (pages_seen (left_by b e w)) (sym maps) ∙ left_own b sound e w refl ∙ ap (λ ms. kept_after (pages_seen b.frames ms) (left_store w)) maps in
      record {
        book = refl;
        count = refl;
        solos = by_env (solo_of now) (λ i. absorb_all (set_at e (raise exc (solo_of b e)) (solo_of b) i) []) e
            (runner_seen now e x (record { at = r.at; lives = r.lives; runs = r.runs })
            ∙ (λ k. record (runner_solo b e x) { cpu = raised_cpu (handlers_in (r.at k)).exception exc b.cpu; kept = pages k; seen = λ p. left_sights b sound e w refl e p k })
            ∙ ap (raise exc) (sym (runner_seen b e x r))
            ∙ sym (set_here e (raise exc (solo_of b e)) (solo_of b)))
            (λ i ne. same_solo i now b (search (rules, (r.runs.others i ne), (left_others b sound e w refl i ne), (left_sights b sound e w refl i)))
            ∙ sym (set_else e i (raise exc (solo_of b e)) (solo_of b) ne));
        rows = sym (append-nil b.ledger.rows);
        room = omega arith;
        spare = refl;
        time = refl;
      }

  trapped_serves : (exc : Exc) → Serves b e (acted (trap_act x.env.handlers.exception exc) (solo_of b e)) (tick.act_reply e (trap_act x.env.handlers.exception exc) (world_of b)) (after_trap b e exc)
  trapped_serves exc =
      let handler : (handlers_of b.roster.list e).exception ≡ x.env.handlers.exception = ap (λ o. (handlers_in o).exception) r.at in
      subst (λ h. Serves b e (acted (trap_act h exc) (solo_of b e)) (tick.act_reply e (trap_act h exc) (world_of b)) (after_trap b e exc)) handler
      (by_test ((handlers_of b.roster.list e).exception == 0) refl)
    where
      by_test : (none : Bool) → ((handlers_of b.roster.list e).exception == 0) ≡ none → Serves b e (acted (trap_act (handlers_of b.roster.list e).exception exc) (solo_of b e)) (tick.act_reply e (trap_act (handlers_of b.roster.list e).exception exc) (world_of b)) (after_trap b e exc)
      by_test true none = rw none (died_serves b e x r sound (cause.Trapped exc.code))
      by_test false some = rw some (raised_serves exc)

  -- whatever the step comes to
  came : GrantedMay → AgainAsks → FirstIsNumbered → HasClaimNumbers b → (st : Step) → step_alone (runner_solo b e x) ≡ st → world_of (after_runner_step b e st) ≡ stepping (act_of (runner_solo b e x) st)
  came law again unique numbered (Retired cpu w) at = retired cpu w at
  came law again unique numbered Called at =
      let act = call_act b.cpu in
      told b e AStep act (after_runner_call b e) (call_serves b e x r sound unique numbered law again (reg b.cpu 2 == exit_number)) (acts Called at refl)
  came law again unique numbered (Trapped exc) at =
      let act = trap_act x.env.handlers.exception exc in
      told b e AStep act (after_trap b e exc) (trapped_serves exc) (acts (Trapped exc) at refl)

  stepped_alone : GrantedMay → AgainAsks → FirstIsNumbered → HasClaimNumbers b → (o : Option Runner) → running o ≡ Some e → world_of (after_runner_step b e (step_seen b e)) ≡ after (world_of b) (tick.step_when (world_of b) o)
  stepped_alone law again unique numbered None is = cc
  stepped_alone law again unique numbered (Some runner) is =
      let same : e ≡ runner.env = cc in
      came law again unique numbered (step_seen b e) (sym (its_step b e x r sound))
      ∙ ap (λ st. stepping (act_of (runner_solo b e x) st)) (its_step b e x r sound)
      ∙ ap (λ (s : Solo). stepping (act_of s (step_alone s))) (sym (runner_seen b e x r))
      ∙ ap (λ n. after (world_of b) (in_turn (tells n AStep ∷ tick.act_reply n (tick.act_now (world_of b) n) ∷ []) (world_of b))) same

-- The same of any board.
pub stepped_world : GrantedMay → AgainAsks → FirstIsNumbered → StepShowsModel
stepped_world law again unique b e has numbers =
    let x = runner_runs b e has.sound has.runs in
    stepped_alone b e x.0 x.1 has.sound law again unique numbers b.slots.runner has.runs

pub came_leaves : (b : Shown) (e : ℕ) (st : Step) → HasRunner b e → Leaves b (after_runner_step b e st)
came_leaves b e (Retired cpu w) has = record { room = omega arith; spare = refl; time = refl; numbers = omega arith }
came_leaves b e Called has = called_leaves b e (reg b.cpu 2 == exit_number) has
came_leaves b e (Trapped exc) has =
    let x = runner_runs b e has.sound has.runs in
    let s = trapped_serves b e x.0 x.1 has.sound exc in record { room = s.room; spare = s.spare; time = s.time; numbers = by_handler ((handlers_of b.roster.list e).exception == 0) }
  where
    by_handler : (none : Bool) → (if none then after_death b e (cause.Trapped exc.code) else after_raise b e (handlers_of b.roster.list e).exception exc).claims.next ≤ b.claims.next + 1
    by_handler true = omega arith
    by_handler false = omega arith
