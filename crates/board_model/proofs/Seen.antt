-- What a board shows of its environments.
use Rattle.std.proofs.Common.{◌≡◌, ◌≢◌, ℕ, ◌<◌, List, length, true, false, Option, Some, IfSome, refl, sym, ◌∙◌, ap, arith, rules, inl, inr}
use Rattle.std.specs.Prelude.{slice_get}
use Rattle.std.proofs.lemmas.Bool.{ne_eqb, eq-eqb, and_parts}
use Rattle.std.proofs.lemmas.Grind.{common_steps}
use Rattle.std.proofs.lemmas.Option.{slice_get_cases}
use Rattle.mips_exec.specs.declared.registers.Cpu.{Cpu}
use Rattle.mips_exec.specs.Step.{step_of, view_of}
use Rattle.env_frames.specs.declared.mapping.Mapping.{Mapping}
use Rattle.frame_store.specs.Pages.{page_at}
use Rattle.page_book.specs.declared.row.PageRow.{PageRow}
use Rattle.page_book.specs.declared.row.PageRow.TheVariants.{Free, Guaranteed}
use Rattle.page_book.specs.Rows.{row_in}
use Rattle.bind_book.specs.declared.binding.Binding.{Binding}
use Rattle.bind_book.specs.Stripe.{binding_at, is_bound, is_of_page, row_of, stripes}
use Rattle.bind_book.proofs.Rows.{found_in_row, row_most}
use Rattle.page_laws.specs.Sight.{seen_in}
use Rattle.page_laws.proofs.Stripes.{bound_somewhere}
use Rattle.guest_memory.specs.Look.{look, mapping_in}
use Rattle.guest_memory.specs.Space.{lookup}
use Rattle.world_model.specs.declared.life.Life.TheVariants.{Live}
use Rattle.world_model.specs.Page.{Mapped, answers_by}
use Rattle.world_model.specs.declared.slot.Runner.{Runner}
use Rattle.world_model.specs.Book.{is_runner, running}
use Rattle.world_model.specs.Solo.{Solo, Seen as Sight, sight}
use Rattle.world_model.specs.Step.{step_alone}
use Rattle.board_model.specs.declared.roster.Environment.{Environment}
use Rattle.board_model.specs.Rings.{rings_of}
use Rattle.board_model.specs.Shown.{Shown, mappings_in, mappings_of}
use Rattle.board_model.specs.Showing.{solo_of, solo_or_absent, solo_seen, cpu_seen, pages_seen, world_of}
use Rattle.board_model.specs.Sound.{IsSoundBoard, PagesAgree, IsAlive, IsLiving, IsOwned}
use Rattle.board_model.specs.Doing.{step_seen, look_of}
use Rattle.board_model.proofs.Looks.{seen_look}
use Rattle.board_model.proofs.Slots.{is_there}
use Rattle.world_model.specs.World.{is_living}

-- the bindings of an environment, and what it sees of the pages that it owns or has bound
abbrev pub stripe_of : Shown → ℕ → ℕ → Option Binding
stripe_of b e = stripes b.binds e

abbrev pub sights_of : Shown → ℕ → ℕ → Option Sight
sights_of b e = seen_in e (row_in b.pages) (stripes b.binds e) (page_at b.frames)

-- an environment whose record, claims, registers, pages and bindings are as they were
pub record IsLike (i : ℕ) (new old : Shown) : Type 0 where
  pub version : new.binds.version ≡ old.binds.version
  pub record_is : slice_get new.roster.list i ≡ slice_get old.roster.list i
  pub rings : rings_of new.claims i ≡ rings_of old.claims i
  pub cpu : (kept : Cpu) → cpu_seen new i kept ≡ cpu_seen old i kept
  pub pages : pages_seen new.frames (mappings_of old.roster.list i) ≡ pages_seen old.frames (mappings_of old.roster.list i)
  pub binds : stripe_of new i ≡ stripe_of old i
  pub sights : sights_of new i ≡ sights_of old i

pub like_solo : (i : ℕ) (new old : Shown) → IsLike i new old → solo_of new i ≡ solo_of old i
like_solo i new old like = search rules

-- an environment that neither runs before nor after, and whose record, claims, pages and bindings are as they were
pub record IsSame (i : ℕ) (new old : Shown) : Type 0 where
  pub version : new.binds.version ≡ old.binds.version
  pub record_is : slice_get new.roster.list i ≡ slice_get old.roster.list i
  pub rings : rings_of new.claims i ≡ rings_of old.claims i
  pub idles : is_runner i new.slots.runner ≡ false
  pub idled : is_runner i old.slots.runner ≡ false
  pub pages : pages_seen new.frames (mappings_of old.roster.list i) ≡ pages_seen old.frames (mappings_of old.roster.list i)
  pub binds : stripe_of new i ≡ stripe_of old i
  pub sights : sights_of new i ≡ sights_of old i

pub same_solo : (i : ℕ) (new old : Shown) → IsSame i new old → solo_of new i ≡ solo_of old i
same_solo i new old same = like_solo i new old (record { version = same.version; record_is = same.record_is; rings = same.rings; cpu = λ kept. rw (same.idles, same.idled) refl; pages = same.pages; binds = same.binds; sights = same.sights })

-- a runner with a number
pub record IsNamed (e : ℕ) (runner : Option Runner) : Type 0 where
  pub its : is_runner e runner ≡ true
  pub others : (i : ℕ) → i ≢ e → is_runner i runner ≡ false

pub named : (e : ℕ) (runner : Option Runner) → running runner ≡ Some e → IsNamed e runner
named e runner is = search (rules, eq-eqb, ne_eqb)

-- the environment that runs, alone
abbrev pub runner_solo : Shown → ℕ → Environment → Solo
runner_solo b e x = record (solo_seen b e x) { life = Live; cpu = b.cpu }

-- a look-up by the parts of what an environment sees
opened_look : (b : Shown) (e v : ℕ) → look_of b e v ≡ look b.frames (mapping_in b.binds.version (mappings_of b.roster.list e) (stripe_of b e)) v
unfolding lookup
opened_look b e v = refl

-- a page that isn't free is there
pub row_there : (pages : List PageRow) (page : ℕ) → row_in pages page ≢ Free → page < length pages
row_there pages page taken = grind (arith, common_steps)

-- a page that is mapped is there, and guaranteed
pub guaranteed_there : (frames : List (List ℕ)) (pages : List PageRow) (list : List Environment) → PagesAgree frames pages list → (e a : ℕ) (m : Mapping) → slice_get (mappings_of list e) a ≡ Some m → m.page < length frames
guaranteed_there frames pages list parted e a m at =
    let its : row_in pages m.page ≡ Guaranteed e = (parted.mapped e).its a m at in
    omega (arith, parted.same, row_there pages m.page (λ free. let both : Guaranteed e ≡ Free = sym its ∙ free in cc))

-- a row with an owner who can let others bind it isn't free
pub owned_taken : (row : PageRow) → IsOwned row → row ≢ Free
owned_taken row owned is = search rules

-- a page that is bound is there, and is bound
pub bound_there : (b : Shown) (e v : ℕ) (y : Binding) → IsSoundBoard b → binding_at b.binds.version (stripe_of b e) v ≡ Some y → (y.page < length b.frames) × (is_bound y.page (stripe_of b e) ≡ true)
bound_there b e v y sound found =
    let at = found_in_row v (stripe_of b e (row_of b.binds.version v)) y found in
    let there = row_there b.pages y.page (owned_taken (row_in b.pages y.page) (sound.books.bound e (row_of b.binds.version v) y at)) in
    (omega (arith, sound.memory.same, there), bound_somewhere y.page (stripe_of b e) (row_of b.binds.version v) (row_most b.binds.version v) (ap (is_of_page y.page) at ∙ eq-eqb y.page y.page refl))

-- What is known where it runs.
pub record Runs (b : Shown) (e : ℕ) (x : Environment) : Type 0 where
  pub at : slice_get b.roster.list e ≡ Some x
  pub lives : x.life ≡ Live
  pub runs : IsNamed e b.slots.runner

-- a live environment has a record
pub live_record : (list : List Environment) (e : ℕ) → IsAlive (slice_get list e) → (x : Environment) × ((slice_get list e ≡ Some x) × (x.life ≡ Live))
live_record list e alive = search rules

-- an environment that is there and lives
pub living_record : (b : Shown) (e : ℕ) → is_living (world_of b) e ≡ true → (x : Environment) × ((slice_get b.roster.list e ≡ Some x) × (x.life ≡ Live))
living_record b e is = search (rules, is_there, and_parts)

-- a live environment as it is shown, whether it runs or not
pub live_shown : (b : Shown) (e : ℕ) (x : Environment) → slice_get b.roster.list e ≡ Some x → x.life ≡ Live → solo_of b e ≡ record (solo_seen b e x) { life = Live }
live_shown b e x at lives = ap (solo_or_absent b e) at ∙ (λ k. record (solo_seen b e x) { life = lives k })

-- a runner is an environment that lives
pub runner_live : (list : List Environment) (e : ℕ) (runner : Option Runner) → IfSome runner (λ r. IsLiving list r.env) → running runner ≡ Some e → IsLiving list e
runner_live list e runner live is = search rules

pub runner_runs : (b : Shown) (e : ℕ) → IsSoundBoard b → running b.slots.runner ≡ Some e → (x : Environment) × Runs b e x
runner_runs b e sound runs = search (rules, runner_live, live_record, named)

module _ (b : Shown) (e : ℕ) (x : Environment) (r : Runs b e x) where
  pub runner_seen : solo_of b e ≡ runner_solo b e x
  runner_seen =
      let cpu : cpu_seen b e x.env.cpu ≡ b.cpu = rw r.runs.its refl in
      ap (solo_or_absent b e) r.at ∙ (λ k. record (solo_seen b e x) { life = r.lives k; cpu = cpu k })

  pub its_mappings : mappings_of b.roster.list e ≡ x.env.mappings
  its_mappings = ap mappings_in r.at

  pub its_look : IsSoundBoard b → (v : ℕ) → look_of b e v ≡ sight (runner_solo b e x) v
  its_look sound v =
      opened_look b e v
      ∙ ap (λ ms. look b.frames (mapping_in b.binds.version ms (stripe_of b e)) v) its_mappings
      ∙ seen_look b.binds.version b.frames e (row_in b.pages) (stripe_of b e) x.env.mappings (runner_solo b e x) refl refl refl refl v
      (λ a m at. guaranteed_there b.frames b.pages b.roster.list sound.memory e a m (ap (λ ms. slice_get ms a) its_mappings ∙ at))
      (λ y at. bound_there b e v y sound at)

  -- the machine's step is what the environment does alone
  pub its_step : IsSoundBoard b → step_seen b e ≡ step_alone (runner_solo b e x)
  its_step sound = ap (λ (l : ℕ → Option Mapped). step_of b.cpu (view_of (answers_by l) b.cpu)) (λ k v. its_look sound v k)

-- the pages that an environment of the board sees
pub kept_seen : (b : Shown) (e : ℕ) → (solo_of b e).kept ≡ pages_seen b.frames (mappings_of b.roster.list e)
kept_seen b e = grind arith

-- where the VPNs of an environment with this record lead, whether it runs or not
record_look : (b : Shown) (e v : ℕ) (x : Environment) → IsSoundBoard b → slice_get b.roster.list e ≡ Some x → look_of b e v ≡ sight (solo_seen b e x) v
record_look b e v x sound at =
    let its : mappings_of b.roster.list e ≡ x.env.mappings = ap mappings_in at in
    opened_look b e v
    ∙ ap (λ ms. look b.frames (mapping_in b.binds.version ms (stripe_of b e)) v) its
    ∙ seen_look b.binds.version b.frames e (row_in b.pages) (stripe_of b e) x.env.mappings (solo_seen b e x) refl refl refl refl v
    (λ a m there. guaranteed_there b.frames b.pages b.roster.list sound.memory e a m (ap (λ ms. slice_get ms a) its ∙ there))
    (λ y found. bound_there b e v y sound found)

-- each environment of the board has a record
has_record : (list : List Environment) (e : ℕ) → e < length list → (x : Environment) × (slice_get list e ≡ Some x)
has_record list e there =
    elim ((slice_get_cases list e).1) [
      | inl at ↦ (at.0, at.2)
      | inr past ↦ absurd (omega (arith, past.0, there))
    ]

-- and of each environment
pub env_look : (b : Shown) (e v : ℕ) → IsSoundBoard b → e < length b.roster.list → look_of b e v ≡ sight (solo_of b e) v
env_look b e v sound there =
    let x = has_record b.roster.list e there in
    record_look b e v x.0 sound x.1 ∙ ap (λ (s : Solo). sight s v) (ap (solo_or_absent b e) (sym x.1))
