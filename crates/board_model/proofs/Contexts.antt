-- Bytes that are left in the context page of an environment, and its start.
use Rattle.std.proofs.Common.{◌≡◌, ◌≢◌, ℕ, ◌+◌, ◌/◌, ◌%◌, List, Bool, true, false, Option, Some, refl, sym, ◌∙◌, ap, rules}
use Rattle.std.specs.Prelude.{◌==◌, if◌then◌else◌, slice_get}
use Rattle.std.specs.Option.{option_map}
use Rattle.aegis_limits.specs.Limits.{page_size}
use Rattle.mips_exec.specs.declared.registers.Cpu.{Cpu}
use Rattle.mips_exec.specs.Access.{Write}
use Rattle.frame_store.specs.Pages.{page_at}
use Rattle.page_book.specs.Rows.{row_in}
use Rattle.env_frames.specs.declared.mapping.Mapping.{Mapping}
use Rattle.env_frames.specs.Context.{context_number, start_area, start_bytes, started_cpu}
use Rattle.env_frames.specs.Frame.{left_in, mapping_at, page_of}
use Rattle.guest_memory.specs.Look.{written_through}
use Rattle.page_laws.specs.Sight.{seen_in}
use Rattle.world_model.specs.declared.life.Life.TheVariants.{Live}
use Rattle.world_model.specs.Upcalls.{start, start_by}
use Rattle.world_model.specs.Solo.{Solo, Store, Kept, kept_after}
use Rattle.board_model.specs.declared.roster.Environment.{Environment}
use Rattle.board_model.specs.Shown.{Shown, handlers_of, mappings_in, mappings_of, registers_in}
use Rattle.board_model.specs.Showing.{pages_seen, solo_seen}
use Rattle.board_model.specs.Sound.{IsSoundBoard}
use Rattle.board_model.specs.Doing.{start_frames, start_registers}
use Rattle.board_model.proofs.Seen.{sights_of, stripe_of}
use Rattle.board_model.proofs.Stores.{guaranteed_sights, other_kept, own_kept}

-- physical memory with these bytes in the context page of an environment
abbrev pub left_by : Shown → ℕ → Write → List (List ℕ)
left_by b e w = left_in (w.address % page_size) w.bytes (page_of (mappings_of b.roster.list e) context_number) b.frames

-- the store that it is to the environment
abbrev pub left_store : Write → Store
left_store w = record { key = Kept context_number; offset = w.address % page_size; bytes = w.bytes }

-- An address within the context page.
module _ (b : Shown) (sound : IsSoundBoard b) (e : ℕ) (w : Write) (number : w.address / page_size ≡ context_number) where
  abbrev maps : List Mapping
  maps = mappings_of b.roster.list e

  abbrev page : Option Mapping
  page = mapping_at maps context_number

  reached : mapping_at maps (w.address / page_size) ≡ page
  reached = ap (mapping_at maps) number

  written : (m : Option Mapping) → left_in (w.address % page_size) w.bytes (option_map (λ (m : Mapping). m.page) m) b.frames ≡ written_through b.frames w m
  written m = search rules

  -- there the bytes stand in the environment's own page
  pub left_own : pages_seen (left_by b e w) maps ≡ kept_after (pages_seen b.frames maps) (left_store w)
  left_own =
      ap (λ frames. pages_seen frames maps) (written page)
      ∙ own_kept b.frames b.pages b.roster.list sound.memory e w page reached
      ∙ ap (λ (n : ℕ). kept_after (pages_seen b.frames maps) (record { key = Kept n; offset = w.address % page_size; bytes = w.bytes })) number

  -- and no other page changes
  pub left_others : (i : ℕ) → i ≢ e → pages_seen (left_by b e w) (mappings_of b.roster.list i) ≡ pages_seen b.frames (mappings_of b.roster.list i)
  left_others i ne = search (rules, other_kept, written, reached)

  pub left_sights : (i p : ℕ) → seen_in i (row_in b.pages) (stripe_of b i) (page_at (left_by b e w)) p ≡ sights_of b i p
  left_sights i p = search (rules, guaranteed_sights, written, reached)

-- An environment that doesn't run, and is started.
abbrev pub waiting : Shown → ℕ → Environment → Solo
waiting b e x = record (solo_seen b e x) { life = Live; cpu = x.env.cpu }

abbrev start_write : Cpu → Write
start_write cpu = record { address = page_size + start_area; bytes = start_bytes cpu }

module _ (b : Shown) (sound : IsSoundBoard b) (e : ℕ) (x : Environment) (at : slice_get b.roster.list e ≡ Some x) where
  same_maps : mappings_of b.roster.list e ≡ x.env.mappings
  same_maps = ap mappings_in at

  started_own : pages_seen (left_by b e (start_write x.env.cpu)) x.env.mappings ≡ kept_after (pages_seen b.frames x.env.mappings) (left_store (start_write x.env.cpu))
  started_own =
      ap (pages_seen (left_by b e (start_write x.env.cpu))) (sym same_maps)
      ∙ left_own b sound e (start_write x.env.cpu) refl
      ∙ ap (λ ms. kept_after (pages_seen b.frames ms) (left_store (start_write x.env.cpu))) same_maps

  -- by the address of its handler of starts
  by_handler : (h : ℕ) → record (waiting b e x) { cpu = started_cpu h x.env.cpu; kept = pages_seen (if h == 0 then b.frames else left_by b e (start_write x.env.cpu)) x.env.mappings } ≡ start_by h (waiting b e x)
  by_handler h = search (rules, started_own)

  -- what is shown of it once it is started
  pub start_seen : record (waiting b e x) { cpu = start_registers b.roster.list e; kept = pages_seen (start_frames b e) x.env.mappings } ≡ start (waiting b e x)
  start_seen = search (rules, by_handler)

-- What other environments see doesn't change with the start of one.
module _ (b : Shown) (sound : IsSoundBoard b) (e : ℕ) where
  pub start_others : (i : ℕ) → i ≢ e → pages_seen (start_frames b e) (mappings_of b.roster.list i) ≡ pages_seen b.frames (mappings_of b.roster.list i)
  start_others i ne = by_test ((handlers_of b.roster.list e).start == 0)
    where
      by_test : (none : Bool) → pages_seen (if none then b.frames else left_by b e (start_write (registers_in (slice_get b.roster.list e)))) (mappings_of b.roster.list i) ≡ pages_seen b.frames (mappings_of b.roster.list i)
      by_test true = refl
      by_test false = left_others b sound e (start_write (registers_in (slice_get b.roster.list e))) refl i ne

  pub start_sights : (i p : ℕ) → seen_in i (row_in b.pages) (stripe_of b i) (page_at (start_frames b e)) p ≡ sights_of b i p
  start_sights i p = by_test ((handlers_of b.roster.list e).start == 0)
    where
      by_test : (none : Bool) → seen_in i (row_in b.pages) (stripe_of b i) (page_at (if none then b.frames else left_by b e (start_write (registers_in (slice_get b.roster.list e))))) p ≡ sights_of b i p
      by_test true = refl
      by_test false = left_sights b sound e (start_write (registers_in (slice_get b.roster.list e))) refl i p
