-- What comes of the runner's act: what each environment sees after it.
use Rattle.std.proofs.Common.{◌≡◌, ◌≢◌, ◌≤◌, ℕ, List, [], Bool, true, false, Option, refl, sym, ◌∙◌, ap, subst, arith}
use Rattle.std.proofs.lemmas.Grind.{common_steps}
use Rattle.std.specs.Prelude.{◌==◌, if◌then◌else◌}
use Rattle.std.specs.Option.{option_map}
use Rattle.std.proofs.lemmas.Bool.{eq-eqb, eqb-true, ne_eqb}
use Rattle.frame_store.specs.Pages.{with_bytes, zero_page}
use Rattle.mips_exec.specs.declared.registers.Cpu.{Cpu}
use Rattle.page_book.specs.declared.row.Capabilities.{Capabilities}
use Rattle.page_book.specs.declared.row.PageRow.{PageRow}
use Rattle.page_book.specs.declared.row.PageRow.TheVariants.{Free}
use Rattle.page_book.specs.Row.{is_owned_by, released as released_row}
use Rattle.page_book.proofs.Owners.{released_none, released_own, released_owned}
use Rattle.bind_book.specs.declared.binding.Binding.{Binding}
use Rattle.bind_book.specs.Stripe.{goes_with, without}
use Rattle.bind_book.proofs.Swept.{own_goes}
use Rattle.world_model.specs.declared.call.Deed.TheVariants.{Allocates}
use Rattle.world_model.specs.declared.life.Life.TheVariants.{Live}
use Rattle.world_model.specs.declared.life.Cause.{Cause}
use Rattle.world_model.specs.Table.{set_at}
use Rattle.world_model.specs.Book.{Book, sees}
use Rattle.world_model.specs.Death.{death, death_items, lost_with}
use Rattle.world_model.specs.Item.{Item, absorb_all}
use Rattle.world_model.specs.PageCalls.{left_at, left_by, left_if, page_bytes}
use Rattle.world_model.specs.Solo.{Solo, Store, Key, Kept, Physical, dead, is_physical, with_store, stored_sight}
use Rattle.world_model.specs.Step.{Stores}
use Rattle.world_model.specs.World.{World, no_items}
use Rattle.run_model.specs.Acting.{Acts, Does}
use Rattle.page_laws.specs.Sight.{IsStripe, Sees}
use Rattle.page_laws.proofs.Mourning.{mourners_lose}
use Rattle.page_laws.proofs.Sights.{readers_see, writer_sees, HasNone}
use Rattle.page_laws.proofs.Stripes.{without_ends}
use Rattle.sharing_law.proofs.Given.{dead_absorbs}
use Rattle.sharing_law.proofs.Sound.{Sound, sees_nothing}

-- What becomes of an allocated page and of its bytes: it was its owner's and has them still; a runner stored to it; or it was free, and its owner called for it, and it has zeros.
pub data Fate (w : World) (o page : ℕ) (bytes : List ℕ) : Type 0 where
  Stays : is_owned_by o (w.book.pages page) ≡ true → bytes ≡ page_bytes w page → Fate w o page bytes
  Written : is_owned_by o (w.book.pages page) ≡ true → (e : ℕ) → (x : Store) → Acts w e (Stores x) → x.key ≡ Physical page → bytes ≡ with_bytes (page_bytes w page) x.offset x.bytes → Fate w o page bytes
  Taken : (words : Capabilities) → Does w o (Allocates page words) → w.book.pages page ≡ Free → bytes ≡ zero_page → Fate w o page bytes

-- the runner goes on, or it has nothing any more
pub data Fortune (e : ℕ) (s : Solo) (b : Book) : Type 0 where
  GoesOn : s.life ≡ Live → Fortune e s b
  Ends : HasNone e b.pages (b.binds e) → Fortune e s b

-- what comes of a runner, which is s after its act and its answer, to each environment: the book after it, and what each is given
pub record Brings (w : World) (e : ℕ) (s : Solo) (b : Book) (items : ℕ → List Item) : Type 0 where
  pub bytes : ℕ → List ℕ
  pub own : Sees e b.pages (b.binds e) bytes (absorb_all s (items e))
  pub others : (i : ℕ) → i ≢ e → (w.solos i).life ≡ Live → Sees i b.pages (b.binds i) bytes (absorb_all (w.solos i) (items i))
  pub none : (i : ℕ) → i ≢ e → HasNone i w.book.pages (w.book.binds i) → HasNone i b.pages (b.binds i)
  pub stripes : (i : ℕ) → IsStripe (b.binds i)
  pub behind : (page : ℕ) → b.page_count ≤ page → b.pages page ≡ Free
  pub fate : (o page : ℕ) → is_owned_by o (b.pages page) ≡ true → Fate w o page (bytes page)
  pub fortune : Fortune e s b

-- who has the same bindings and sees the same
pub as_before : (e : ℕ) (pages : ℕ → PageRow) (stripe : ℕ → Option Binding) (bytes : ℕ → List ℕ) (s t : Solo) → t.binds ≡ s.binds → t.seen ≡ s.seen → Sees e pages stripe bytes s → Sees e pages stripe bytes t
as_before e pages stripe bytes s t binds sights seen = grind (arith, common_steps)

module _ (w : World) (e : ℕ) (sound : Sound w) (lives : (w.solos e).life ≡ Live) where
  -- An act that changes nothing that is seen: the book may be another one with the same pages and bindings.
  pub silent_but : (s : Solo) (b : Book) → s.life ≡ Live → s.binds ≡ (w.solos e).binds → s.seen ≡ (w.solos e).seen
      → Brings w e s (record b { page_count = w.book.page_count; pages = w.book.pages; binds = w.book.binds }) no_items
  silent_but s b alive binds sights = record {
    bytes = page_bytes w;
    own = as_before e w.book.pages (w.book.binds e) (page_bytes w) (w.solos e) s binds sights (sound.agreed e);
    others = λ i ne live. sound.agreed i;
    none = λ i ne before. before;
    stripes = sound.stripes;
    behind = sound.behind;
    fate = λ o page owns. Stays owns refl;
    fortune = GoesOn alive;
  }

  pub silent : (s : Solo) → s.life ≡ Live → s.binds ≡ (w.solos e).binds → s.seen ≡ (w.solos e).seen → Brings w e s w.book no_items
  silent s alive binds sights = silent_but s w.book alive binds sights

  -- A store.
  module _ (cpu : Cpu) (x : Store) (acts : Acts w e (Stores x)) where
    abbrev writer : Solo
    writer = record (w.solos e) { cpu = cpu }

    kept_sights : (v : ℕ) → x.key ≡ Kept v → (with_store x writer).seen ≡ (w.solos e).seen
    kept_sights v is = λ k page. (if is_physical page (is k) then option_map (stored_sight x) ((w.solos e).seen page) else (w.solos e).seen page)

    -- the bytes once they are in the page
    abbrev written : ℕ → ℕ → List ℕ
    written page = set_at page (with_bytes (page_bytes w page) x.offset x.bytes) (page_bytes w)

    to_bound : (page : ℕ) → x.key ≡ Physical page → Brings w e (with_store x writer) w.book (left_at w.book e x (Physical page))
    to_bound page is = record {
      bytes = written page;
      own = subst (λ its. Sees e w.book.pages (w.book.binds e) (written page) (absorb_all (with_store x writer) its)) (ap (λ t. if t then [] else left_if (sees w.book e page) page x) (sym (eq-eqb e e refl)))
          (writer_sees e page x w.book.pages (w.book.binds e) (page_bytes w) writer (as_before e w.book.pages (w.book.binds e) (page_bytes w) (w.solos e) writer refl refl (sound.agreed e)) is);
      others = λ i ne live.
          subst (λ its. Sees i w.book.pages (w.book.binds i) (written page) (absorb_all (w.solos i) its)) (ap (λ t. if t then [] else left_if (sees w.book i page) page x) (sym (ne_eqb i e ne)))
          (readers_see i page x w.book (page_bytes w) (w.solos i) (sound.agreed i) live);
      none = λ i ne before. before;
      stripes = sound.stripes;
      behind = sound.behind;
      fate = λ o p owns. by_page o p owns (p == page) refl;
      fortune = GoesOn lives;
    }
      where
        by_page : (o p : ℕ) → is_owned_by o (w.book.pages p) ≡ true → (t : Bool) → (p == page) ≡ t → Fate w o p (if t then with_bytes (page_bytes w page) x.offset x.bytes else page_bytes w p)
        by_page o p owns true same = Written owns e x acts (is ∙ ap Physical (sym (eqb-true p page same))) (ap (λ (n : ℕ). with_bytes (page_bytes w n) x.offset x.bytes) (sym (eqb-true p page same)))
        by_page o p owns false other = Stays owns refl

    by_key : (key : Key) → x.key ≡ key → Brings w e (with_store x writer) w.book (left_at w.book e x key)
    by_key (Kept v) is = silent (with_store x writer) lives refl (kept_sights v is)
    by_key (Physical page) is = to_bound page is

    pub store_brings : Brings w e (with_store x writer) w.book (left_by w.book e x)
    store_brings = by_key x.key refl

  -- A death.
  module _ (cpu : Cpu) (cause : Cause) where
    abbrev corpse : Solo
    corpse = dead cause (record (w.solos e) { cpu = cpu })

    nothing_left : HasNone e (death w e).book.pages ((death w e).book.binds e)
    nothing_left = record { binds = λ row. own_goes w.book.pages e (w.book.binds e row); owns = λ page. released_own e (w.book.pages page) }

    -- the pages of the others keep their bytes, whatever is owed then, at whatever time
    pub death_keeps : (excess : ℕ → ℕ) (time : ℕ) → (brings : Brings w e corpse (record (death w e).book { excess = excess; time = time }) (death_items w.book e)) × (brings.bytes ≡ page_bytes w)
    death_keeps excess time = (
      record {
        bytes = page_bytes w;
        own = subst (λ (s : Solo). Sees e (death w e).book.pages ((death w e).book.binds e) (page_bytes w) s) (sym (dead_absorbs corpse cause (death_items w.book e e) refl))
            (sees_nothing e (death w e).book.pages ((death w e).book.binds e) (page_bytes w) corpse nothing_left (λ row. refl) (λ page. refl));
        others = λ i ne live.
            subst (λ its. Sees i (death w e).book.pages ((death w e).book.binds i) (page_bytes w) (absorb_all (w.solos i) its)) (ap (λ t. if t then [] else lost_with w.book e i w.book.page_count) (sym (ne_eqb i e ne)))
            (mourners_lose e i w.book (page_bytes w) (w.solos i) (sound.agreed i) live ne sound.behind (sound.stripes i));
        none = λ i ne before. record {
          binds = λ row. ap (without (goes_with w.book.pages e i)) (before.binds row);
          owns = λ page. released_none e i (w.book.pages page) (before.owns page);
        };
        stripes = λ i. without_ends (goes_with w.book.pages e i) (w.book.binds i) (sound.stripes i);
        behind = λ page there. ap (released_row e) (sound.behind page there);
        fate = λ o page owns. Stays (released_owned e o (w.book.pages page) owns) refl;
        fortune = Ends nothing_left;
      },
      refl,
    )

    pub death_brings : Brings w e corpse (death w e).book (death_items w.book e)
    death_brings = (death_keeps (death w e).book.excess (death w e).book.time).0
