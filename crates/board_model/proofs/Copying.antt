-- Bytes that the kernel puts into a page for its owner, as all bytes of it, on the world that is shown.
use Rattle.std.proofs.Common.{◌≡◌, ◌≢◌, ◌<◌, ℕ, List, [], length, Bool, true, false, Some, refl, sym, ◌∙◌, ap, arith, get_or-set_other, rules}
use Rattle.std.specs.Prelude.{if◌then◌else◌, slice_get}
use Rattle.std.proofs.lemmas.Bool.{ne_eqb, or_parts}
use Rattle.std.proofs.lemmas.List.{append-nil}
use Rattle.std.proofs.Math.Seq.{drop-length}
use Rattle.std.proofs.lemmas.Grind.{common_steps}
use Rattle.frame_store.specs.Pages.{after_put, page_at, with_bytes, with_page}
use Rattle.mips_exec.specs.Access.{Write}
use Rattle.page_book.specs.Row.{is_owned_by}
use Rattle.page_book.specs.Rows.{row_in}
use Rattle.bind_book.specs.Stripe.{is_bound}
use Rattle.page_laws.specs.Sight.{Sees, seen_in}
use Rattle.page_laws.proofs.Sights.{readers_see, writer_sees}
use Rattle.world_model.specs.declared.life.Life.{Life}
use Rattle.world_model.specs.declared.life.Life.TheVariants.{Live}
use Rattle.world_model.specs.Book.{sees}
use Rattle.world_model.specs.Item.{absorb_all}
use Rattle.world_model.specs.PageCalls.{left_by, left_if}
use Rattle.world_model.specs.Rings.{page_store}
use Rattle.world_model.specs.Solo.{Solo, Store, kept_after, with_store}
use Rattle.world_model.specs.Table.{set_at}
use Rattle.world_model.proofs.Stores.{kept_as_was}
use Rattle.board_model.specs.declared.roster.Environment.{Environment}
use Rattle.board_model.specs.Shown.{Shown, mappings_in, mappings_of}
use Rattle.board_model.specs.Showing.{book_of, pages_seen, solo_of, solo_or_absent, solo_seen}
use Rattle.board_model.specs.Sound.{IsOwned, IsSoundBoard}
use Rattle.board_model.proofs.Seen.{like_solo, live_record, owned_taken, row_there, stripe_of}
use Rattle.board_model.proofs.Stepping.{seer_live}
use Rattle.board_model.proofs.Stores.{bound_kept, put_table, sights_stay}

module _ (b : Shown) (sound : IsSoundBoard b) (e page : ℕ) (own : is_owned_by e (row_in b.pages page) ≡ true) (x : Environment) (at : slice_get b.roster.list e ≡ Some x) (lives : x.life ≡ Live) (bytes : List ℕ) where
  abbrev store : Store
  store = page_store page bytes

  abbrev write : Write
  write = record { address = 0; bytes = bytes }

  abbrev memory : List (List ℕ)
  memory = after_put b.frames page 0 bytes

  abbrev now : Shown
  now = record b { frames = memory }

  lent : IsOwned (row_in b.pages page)
  lent = search rules

  there : page < length b.frames
  there = omega (arith, sound.memory.same, row_there b.pages page (owned_taken (row_in b.pages page) lent))

  pages_stay : (i : ℕ) → pages_seen memory (mappings_of b.roster.list i) ≡ pages_seen b.frames (mappings_of b.roster.list i)
  pages_stay i = bound_kept b.frames b.pages b.roster.list sound.memory i write page there lent

  -- what one sees to whom the bytes were given
  given_sights : (i : ℕ) (s : Solo) → Sees i (row_in b.pages) (stripe_of b i) (set_at page (with_bytes (page_at b.frames page) 0 bytes) (page_at b.frames)) s →
      seen_in i (row_in b.pages) (stripe_of b i) (page_at memory) ≡ s.seen
  given_sights i s given = ap (seen_in i (row_in b.pages) (stripe_of b i)) (λ k p. put_table b.frames page 0 bytes there p k) ∙ (λ k p. sym (given.seen p) k)

  -- the page's owner
  abbrev owner : Solo
  owner = record (solo_seen b e x) { life = Live }

  its_maps : mappings_of b.roster.list e ≡ x.env.mappings
  its_maps = ap mappings_in at

  pub stored_here : solo_of now e ≡ with_store store (solo_of b e)
  stored_here =
      let kept : pages_seen memory x.env.mappings ≡ kept_after owner.kept store =
      ap (pages_seen memory) (sym its_maps) ∙ pages_stay e ∙ ap (pages_seen b.frames) its_maps ∙ sym (kept_as_was owner.kept page 0 bytes) in
      let sights = given_sights e (with_store store owner) (writer_sees e page store (row_in b.pages) (stripe_of b e) (page_at b.frames) owner (record { binds = λ row. refl; seen = λ p. refl }) refl) in
      ap (solo_or_absent now e) at
      ∙ (λ k. record (solo_seen b e x) { life = lives k; kept = kept k; seen = sights k })
      ∙ ap (with_store store) (sym (ap (solo_or_absent b e) at ∙ (λ k. record (solo_seen b e x) { life = lives k })))

  -- whoever else sees the page
  reader : (i : ℕ) → i ≢ e → (z : Environment) → slice_get b.roster.list i ≡ Some z → z.life ≡ Live → sees (book_of b) i page ≡ true → solo_of now i ≡ absorb_all (solo_of b i) (left_if true page store)
  reader i ne z its alive seen =
      let s : Solo = record (solo_seen b i z) { life = Live } in
      let mine : mappings_of b.roster.list i ≡ z.env.mappings = ap mappings_in its in
      let kept : pages_seen memory z.env.mappings ≡ kept_after s.kept store =
      ap (pages_seen memory) (sym mine) ∙ pages_stay i ∙ ap (pages_seen b.frames) mine ∙ sym (kept_as_was s.kept page 0 bytes) in
      let sights = given_sights i (absorb_all s (left_if (sees (book_of b) i page) page store))
      (readers_see i page store (book_of b) (page_at b.frames) s (record { binds = λ row. refl; seen = λ p. refl }) refl) in
      ap (solo_or_absent now i) its
      ∙ (λ k. record (solo_seen b i z) { life = alive k; kept = kept k; seen = (sights ∙ ap (λ t. (absorb_all s (left_if t page store)).seen) seen) k })
      ∙ ap (λ (l : Life). absorb_all (record (solo_seen b i z) { life = l }) (left_if true page store)) (sym alive)
      ∙ ap (λ s. absorb_all s (left_if true page store)) (sym (ap (solo_or_absent b i) its))

  pub stored_else : (i : ℕ) → i ≢ e → solo_of now i ≡ absorb_all (solo_of b i) (left_by (book_of b) e store i)
  stored_else i ne =
      by_sight (sees (book_of b) i page) refl
      ∙ ap (λ t. absorb_all (solo_of b i) (if t then [] else left_if (sees (book_of b) i page) page store)) (sym (ne_eqb i e ne))
    where
      by_sight : (t : Bool) → sees (book_of b) i page ≡ t → solo_of now i ≡ absorb_all (solo_of b i) (left_if (sees (book_of b) i page) page store)
      by_sight true seen =
          let live = seer_live b i page sound seen in
          let z = live_record b.roster.list i live.1 in
          reader i ne z.0 z.1.0 z.1.1 seen ∙ ap (λ t. absorb_all (solo_of b i) (left_if t page store)) (sym seen)
      by_sight false blind =
          let apart = or_parts (is_owned_by i (row_in b.pages page)) (is_bound page (stripe_of b i)) blind in
          like_solo i now b (record {
            version = refl;
            record_is = refl;
            rings = refl;
            cpu = λ kept. refl;
            pages = pages_stay i;
            binds = refl;
            sights = λ k p. sights_stay i (row_in b.pages) (stripe_of b i) (page_at b.frames) (page_at memory) page apart.0 apart.1 (λ p differs. get_or-set_other b.frames page p (with_bytes (page_at b.frames page) 0 bytes) [] differs) p k;
          })
          ∙ ap (λ t. absorb_all (solo_of b i) (left_if t page store)) (sym blind)

-- A page that gets all bytes of another
pub copied_whole : (frames : List (List ℕ)) (page backup : ℕ) → length (page_at frames page) ≡ length (page_at frames backup) → with_page frames backup (page_at frames page) ≡ after_put frames backup 0 (page_at frames page)
copied_whole frames page backup same = grind (arith, common_steps, append-nil, drop-length)
