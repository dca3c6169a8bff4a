-- A page whose bindings are broken, or that is freed, on the world that is shown.
use Rattle.std.proofs.Common.{◌≡◌, ◌≢◌, ◌<◌, ℕ, length, true, false, Option, Some, None, refl, sym, ◌∙◌, ap, rules}
use Rattle.std.specs.Prelude.{slice_get}
use Rattle.std.proofs.lemmas.List.{length-set}
use Rattle.frame_store.specs.Pages.{page_at}
use Rattle.page_book.specs.declared.row.PageRow.{PageRow}
use Rattle.page_book.specs.declared.row.PageRow.TheVariants.{Free}
use Rattle.page_book.specs.Row.{is_owned_by}
use Rattle.page_book.specs.Rows.{row_in}
use Rattle.page_book.proofs.Owners.{anothers}
use Rattle.bind_book.specs.Stripe.{leads_to_page, is_bound, without}
use Rattle.bind_book.proofs.Swept.{swept_row}
use Rattle.filter_tree.specs.Claims.{is_into}
use Rattle.page_laws.specs.Sight.{Sees}
use Rattle.page_laws.proofs.Sights.{freer_loses, others_lose}
use Rattle.page_laws.proofs.Stripes.{stripes_end}
use Rattle.page_laws.proofs.Tables.{set_owns}
use Rattle.world_model.specs.Book.{without_bindings_of}
use Rattle.world_model.specs.Holding.{lost}
use Rattle.world_model.specs.Item.{absorb_all}
use Rattle.world_model.specs.PageCalls as calls
use Rattle.world_model.specs.Solo.{Solo}
use Rattle.world_model.specs.Table.{set_at}
use Rattle.board_model.specs.declared.roster.Environment.{Environment}
use Rattle.board_model.specs.Shown.{Shown}
use Rattle.board_model.specs.Showing.{book_of, solo_of, solo_or_absent, solo_seen}
use Rattle.board_model.specs.Sound.{IsSoundBoard}
use Rattle.board_model.specs.Doing as doing
use Rattle.board_model.proofs.Claimed.{claims_without, no_ring, rings_dropped}
use Rattle.board_model.proofs.Losing.{dropped, lost_keeps, nothing_lost, rings_but, sees_by}
use Rattle.board_model.proofs.Seen.{like_solo, stripe_of}
use Rattle.board_model.proofs.Tables.{table_set}

-- The page has another row, and its bindings are broken, but for those of one environment.
module _ (b : Shown) (page : ℕ) (row : PageRow) (but : Option ℕ) (within : page < length b.pages) where
  abbrev now : Shown
  now = doing.with_broken b page row but

  now_rows : (p : ℕ) → row_in now.pages p ≡ set_at page row (row_in b.pages) p
  now_rows = table_set b.pages page row Free within

  now_stripe : (i k : ℕ) → stripe_of now i k ≡ without (leads_to_page page but i) (stripe_of b i k)
  now_stripe i k = swept_row (leads_to_page page but) b.binds i k

  pub broken_book : book_of now ≡ without_bindings_of page but (record (book_of b) { pages = set_at page row (row_in b.pages) })
  broken_book = search (rules, length-set, now_rows, now_stripe)

  -- whoever had bound the page loses it, but for its owner
  pub broken_else : IsSoundBoard b → (e : ℕ) → is_owned_by e (row_in b.pages page) ≡ true → (i : ℕ) → i ≢ e → but ≢ Some i → is_owned_by i row ≡ false → solo_of now i ≡ absorb_all (solo_of b i) (calls.lost_bindings (book_of b) page i)
  broken_else sound e owns i ne other after = dropped i b now (calls.lost_bindings (book_of b) page i) (record {
    version = refl;
    record_is = refl;
    rings = refl;
    cpu = λ kept. refl;
    pages = refl;
    sees = λ s lives seen.
        sees_by i (set_at page row (row_in b.pages)) (row_in now.pages) (λ n. without (leads_to_page page but i) (stripe_of b i n)) (stripe_of now i) (page_at b.frames) (page_at b.frames)
        (absorb_all s (calls.lost_bindings (book_of b) page i)) now_rows (now_stripe i) (λ p. refl)
        (others_lose i page but row (row_in b.pages) (stripe_of b i) (page_at b.frames) s seen lives other (anothers e i (row_in b.pages page) ne owns) after (stripes_end b.binds i));
    keeps = λ s same. lost_keeps s (is_bound page (stripe_of b i)) page (ap (rings_but page) same ∙ no_ring b.claims b.pages i page sound.claims.owned (anothers e i (row_in b.pages page) ne owns) ∙ sym same);
    none = λ none. record {
      binds = λ n. now_stripe i n ∙ ap (without (leads_to_page page but i)) (none.binds n);
      owns = λ p. ap (is_owned_by i) (now_rows p) ∙ set_owns i page row (row_in b.pages) after none.owns p;
    };
    nothing = λ none. nothing_lost (stripe_of b i) none.binds page;
  }) sound.books

  -- what one sees by these books
  pub broken_sees : (e : ℕ) (s : Solo) → Sees e (set_at page row (row_in b.pages)) (λ n. without (leads_to_page page but e) (stripe_of b e n)) (page_at b.frames) s → Sees e (row_in now.pages) (stripe_of now e) (page_at b.frames) s
  broken_sees e s seen =
      sees_by e (set_at page row (row_in b.pages)) (row_in now.pages) (λ n. without (leads_to_page page but e) (stripe_of b e n)) (stripe_of now e) (page_at b.frames) (page_at b.frames) s now_rows (now_stripe e) (λ p. refl) seen

-- The page is nobody's, and no claim puts packets there.
module _ (b : Shown) (page : ℕ) (within : page < length b.pages) where
  abbrev freed : Shown
  freed = doing.with_freed b page

  pub freed_book : book_of freed ≡ calls.freed page (book_of b)
  freed_book = λ k. record (broken_book b page Free None within k) { claims = claims_without (is_into page) b.claims k }

  pub freed_else : IsSoundBoard b → (e : ℕ) → is_owned_by e (row_in b.pages page) ≡ true → (i : ℕ) → i ≢ e → solo_of freed i ≡ absorb_all (solo_of b i) (calls.lost_bindings (book_of b) page i)
  freed_else sound e owns i ne =
      like_solo i freed (doing.with_broken b page Free None) (search (rules, (rings_dropped b.claims page i ∙ no_ring b.claims b.pages i page sound.claims.owned (anothers e i (row_in b.pages page) ne owns))))
      ∙ broken_else b page Free None within sound e owns i ne (λ same. let both : None ≡ Some i = same in cc) refl

  pub freed_own : (e : ℕ) (x : Environment) → slice_get b.roster.list e ≡ Some x → solo_of freed e ≡ lost page (solo_of b e)
  freed_own e x at =
      let sees : Sees e (row_in freed.pages) (stripe_of freed e) (page_at b.frames) (lost page (solo_seen b e x)) =
      broken_sees b page Free None within e (lost page (solo_seen b e x)) (freer_loses e page Free (row_in b.pages) (stripe_of b e) (page_at b.frames) (solo_seen b e x) (record { binds = λ row. refl; seen = λ p. refl }) refl) in
      ap (solo_or_absent freed e) at
      ∙ (λ k. record (solo_seen b e x) { binds = λ n. sym (sees.binds n) k; seen = λ p. sym (sees.seen p) k; rings = rings_dropped b.claims page e k })
      ∙ ap (lost page) (sym (ap (solo_or_absent b e) at))
