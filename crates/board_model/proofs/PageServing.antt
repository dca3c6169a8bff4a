-- What the runner does to pages, on the world that is shown.
use Rattle.std.proofs.Common.{◌≡◌, ◌≢◌, ◌<◌, ℕ, List, [], ◌∷◌, length, true, false, Option, Some, None, refl, sym, ◌∙◌, ap, arith, rules}
use Rattle.std.specs.Prelude.{slice_set}
use Rattle.std.proofs.lemmas.Bool.{ne_eqb}
use Rattle.std.proofs.lemmas.List.{append-nil, length-set}
use Rattle.std.proofs.lemmas.Option.{slice_get_within}
use Rattle.frame_store.specs.Pages.{page_at, with_page, zero_page}
use Rattle.page_book.specs.declared.row.Capabilities.{Capabilities}
use Rattle.page_book.specs.declared.row.PageRow.{PageRow}
use Rattle.page_book.specs.declared.row.PageRow.TheVariants.{Free, Guaranteed, Owned}
use Rattle.page_book.specs.Row.{is_owned_by}
use Rattle.page_book.specs.Rows.{row_in}
use Rattle.bind_book.specs.Stripe.{leads_to_page, is_bound, without}
use Rattle.page_laws.specs.Sight.{Sees}
use Rattle.page_laws.proofs.Sights.{allocator_sees, others_dont, freer_loses, recapper_keeps}
use Rattle.page_laws.proofs.Stripes.{bound_nowhere}
use Rattle.page_laws.proofs.Tables.{set_owns}
use Rattle.world_model.specs.declared.call.Deed.TheVariants.{Allocates, Frees, Recaps}
use Rattle.world_model.specs.declared.verdict.Verdict.TheVariants.{Grant}
use Rattle.world_model.specs.Book.{without_bindings_of}
use Rattle.world_model.specs.Holding.{gained, owning, lost}
use Rattle.world_model.specs.Item.{Gained, Lost, absorb_all, answered_cpu}
use Rattle.world_model.specs.PageCalls as calls
use Rattle.world_model.specs.Solo.{Solo}
use Rattle.world_model.specs.May.{MayAllocate, MayChange}
use Rattle.world_model.specs.Table.{set_at}
use Rattle.world_model.specs.Verdict.{done}
use Rattle.world_model.specs.World.{Reply, only}
use Rattle.board_model.specs.declared.roster.Environment.{Environment}
use Rattle.board_model.specs.Shown.{Shown, mappings_of}
use Rattle.board_model.specs.Showing.{world_of, book_of, solo_of, pages_seen}
use Rattle.board_model.specs.Sound.{IsSoundBoard}
use Rattle.board_model.specs.Doing as doing
use Rattle.revocation_book.specs.Backups.{unloaded}
use Rattle.revocation_book.specs.Pending.{lowered}
use Rattle.revocation_book.specs.RevocationBook.{backups_at, pending_at, with_pending}
use Rattle.board_model.proofs.Asked.{backups_set, pending_set}
use Rattle.board_model.proofs.Breaking.{broken_book, broken_else, broken_sees, freed_else}
use Rattle.board_model.proofs.Losing.{dropped, sees_by}
use Rattle.filter_tree.specs.Claims.{is_into}
use Rattle.board_model.proofs.Claimed.{claims_without, rings_dropped}
use Rattle.board_model.proofs.Parts.{one_given}
use Rattle.board_model.proofs.Replying.{Serves, all_given, deeded, deeded_seen}
use Rattle.board_model.proofs.Seen.{Runs, like_solo, runner_solo, runner_seen, its_mappings, stripe_of}
use Rattle.board_model.proofs.Tables.{table_set}
use Rattle.board_model.proofs.Giving.{other_pages}

-- the runner sees what it sees
pub own_sees : (b : Shown) (e : ℕ) (x : Environment) → Sees e (row_in b.pages) (stripe_of b e) (page_at b.frames) (runner_solo b e x)
own_sees b e x = record { binds = λ row. refl; seen = λ page. refl }

module _ (b : Shown) (e : ℕ) (x : Environment) (r : Runs b e x) (sound : IsSoundBoard b) where
  -- a page that isn't guaranteed is mapped by nobody
  mapped_else : (page : ℕ) (bytes : List ℕ) → row_in b.pages page ≡ Free → (i : ℕ) → pages_seen (with_page b.frames page bytes) (mappings_of b.roster.list i) ≡ pages_seen b.frames (mappings_of b.roster.list i)
  mapped_else page bytes free i =
      other_pages b.frames page bytes (mappings_of b.roster.list i)
      (λ a m at same. let both : Guaranteed i ≡ Free = sym ((sound.memory.mapped i).its a m at) ∙ ap (row_in b.pages) same ∙ free in cc)

  -- a free page is bound by nobody
  unbound_free : (page : ℕ) → row_in b.pages page ≡ Free → (i : ℕ) → is_bound page (stripe_of b i) ≡ false
  unbound_free page free i = grind (arith, bound_nowhere, ne_eqb)

  -- Allocation.
  module _ (page : ℕ) (words : Capabilities) (zeros : List ℕ) (may : MayAllocate (book_of b) page) (v : ℕ) where
    abbrev taken : Shown
    taken = doing.after_answer (record b { frames = with_page b.frames page zeros; pages = slice_set b.pages page (Owned e words) }) (Grant v)

    abbrev taken_reply : Reply
    taken_reply = record {
      book = record (book_of b) { pages = set_at page (Owned e words) (row_in b.pages) };
      items = only e (Gained page true zeros ∷ []);
      rows = [];
    }

    paged : page < length b.frames
    paged = omega (arith, may.there, sound.memory.same)

    taken_rows : (p : ℕ) → row_in taken.pages p ≡ set_at page (Owned e words) (row_in b.pages) p
    taken_rows = table_set b.pages page (Owned e words) Free may.there

    taken_bytes : (p : ℕ) → page_at taken.frames p ≡ set_at page zeros (page_at b.frames) p
    taken_bytes = table_set b.frames page zeros [] paged

    abbrev taken_solo : Solo
    taken_solo = gained page zeros (owning page (runner_solo b e x))

    taken_sees : Sees e (row_in taken.pages) (stripe_of b e) (page_at taken.frames) taken_solo
    taken_sees = search (rules, sees_by, allocator_sees, own_sees, taken_rows, taken_bytes)

    taken_others : (i : ℕ) → i ≢ e → solo_of taken i ≡ solo_of b i
    taken_others i ne = dropped i b taken [] (record {
      version = refl;
      record_is = refl;
      rings = refl;
      cpu = λ kept. rw (r.runs.others i ne) refl;
      pages = mapped_else page zeros may.free i;
      sees = λ s lives seen.
          sees_by i (set_at page (Owned e words) (row_in b.pages)) (row_in taken.pages) (stripe_of b i) (stripe_of b i) (set_at page zeros (page_at b.frames)) (page_at taken.frames) s taken_rows (λ row. refl) taken_bytes
          (others_dont i page (Owned e words) zeros (row_in b.pages) (stripe_of b i) (page_at b.frames) s seen (ap (is_owned_by i) may.free) (ne_eqb e i (λ same. ne (sym same))) (unbound_free page may.free i));
      keeps = λ s same. refl;
      none = λ none. record {
        binds = none.binds;
        owns = λ p. ap (is_owned_by i) (taken_rows p) ∙ set_owns i page (Owned e words) (row_in b.pages) (ne_eqb e i (λ same. ne (sym same))) none.owns p;
      };
      nothing = λ none. refl;
    }) sound.books

    takes : Serves b e (deeded (Allocates page words) v (solo_of b e)) taken_reply taken
    takes =
        let still : Runs taken e x = record { at = r.at; lives = r.lives; runs = r.runs } in
        let kept : pages_seen taken.frames x.env.mappings ≡ pages_seen b.frames x.env.mappings =
        ap (pages_seen taken.frames) (sym (its_mappings b e x r)) ∙ mapped_else page zeros may.free e ∙ ap (pages_seen b.frames) (its_mappings b e x r) in
        record {
          book = λ k. record (book_of b) { page_count = length-set b.pages page (Owned e words) k; pages = λ p. taken_rows p k };
          count = refl;
          solos = one_given (solo_of b) (solo_of taken) e (deeded (Allocates page words) v (solo_of b e)) (Gained page true zeros ∷ [])
              (runner_seen taken e x still
              ∙ (λ k. record (runner_solo b e x) { cpu = answered_cpu (Grant v) b.cpu; kept = kept k; binds = λ row. sym (taken_sees.binds row) k; seen = λ p. sym (taken_sees.seen p) k })
              ∙ ap (λ s. absorb_all s (Gained page true zeros ∷ [])) (deeded_seen b e x r (Allocates page words) v))
              taken_others;
          rows = sym (append-nil b.ledger.rows);
          room = omega arith;
          spare = refl;
          time = refl;
        }

  pub allocates : (page : ℕ) (words : Capabilities) (v : ℕ) → MayAllocate (book_of b) page → Serves b e (deeded (Allocates page words) v (solo_of b e)) (done (world_of b) e (Allocates page words)) (doing.after_grant b e v (Allocates page words))
  allocates page words v may = takes page words zero_page may v

  -- Pages that are changed, and the runner's registers.
  module _ (page : ℕ) (row : PageRow) (but : Option ℕ) (v : ℕ) (within : page < length b.pages) where
    abbrev changed : Shown
    changed = doing.after_answer (doing.with_broken b page row but) (Grant v)

    changed_book : book_of changed ≡ without_bindings_of page but (record (book_of b) { pages = set_at page row (row_in b.pages) })
    changed_book = broken_book b page row but within

    -- whoever had bound the page loses it
    changed_others : is_owned_by e (row_in b.pages page) ≡ true → (i : ℕ) → i ≢ e → but ≢ Some i → is_owned_by i row ≡ false → solo_of changed i ≡ absorb_all (solo_of b i) (calls.lost_bindings (book_of b) page i)
    changed_others owns i ne other after =
        like_solo i changed (doing.with_broken b page row but) (search (rules, (r.runs.others i ne)))
        ∙ broken_else b page row but within sound e owns i ne other after

    -- what the runner sees, if the page's law says so
    changed_own : (s : Solo) → Sees e (set_at page row (row_in b.pages)) (λ n. without (leads_to_page page but e) (stripe_of b e n)) (page_at b.frames) s → Sees e (row_in changed.pages) (stripe_of changed e) (page_at b.frames) s
    changed_own s seen = broken_sees b page row but within e s seen

  -- the runner's place in the book of revocations
  its_place : (e < length b.revocations.pending) × (e < length b.revocations.backups)
  its_place = let within = slice_get_within b.roster.list e x r.at in (omega (arith, within, sound.few, sound.revocations.pending), omega (arith, within, sound.few, sound.revocations.backups))

  -- Free.
  pub frees : (page v : ℕ) → MayChange (book_of b) e page → Serves b e (deeded (Frees page) v (solo_of b e)) (done (world_of b) e (Frees page)) (doing.after_grant b e v (Frees page))
  frees page v may =
      let now = doing.after_grant b e v (Frees page) in
      let still : Runs now e x = record { at = r.at; lives = r.lives; runs = r.runs } in
      let sees : Sees e (row_in now.pages) (stripe_of now e) (page_at b.frames) (lost page (runner_solo b e x)) =
      changed_own page Free None v may.there (lost page (runner_solo b e x)) (freer_loses e page Free (row_in b.pages) (stripe_of b e) (page_at b.frames) (runner_solo b e x) (own_sees b e x) refl) in
      record {
        book = λ k. record (changed_book page Free None v may.there k) {
          claims = claims_without (is_into page) b.claims k;
          pending = λ i. pending_set b.revocations e (lowered (pending_at b.revocations e)) its_place.0 i k;
          backups = λ i. backups_set (with_pending b.revocations e (lowered (pending_at b.revocations e))) e (unloaded page (backups_at b.revocations e)) its_place.1 i k;
        };
        count = refl;
        solos = all_given (solo_of b) (solo_of now) e (deeded (Frees page) v (solo_of b e)) (Lost page ∷ []) (calls.lost_bindings (book_of b) page)
            (runner_seen now e x still
            ∙ (λ k. record (runner_solo b e x) { cpu = answered_cpu (Grant v) b.cpu; binds = λ n. sym (sees.binds n) k; seen = λ p. sym (sees.seen p) k; rings = rings_dropped b.claims page e k })
            ∙ ap (λ s. absorb_all s (Lost page ∷ [])) (deeded_seen b e x r (Frees page) v))
            (λ i ne.
            like_solo i now (doing.with_freed b page) (search (rules, (r.runs.others i ne)))
            ∙ freed_else b page may.there sound e may.owned i ne);
        rows = sym (append-nil b.ledger.rows);
        room = omega arith;
        spare = refl;
        time = refl;
      }

  -- Recap.
  pub recaps : (page : ℕ) (words : Capabilities) (v : ℕ) → MayChange (book_of b) e page → Serves b e (deeded (Recaps page words) v (solo_of b e)) (done (world_of b) e (Recaps page words)) (doing.after_grant b e v (Recaps page words))
  recaps page words v may =
      let row = Owned e words in
      let now = changed page row (Some e) v may.there in
      let still : Runs now e x = record { at = r.at; lives = r.lives; runs = r.runs } in
      let sees : Sees e (row_in now.pages) (stripe_of now e) (page_at b.frames) (runner_solo b e x) =
      changed_own page row (Some e) v may.there (runner_solo b e x) (recapper_keeps e page words (row_in b.pages) (stripe_of b e) (page_at b.frames) (runner_solo b e x) (own_sees b e x) may.owned) in
      record {
        book = changed_book page row (Some e) v may.there;
        count = refl;
        solos = all_given (solo_of b) (solo_of now) e (deeded (Recaps page words) v (solo_of b e)) [] (calls.lost_bindings (book_of b) page)
            (runner_seen now e x still
            ∙ (λ k. record (runner_solo b e x) { cpu = answered_cpu (Grant v) b.cpu; binds = λ n. sym (sees.binds n) k; seen = λ p. sym (sees.seen p) k })
            ∙ deeded_seen b e x r (Recaps page words) v)
            (λ i ne. changed_others page row (Some e) v may.there may.owned i ne (λ same. let its : i ≡ e = cc in ne its) (ne_eqb e i (λ same. ne (sym same))));
        rows = sym (append-nil b.ledger.rows);
        room = omega arith;
        spare = refl;
        time = refl;
      }
