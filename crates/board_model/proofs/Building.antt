-- A board without programs, and one with one more.
use Rattle.std.proofs.Common.{subst, ◌≡◌, ◌≢◌, ◌≤◌, ◌<◌, ℕ, zero, suc, ◌+◌, ◌-◌, List, [], ◌∷◌, ◌++◌, length, map, replicate, Bool, true, false, Option, Some, None, IfSome, inl, inr, refl, sym, ◌∙◌, ap, arith, rules}
use Rattle.std.specs.Prelude.{◌==◌, ◌&&◌, filter, slice_get, All}
use Rattle.std.specs.List.{list_all}
use Rattle.filter_tree.specs.ClaimBook.{RowValue, is_of_env}
use Rattle.std.specs.Option.{option_map}
use Rattle.std.proofs.lemmas.List.{length-append, length-map, length-replicate}
use Rattle.std.proofs.lemmas.Bool.{ne_eqb, eqb-true, eqb-false}
use Rattle.std.proofs.lemmas.Grind.{common_steps}
use Rattle.external_event.specs.Limits.{lines as most_lines}
use Rattle.kernel_journal.specs.Ledger.{Ledger}
use Rattle.mips_exec.specs.declared.registers.Cpu.{Cpu}
use Rattle.frame_store.specs.Pages.{zeroed}
use Rattle.page_book.specs.declared.row.PageRow.{PageRow}
use Rattle.page_book.specs.declared.row.PageRow.TheVariants.{Free, Guaranteed, Owned}
use Rattle.page_book.specs.Row.{is_owned_by, owner_of}
use Rattle.page_book.specs.Rows.{free_below, free_pages, row_in}
use Rattle.page_book.proofs.Owners.{owner_is}
use Rattle.bind_book.specs.Stripe.{Stripes, empty_stripes, is_bound, stripes}
use Rattle.bind_book.proofs.Rows.{empty_row}
use Rattle.env_frames.specs.declared.mapping.Mapping.{Mapping}
use Rattle.env_frames.specs.Context.{no_handlers}
use Rattle.slot_vector.specs.Slices as vector
use Rattle.aegis_limits.specs.declared.version.Version.{Version}
use Rattle.aegis_limits.specs.Limits.{least_quantum, most_slots, most_environments, most_pages, environment_numbers}
use Rattle.boot_image.specs.ImageValue.{ProgramValue, guaranteed_mappings}
use Rattle.world_model.specs.declared.life.Life.TheVariants.{Live}
use Rattle.world_model.specs.Book.{is_runner, own_hold}
use Rattle.run_model.specs.Boot.{boot_slot, bare_world, with_program, kept_of, mappings_over, own_rows, record_items}
use Rattle.world_model.specs.Item.{absorb_all, boot_cpu}
use Rattle.world_model.specs.World.{only}
use Rattle.page_laws.proofs.Sights.{nothing_of}
use Rattle.page_laws.proofs.Stripes.{bound_nowhere}
use Rattle.board_model.specs.declared.roster.Environment.{Environment}
use Rattle.board_model.specs.Lines.{free_lines}
use Rattle.board_model.specs.Rings.{ring_in, rings_of}
use Rattle.board_model.specs.Shown.{Shown, Environments, mappings_of, no_output}
use Rattle.tlb_model.specs.Cache.{boot_cache}
use Rattle.board_model.proofs.Rows.{added_rows, emptied_rows_agree}
use Rattle.board_model.specs.Showing.{book_of, world_of, solo_of, pages_seen, page_seen}
use Rattle.board_model.specs.Sound.{AreStripesOf, BooksAgree, AreGuaranteed, LinesAgree, IsSoundBoard, SlotsAgree, PagesAgree, IsLiving, IsUndead, has_own_page}
use Rattle.board_model.specs.Loading.{AreGiven, AreLeft}
use Rattle.revocation_book.specs.declared.revocation.Pending.{Pending}
use Rattle.revocation_book.specs.Backups.{is_loaded}
use Rattle.revocation_book.specs.RevocationBook.{nothing_asked}
use Rattle.board_model.proofs.Asked.{given_asked}
use Rattle.board_model.proofs.Claiming.{given_claimed}
use Rattle.board_model.proofs.Giving.{none_guaranteed}
use Rattle.board_model.proofs.Keeping.{IsGivenRow, given_row, taken_row}
use Rattle.board_model.proofs.Lists.{last_get, other_get, past_get}
use Rattle.board_model.proofs.Mappings.{last_mappings, more_mappings, other_mappings}
use Rattle.board_model.proofs.Parts.{worlds, by_env, only_here, only_else}
use Rattle.board_model.proofs.Sound.{if_both}
use Rattle.board_model.proofs.Seen.{like_solo, owned_taken, sights_of}
use Rattle.board_model.proofs.Wired.{built_wired}
use Rattle.board_model.proofs.Tables.{all_alike}

-- the slots at boot: each owner is one of those that will be
own_holds : (envs : ℕ) (owners : List (Option ℕ)) → All (λ owner. IfSome owner (λ e. e < envs)) owners → (k : ℕ) → IfSome (vector.hold_at (map (option_map own_hold) owners) k) (λ h. (h.owner < envs) × (h.holder < envs))
own_holds envs [] all k = tt
own_holds envs (None ∷ owners) all zero = tt
own_holds envs (Some e ∷ owners) all zero = (all 0 None (omega arith), all 0 None (omega arith))
own_holds envs (o ∷ owners) all (suc k) = own_holds envs owners (λ i d within. all (suc i) d (omega arith)) k

pub built_manned : (quantum envs : ℕ) (owners : List (Option ℕ)) → least_quantum ≤ quantum → length owners ≤ most_slots → All (λ owner. IfSome owner (λ e. e < envs)) owners → SlotsAgree (vector.first_slices quantum owners) (record { list = []; spare = envs })
built_manned quantum envs owners long few all = record {
  quantum = omega arith;
  ticks = tt;
  runner = tt;
  holds = λ k. if_both (vector.hold_at (map (option_map own_hold) owners) k) (λ h is both. ((omega (arith, both.0), tt), (omega (arith, both.1), tt))) (own_holds envs owners all k);
  count = omega (arith, length-map owners (option_map own_hold));
  numbered = length-replicate {A = ℕ} environment_numbers 0;
  owes = λ e. omega (arith, all_alike {A = ℕ} 0 environment_numbers e);
}

pub built_parted : (pages : ℕ) → pages ≤ most_pages → PagesAgree (zeroed pages) (replicate pages Free) []
built_parted pages few = search (rules, length-replicate, none_guaranteed)

free_among : (rows : ℕ → PageRow) (count : ℕ) → ((page : ℕ) → rows page ≡ Free) → free_below rows count ≡ count
free_among rows zero free = refl
free_among rows (suc count) free = rw (free count, free_among rows count free) refl

-- all pages of a board without programs are free
pub built_free : (pages : ℕ) → free_pages (replicate pages Free) ≡ pages
built_free pages = free_among (row_in (replicate pages Free)) (length (replicate pages Free)) (all_alike Free pages) ∙ length-replicate pages Free

pub built_booked : (v : Version) (pages envs : ℕ) → BooksAgree (replicate pages Free) (empty_stripes v envs) (record { list = []; spare = envs })
unfolding AreStripesOf
built_booked v pages envs = search (rules, length-replicate, all_alike, empty_row)

own_slots : (owners : List (Option ℕ)) (k : ℕ) → vector.hold_at (map (option_map own_hold) owners) k ≡ boot_slot owners k
own_slots [] k = refl
own_slots (None ∷ owners) zero = refl
own_slots (Some e ∷ owners) zero = refl
own_slots (o ∷ owners) (suc k) = own_slots owners k

-- nothing is asked, and nothing loaded
abbrev no_pending : Option Pending
no_pending = None

abbrev no_backups : List ℕ
no_backups = []

-- A board without programs.
abbrev pub built : Version → ℕ → ℕ → ℕ → List (Option ℕ) → Cpu → Ledger → Shown
built v pages quantum envs owners cpu ledger = record {
  frames = zeroed pages;
  pages = replicate pages Free;
  binds = empty_stripes v envs;
  lines = free_lines;
  claims = record { rows = []; next = 0; envs = envs };
  revocations = nothing_asked;
  slots = vector.first_slices quantum owners;
  cpu = cpu;
  roster = record { list = []; spare = envs };
  time = 0;
  ledger = ledger;
  tlb = boot_cache;
}

-- what it shows
pub built_world : (v : Version) (pages quantum envs : ℕ) (owners : List (Option ℕ)) (cpu : Cpu) (ledger : Ledger)
    → ledger.rows ≡ own_rows owners (length owners) → world_of (built v pages quantum envs owners cpu ledger) ≡ bare_world v pages quantum owners
built_world v pages quantum envs owners cpu ledger rows =
    let b = built v pages quantum envs owners cpu ledger in
    worlds (world_of b) (bare_world v pages quantum owners)
    (λ i. record (book_of b) {
      slot_count = length-map owners (option_map own_hold) i;
      slots = λ k. own_slots owners k i;
      excess = λ e. all_alike 0 environment_numbers e i;
      page_count = length-replicate pages Free i;
      pages = λ page. all_alike Free pages page i;
      binds = λ e row. empty_row v envs e row i;
      lines = λ line. all_alike None most_lines line i;
      pending = λ e. all_alike no_pending environment_numbers e i;
      backups = λ e. all_alike no_backups environment_numbers e i;
    })
    refl
    (λ e. refl)
    rows

-- One environment more.
module _ (r : Environments) (x : Environment) (lives : x.life ≡ Live) (room : 0 < r.spare) where
  one_longer : length (r.list ++ x ∷ []) ≡ length r.list + 1
  one_longer = length-append r.list (x ∷ [])

  still_live : (i : ℕ) → IsLiving r.list i → IsLiving (r.list ++ x ∷ []) i
  still_live i live = (omega (arith, live.0, one_longer), rw (other_get r.list x i (λ same. omega (arith, same, live.0))) live.1)

  still_undead : (i : ℕ) → IsUndead r i → IsUndead (record { list = r.list ++ x ∷ []; spare = r.spare - 1 }) i
  still_undead i undead = grind (arith, common_steps, eqb-true, last_get, other_get, eqb-false, one_longer)

  pub added_manned : (v : vector.Slices) → SlotsAgree v r → SlotsAgree v (record { list = r.list ++ x ∷ []; spare = r.spare - 1 })
  added_manned v manned = search (rules, if_both, still_live, still_undead)

  pub added_wired : (lines : List (Option ℕ)) → LinesAgree lines r.list → LinesAgree lines (r.list ++ x ∷ [])
  added_wired lines wired = search (rules, if_both, still_live)

-- A board without programs is sound.
pub built_sound : (v : Version) (pages quantum envs : ℕ) (owners : List (Option ℕ)) (cpu : Cpu) (ledger : Ledger) → pages ≤ most_pages → least_quantum ≤ quantum
    → length owners ≤ most_slots → envs ≤ most_environments → All (λ owner. IfSome owner (λ e. e < envs)) owners → IsSoundBoard (built v pages quantum envs owners cpu ledger)
built_sound v pages quantum envs owners cpu ledger few long slots most all = record {
  few = omega arith;
  book = built_manned quantum envs owners long slots all;
  memory = built_parted pages few;
  books = built_booked v pages envs;
  lines = built_wired;
  claims = record { owned = refl; count = omega arith };
  revocations = record {
    pending = length-replicate environment_numbers no_pending;
    backups = length-replicate environment_numbers no_backups;
    some = λ e. subst (λ pending. IfSome pending (λ p. 0 < p.outstanding)) (sym (all_alike no_pending environment_numbers e)) tt;
    owned = λ e page loaded. let none : true ≡ false = sym loaded ∙ ap (λ backups. is_loaded backups page) (all_alike no_backups environment_numbers e) in cc;
  };
  rows = emptied_rows_agree (zeroed pages) [] (empty_stripes v envs);
}

-- Pages are given to the environment that is added.
module _ (r : Environments) (x : Environment) (count : ℕ) (pages given : List PageRow) (frames new : List (List ℕ)) (binds : Stripes) (gives : AreGiven (length r.list) count pages given frames new) where
  abbrev its_row : ℕ → Type 0
  its_row p = IsGivenRow (length r.list) (row_in pages p) (row_in given p)

  becomes : (p : ℕ) → IsGivenRow (length r.list) (row_in pages p) (row_in given p)
  becomes p = given_row (length r.list) count pages given frames new gives p

  -- what was guaranteed to another stays so
  still_guaranteed : (i : ℕ) (ms : List Mapping) → AreGuaranteed pages i ms → AreGuaranteed given i ms
  still_guaranteed i ms are = search (rules, taken_row, becomes)

  pub added_parted : PagesAgree frames pages r.list → AreGuaranteed given (length r.list) x.env.mappings → PagesAgree new given (r.list ++ x ∷ [])
  added_parted parted its = record {
    same = gives.left.size ∙ parted.same ∙ sym gives.size;
    most = omega (arith, gives.left.size, parted.most);
    mapped = λ i. by_last i (i == length r.list) refl;
  }
    where
      by_last : (i : ℕ) (last : Bool) → (i == length r.list) ≡ last → AreGuaranteed given i (mappings_of (r.list ++ x ∷ []) i)
      by_last i true is =
          let last = eqb-true i (length r.list) is in
          let same : mappings_of (r.list ++ x ∷ []) i ≡ x.env.mappings = ap (mappings_of (r.list ++ x ∷ [])) last ∙ last_mappings r.list x in
          rw (same, last) its
      by_last i false is = rw (other_mappings r.list x i (eqb-false i (length r.list) is)) (still_guaranteed i (mappings_of r.list i) (parted.mapped i))

  pub added_booked : BooksAgree pages binds r → x.life ≡ Live → 0 < r.spare → BooksAgree given binds (record { list = r.list ++ x ∷ []; spare = r.spare - 1 })
  added_booked booked lives room =
      let count_is : length r.list + r.spare ≡ length (r.list ++ x ∷ []) + (r.spare - 1) = omega (arith, one_longer r x lives room, room) in
      record {
        striped = subst (AreStripesOf binds) count_is booked.striped;
        owners = λ page e is. by_row page e is (becomes page);
        binders = λ e row y is. still_live r x lives room e (booked.binders e row y is);
        bound = λ e row y is.
            let owned = booked.bound e row y is in
            rw (taken_row (length r.list) (row_in pages y.page) (row_in given y.page) (becomes y.page) (owned_taken (row_in pages y.page) owned)) owned;
      }
    where
      by_row : (page e : ℕ) → owner_of (row_in given page) ≡ Some e → its_row page → IsLiving (r.list ++ x ∷ []) e
      by_row page e is (inl stays) = still_live r x lives room e (booked.owners page e (ap owner_of (sym stays) ∙ is))
      by_row page e is (inr new) =
          let its : Some (length r.list) ≡ Some e = ap owner_of (sym new.1) ∙ is in
          let same : length r.list ≡ e = cc in
          (omega (arith, same, one_longer r x lives room), rw (← same, last_get r.list x) lives)

-- pages that aren't free stay as they are seen
left_pages : (pages : List PageRow) (frames new : List (List ℕ)) (e : ℕ) (ms : List Mapping) → AreLeft pages frames new → ((a : ℕ) (m : Mapping) → slice_get ms a ≡ Some m → row_in pages m.page ≡ Guaranteed e) → pages_seen new ms ≡ pages_seen frames ms
left_pages pages frames new e [] left its = refl
left_pages pages frames new e (m ∷ ms) left its =
    let taken : row_in pages m.page ≢ Free = λ free. let both : Guaranteed e ≡ Free = sym (its 0 m refl) ∙ free in cc in
    let head : page_seen new m ≡ page_seen frames m = ap (λ (bytes : List ℕ). record { vpn = m.vpn; writable = m.writable; bytes = bytes }) (left.left m.page taken) in
    let tail = left_pages pages frames new e ms left (λ a n. its (suc a) n) in
    cc

-- The board with one environment more, and with its pages.
abbrev pub with_one : Shown → Environment → List (List ℕ) → List PageRow → Shown
with_one b x frames pages = record b { frames = frames; pages = pages; roster = record { list = b.roster.list ++ x ∷ []; spare = b.roster.spare - 1 } }

pub added_sound : (b : Shown) (x : Environment) (count : ℕ) (frames : List (List ℕ)) (pages : List PageRow) → IsSoundBoard b → AreGiven (length b.roster.list) count b.pages pages b.frames frames → AreGuaranteed pages (length b.roster.list) x.env.mappings → x.life ≡ Live → 0 < b.roster.spare
    → IsSoundBoard (with_one b x frames pages)
added_sound b x count frames pages sound gives its lives room = record {
  few = omega (arith, sound.few, room, length-append b.roster.list (x ∷ []));
  book = added_manned b.roster x lives room b.slots sound.book;
  memory = added_parted b.roster x count b.pages pages b.frames frames b.binds gives sound.memory its;
  books = added_booked b.roster x count b.pages pages b.frames frames b.binds gives sound.books lives room;
  lines = added_wired b.roster x lives room b.lines sound.lines;
  claims = given_claimed b.claims b.pages pages b.roster (λ p taken. taken_row (length b.roster.list) (row_in b.pages p) (row_in pages p) (given_row (length b.roster.list) count b.pages pages b.frames frames gives p) taken) x (omega (arith, room, length-append b.roster.list (x ∷ []))) sound.claims;
  revocations = given_asked b.revocations b.pages pages (λ p taken. taken_row (length b.roster.list) (row_in b.pages p) (row_in pages p) (given_row (length b.roster.list) count b.pages pages b.frames frames gives p) taken) sound.revocations;
  rows = added_rows b.frames frames b.pages b.roster x b.binds b.tlb.rows gives.left.size sound.books sound.rows;
}

module _ (b : Shown) (x : Environment) (frames : List (List ℕ)) (pages : List PageRow) (p : ProgramValue) (sound : IsSoundBoard b) (gives : AreGiven (length b.roster.list) (guaranteed_mappings p) b.pages pages b.frames frames)
    (name : x.name ≡ p.name) (lives : x.life ≡ Live) (cpu : x.env.cpu ≡ boot_cpu p.body.entry) (handlers : x.env.handlers ≡ no_handlers) (mask : x.env.mask ≡ p.accept) (output : x.output ≡ no_output) (kept : pages_seen frames x.env.mappings ≡ kept_of p)
    (maps : x.env.mappings ≡ mappings_over (length b.roster.list) (length b.pages) (row_in b.pages) (kept_of p)) where
  unrun : is_runner (length b.roster.list) b.slots.runner ≡ false
  unrun = grind (arith, ne_eqb)

  -- nobody has bound or owns pages who isn't there
  unbound : (row : ℕ) → stripes b.binds (length b.roster.list) row ≡ None
  unbound row = grind arith

  -- nor has it claims
  ringless : rings_of b.claims (length b.roster.list) ≡ []
  ringless = by_rows b.claims.rows sound.claims.owned
    where
      by_row : (c : RowValue) (rows : List RowValue) (own : Bool) → has_own_page b.pages c.claim ≡ own → (own && list_all (λ (c : RowValue). has_own_page b.pages c.claim) rows) ≡ true
          → (list_all (λ (c : RowValue). has_own_page b.pages c.claim) rows ≡ true → map ring_in (filter (λ (c : RowValue). is_of_env (length b.roster.list) c.claim) rows) ≡ []) → map ring_in (filter (λ (c : RowValue). is_of_env (length b.roster.list) c.claim) (c ∷ rows)) ≡ []
      by_row c rows true own all rest =
          let live = sound.books.owners c.claim.page c.claim.env (owner_is c.claim.env (row_in b.pages c.claim.page) own) in
          let other : is_of_env (length b.roster.list) c.claim ≡ false = ne_eqb c.claim.env (length b.roster.list) (λ same. omega (arith, same, live.0)) in
          rw other (rest all)
      by_row c rows false own all rest = cc

      by_rows : (rows : List RowValue) → list_all (λ (c : RowValue). has_own_page b.pages c.claim) rows ≡ true → map ring_in (filter (λ (c : RowValue). is_of_env (length b.roster.list) c.claim) rows) ≡ []
      by_rows [] all = refl
      by_rows (c ∷ rows) all = by_row c rows (has_own_page b.pages c.claim) refl all (by_rows rows)

  becomes_row : (page : ℕ) → IsGivenRow (length b.roster.list) (row_in b.pages page) (row_in pages page)
  becomes_row page = given_row (length b.roster.list) (guaranteed_mappings p) b.pages pages b.frames frames gives page

  -- nobody comes to own a page by what is given
  owned_alike : (i page : ℕ) → is_owned_by i (row_in pages page) ≡ is_owned_by i (row_in b.pages page)
  owned_alike i page = grind (arith, becomes_row)

  unowned : (page : ℕ) → is_owned_by (length b.roster.list) (row_in b.pages page) ≡ false
  unowned page = by_row (row_in b.pages page) refl
    where
      by_row : (row : PageRow) → row_in b.pages page ≡ row → is_owned_by (length b.roster.list) row ≡ false
      by_row Free is = refl
      by_row (Guaranteed owner) is = refl
      by_row (Owned owner words) is =
          let live = sound.books.owners page owner (ap owner_of is) in
          ne_eqb owner (length b.roster.list) (λ same. omega (arith, same, live.0))

  unseen : (page : ℕ) → sights_of (with_one b x frames pages) (length b.roster.list) page ≡ None
  unseen page = search (rules, nothing_of, bound_nowhere, owned_alike, unowned, unbound)

  -- what a page that is free shows to nobody
  nowhere_bound : (i page : ℕ) → row_in b.pages page ≡ Free → is_bound page (stripes b.binds i) ≡ false
  nowhere_bound i page free = grind (arith, bound_nowhere, ne_eqb, owned_taken)

  seen_alike : (i page : ℕ) → sights_of (with_one b x frames pages) i page ≡ sights_of b i page
  seen_alike i page = grind (arith, owned_alike, nothing_of, nowhere_bound)

  added_here : solo_of (with_one b x frames pages) (length b.roster.list) ≡ absorb_all (solo_of b (length b.roster.list)) (only (length b.roster.list) (record_items b.binds.version (length b.roster.list) (Some p)) (length b.roster.list))
  added_here = search (rules, last_get, only_here, past_get, unrun, unbound, unseen, ringless)

  added_others : (i : ℕ) → i ≢ length b.roster.list → solo_of (with_one b x frames pages) i ≡ absorb_all (solo_of b i) (only (length b.roster.list) (record_items b.binds.version (length b.roster.list) (Some p)) i)
  added_others i ne =
      like_solo i (with_one b x frames pages) b (search (rules, (other_get b.roster.list x i ne), (left_pages b.pages b.frames frames i (mappings_of b.roster.list i) gives.left (sound.memory.mapped i).its), (seen_alike i)))
      ∙ ap (absorb_all (solo_of b i)) (sym (only_else (length b.roster.list) i (record_items b.binds.version (length b.roster.list) (Some p)) ne))

  pub added_world : world_of (with_one b x frames pages) ≡ with_program (world_of b) p
  added_world = search (rules, more_mappings, length-append, by_env, added_here, added_others)
