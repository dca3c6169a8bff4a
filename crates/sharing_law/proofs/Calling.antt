-- What comes of a granted call: what each environment sees once it is answered and done.
use Rattle.std.proofs.Common.{◌≡◌, ◌≢◌, ◌≤◌, ℕ, List, [], ◌∷◌, Bool, true, false, Option, Some, None, is_some, refl, sym, ◌∙◌, ap, subst, arith}
use Rattle.std.proofs.lemmas.Grind.{common_steps}
use Rattle.std.specs.Prelude.{◌==◌, if◌then◌else◌}
use Rattle.std.proofs.lemmas.Bool.{eqb-true, ne_eqb}
use Rattle.frame_store.specs.Pages.{zero_page}
use Rattle.mips_exec.specs.declared.registers.Cpu.{Cpu}
use Rattle.env_frames.specs.Transfer.{carried}
use Rattle.page_book.specs.declared.row.Capabilities.{Capabilities}
use Rattle.page_book.specs.declared.row.PageRow.{PageRow}
use Rattle.page_book.specs.declared.row.PageRow.TheVariants.{Free, Owned}
use Rattle.page_book.specs.Row.{is_owned_by}
use Rattle.page_book.proofs.Owners.{anothers}
use Rattle.bind_book.specs.declared.binding.Binding.{Binding}
use Rattle.aegis_limits.specs.declared.version.Version.{Version}
use Rattle.bind_book.proofs.Rows.{row_most}
use Rattle.bind_book.specs.Stripe.{binding_at, leads_to_page, is_bound, row_of, without}
use Rattle.world_model.specs.declared.call.Deed.{Deed}
use Rattle.world_model.specs.declared.call.Deed.TheVariants.{Gives as Donates, Allocates, Frees, Recaps, Binds, Unbinds, Transfers}
use Rattle.world_model.specs.declared.life.Life.TheVariants.{Live}
use Rattle.world_model.specs.Table.{set_at}
use Rattle.filter_tree.specs.ClaimBook.{ClaimValue}
use Rattle.filter_tree.specs.Claims.{is_into}
use Rattle.revocation_book.specs.declared.revocation.Pending.{Pending}
use Rattle.revocation_book.specs.Pending.{lowered}
use Rattle.revocation_book.specs.Backups.{unloaded}
use Rattle.world_model.specs.Event.{asks}
use Rattle.world_model.specs.Book.{Book, without_bindings_of, withdrawn}
use Rattle.world_model.specs.Holding.{bound, gained, lost, owning, after_unbind}
use Rattle.world_model.specs.Item.{Item, Start, Transfer, Asked, Gained, Lost, absorb_all, own_part}
use Rattle.world_model.specs.May.{May, MayAllocate, MayChange}
use Rattle.world_model.specs.PageCalls.{lost_bindings, page_bytes, without_number}
use Rattle.world_model.specs.Solo.{Solo}
use Rattle.world_model.specs.Verdict.{asks_one, done}
use Rattle.world_model.specs.World.{World, Reply, no_items, only}
use Rattle.run_model.specs.Acting.{Does}
use Rattle.page_laws.specs.Sight.{IsStripe, Sees}
use Rattle.page_laws.proofs.Sights.{allocator_sees, binder_sees, freer_loses, others_dont, others_lose, recapper_keeps, unbinder_loses, HasNone}
use Rattle.page_laws.proofs.Stripes.{bound_nowhere, without_ends}
use Rattle.page_laws.proofs.Tables.{set_here, set_else, set_owns}
use Rattle.sharing_law.specs.Agreement.{AreBoundAllocated}
use Rattle.sharing_law.proofs.Asking.{asking_or}
use Rattle.sharing_law.proofs.Choices.{either}
use Rattle.sharing_law.proofs.Given.{IsHanded, absorbs, handed_rests, own_leaves}
use Rattle.sharing_law.proofs.Giving.{other_than}
use Rattle.sharing_law.proofs.Owning.{one_owner}
use Rattle.sharing_law.proofs.Sound.{Sound}
use Rattle.sharing_law.proofs.Brings.{Brings, Fate, Stays, Taken, GoesOn, as_before, silent, silent_but}

-- a row of a stripe is none behind its last one
set_ends : (v : Version) (vpn : ℕ) (x : Option Binding) (stripe : ℕ → Option Binding) → IsStripe stripe → IsStripe (set_at (row_of v vpn) x stripe)
set_ends v vpn x stripe ends row behind = set_else (row_of v vpn) row x stripe (λ same. omega (arith, same, behind, row_most v vpn)) ∙ ends row behind

module _ (w : World) (e : ℕ) (sound : Sound w) (lives : (w.solos e).life ≡ Live) (allocated : AreBoundAllocated w) (cpu : Cpu) where
  -- the caller once it is answered, and lives
  abbrev pub caller : Deed → Solo
  caller d = record (own_part d (w.solos e)) { cpu = cpu }

  caller_lives : (d : Deed) → (caller d).life ≡ Live
  caller_lives d = (own_leaves (w.solos e) d).life ∙ lives

  -- the book in what it sees
  abbrev SeesNow : ℕ → Book → (ℕ → List ℕ) → Solo → Type 0
  SeesNow i b bytes s = Sees i b.pages (b.binds i) bytes s

  -- what the caller sees once it was given its items
  receives : (b : Book) (bytes : ℕ → List ℕ) (s : Solo) (its : List Item) (others : ℕ → List Item) (t : Solo) → absorb_all s its ≡ t → SeesNow e b bytes t → SeesNow e b bytes (absorb_all s (set_at e its others e))
  receives b bytes s its others t same seen = subst (SeesNow e b bytes) (sym (ap (absorb_all s) (set_here e its others) ∙ same)) seen

  -- and what another does
  beside : (i : ℕ) → i ≢ e → (b : Book) (bytes : ℕ → List ℕ) (its : List Item) (others : ℕ → List Item) → SeesNow i b bytes (absorb_all (w.solos i) (others i)) → SeesNow i b bytes (absorb_all (w.solos i) (set_at e its others i))
  beside i ne b bytes its others seen = subst (SeesNow i b bytes) (sym (ap (absorb_all (w.solos i)) (set_else e i its others ne))) seen

  -- a free page is bound by nobody
  unbound_free : (page : ℕ) → w.book.pages page ≡ Free → (i : ℕ) → is_bound page (w.book.binds i) ≡ false
  unbound_free page free i = grind (arith, bound_nowhere, ne_eqb)

  -- Allocation.
  module _ (page : ℕ) (words : Capabilities) (zeros : List ℕ) (are : zeros ≡ zero_page) (may : MayAllocate w.book page) (does : Does w e (Allocates page words)) where
    abbrev taken : Book
    taken = record w.book { pages = set_at page (Owned e words) w.book.pages }

    abbrev taken_bytes : ℕ → List ℕ
    taken_bytes = set_at page zeros (page_bytes w)

    abbrev taken_items : List Item
    taken_items = Gained page true zeros ∷ []

    abbrev taker : Solo
    taker = caller (Allocates page words)

    taken_fate : (o p : ℕ) (t : Bool) → (p == page) ≡ t → is_owned_by o (if t then Owned e words else w.book.pages p) ≡ true → Fate w o p (if t then zeros else page_bytes w p)
    taken_fate o p true same owns =
        Taken words (subst (λ (n : ℕ). Does w o (Allocates n words)) (sym (eqb-true p page same)) (subst (λ (i : ℕ). Does w i (Allocates page words)) (eqb-true e o owns) does)) (ap w.book.pages (eqb-true p page same) ∙ may.free) are
    taken_fate o p false other owns = Stays owns refl

    alloc_brings : Brings w e taker taken (only e taken_items)
    alloc_brings = record {
      bytes = taken_bytes;
      own = receives taken taken_bytes taker taken_items no_items (gained page zeros taker) (absorbs taker (Gained page true zeros) [] lives)
          (as_before e taken.pages (w.book.binds e) taken_bytes (gained page zeros (owning page (w.solos e))) (gained page zeros taker) refl refl
          (allocator_sees e page words zeros w.book.pages (w.book.binds e) (page_bytes w) (w.solos e) (sound.agreed e) may.free));
      others = λ i ne live.
          beside i ne taken taken_bytes taken_items no_items
          (others_dont i page (Owned e words) zeros w.book.pages (w.book.binds i) (page_bytes w) (w.solos i) (sound.agreed i) (ap (is_owned_by i) may.free) (ne_eqb e i (λ same. ne (sym same))) (unbound_free page may.free i));
      none = λ i ne before. record { binds = before.binds; owns = set_owns i page (Owned e words) w.book.pages (ne_eqb e i (λ same. ne (sym same))) before.owns };
      stripes = sound.stripes;
      behind = λ p more. set_else page p (Owned e words) w.book.pages (λ same. behind_other p more same) ∙ sound.behind p more;
      fate = λ o p owns. taken_fate o p (p == page) refl owns;
      fortune = GoesOn lives;
    }
      where
        behind_other : (p : ℕ) → w.book.page_count ≤ p → p ≡ page → ⊥
        behind_other p more same = omega (arith, may.there)

  -- A page that its owner frees, or gives other words.
  module _ (page : ℕ) (row : PageRow) (but : Option ℕ) (claims : List ClaimValue) (pending : ℕ → Option Pending) (backups : ℕ → List ℕ) (may : MayChange w.book e page) (d : Deed) (its : List Item) (t : Solo) (after : absorb_all (caller d) its ≡ t) where
    abbrev changed : Book
    changed = record (without_bindings_of page but (record w.book { pages = set_at page row w.book.pages })) { claims = claims; pending = pending; backups = backups }

    behind_other : (p : ℕ) → w.book.page_count ≤ p → p ≡ page → ⊥
    behind_other p more same = omega (arith, may.there)

    change_brings : SeesNow e changed (page_bytes w) t → ((i : ℕ) → i ≢ e → is_owned_by i row ≡ false) → ((i : ℕ) → i ≢ e → but ≢ Some i)
        → ((o : ℕ) → is_owned_by o row ≡ true → is_owned_by o (w.book.pages page) ≡ true) → Brings w e (caller d) changed (set_at e its (lost_bindings w.book page))
    change_brings sees no_other no_but before = record {
      bytes = page_bytes w;
      own = receives changed (page_bytes w) (caller d) its (lost_bindings w.book page) t after sees;
      others = λ i ne live.
          beside i ne changed (page_bytes w) its (lost_bindings w.book page)
          (others_lose i page but row w.book.pages (w.book.binds i) (page_bytes w) (w.solos i) (sound.agreed i) live (no_but i ne) (anothers e i (w.book.pages page) ne may.owned) (no_other i ne) (sound.stripes i));
      none = λ i ne none. record { binds = λ n. ap (without (leads_to_page page but i)) (none.binds n); owns = set_owns i page row w.book.pages (no_other i ne) none.owns };
      stripes = λ i. without_ends (leads_to_page page but i) (w.book.binds i) (sound.stripes i);
      behind = λ p more. set_else page p row w.book.pages (λ same. behind_other p more same) ∙ sound.behind p more;
      fate = λ o p owns. fate o p (p == page) refl owns;
      fortune = GoesOn (caller_lives d);
    }
      where
        fate : (o p : ℕ) (t : Bool) → (p == page) ≡ t → is_owned_by o (if t then row else w.book.pages p) ≡ true → Fate w o p (page_bytes w p)
        fate o p true same owns = Stays (ap (λ n. is_owned_by o (w.book.pages n)) (eqb-true p page same) ∙ before o owns) refl
        fate o p false other owns = Stays owns refl

  free_brings : (page : ℕ) → MayChange w.book e page → Brings w e (caller (Frees page)) (done w e (Frees page)).book (done w e (Frees page)).items
  free_brings page may =
      let t = caller (Frees page) in
      change_brings page Free None (withdrawn (is_into page) w.book).claims (set_at e (lowered (w.book.pending e)) w.book.pending) (set_at e (unloaded page (w.book.backups e)) w.book.backups) may (Frees page) (Lost page ∷ []) (lost page t) (absorbs t (Lost page) [] lives)
      (freer_loses e page Free w.book.pages (w.book.binds e) (page_bytes w) t (as_before e w.book.pages (w.book.binds e) (page_bytes w) (w.solos e) t refl refl (sound.agreed e)) refl)
      (λ i ne. refl) (λ i ne same. none_some i same) (λ o owns. absurd (false_true owns))
    where
      none_some : (i : ℕ) → None ≡ Some i → ⊥
      none_some i same = cc

      false_true : false ≡ true → ⊥
      false_true same = cc

  recap_brings : (page : ℕ) (words : Capabilities) → MayChange w.book e page → Brings w e (caller (Recaps page words)) (done w e (Recaps page words)).book (done w e (Recaps page words)).items
  recap_brings page words may =
      let t = caller (Recaps page words) in
      change_brings page (Owned e words) (Some e) w.book.claims w.book.pending w.book.backups may (Recaps page words) [] t refl
      (recapper_keeps e page words w.book.pages (w.book.binds e) (page_bytes w) t (as_before e w.book.pages (w.book.binds e) (page_bytes w) (w.solos e) t refl refl (sound.agreed e)) may.owned)
      (λ i ne. ne_eqb e i (λ same. ne (sym same))) (λ i ne same. let its : i ≡ e = cc in ne its) (λ o owns. one_owner e o (w.book.pages page) may.owned (eqb-true e o owns))

  -- A call that gives its caller another stripe.
  module _ (stripe : ℕ → Option Binding) (ends : IsStripe stripe) (d : Deed) (items : ℕ → List Item) (none : (i : ℕ) → i ≢ e → items i ≡ []) where
    abbrev restriped : Book
    restriped = record w.book { binds = set_at e stripe w.book.binds }

    stripe_brings : Sees e w.book.pages stripe (page_bytes w) (absorb_all (caller d) (items e)) → Brings w e (caller d) restriped items
    stripe_brings sees = record {
      bytes = page_bytes w;
      own = subst (λ (f : ℕ → Option Binding). Sees e w.book.pages f (page_bytes w) (absorb_all (caller d) (items e))) (sym (set_here e stripe w.book.binds)) sees;
      others = λ i ne live.
          subst (λ (its : List Item). SeesNow i restriped (page_bytes w) (absorb_all (w.solos i) its)) (sym (none i ne))
          (subst (λ (f : ℕ → Option Binding). Sees i w.book.pages f (page_bytes w) (w.solos i)) (sym (set_else e i stripe w.book.binds ne)) (sound.agreed i));
      none = λ i ne before. subst (λ (f : ℕ → Option Binding). HasNone i w.book.pages f) (sym (set_else e i stripe w.book.binds ne)) before;
      stripes = λ i. either IsStripe (i == e) stripe (w.book.binds i) ends (sound.stripes i);
      behind = sound.behind;
      fate = λ o p owns. Stays owns refl;
      fortune = GoesOn (caller_lives d);
    }

  bind_brings : (b : Binding) (word : ℕ) → Brings w e (caller (Binds b word)) (done w e (Binds b word)).book (done w e (Binds b word)).items
  bind_brings b word =
      let v = (w.solos e).version in
      let stripe = set_at (row_of v b.vpn) (Some b) (w.book.binds e) in
      let now = caller (Binds b word) in
      let bytes = page_bytes w b.page in
      let its : List Item = Gained b.page b.writable bytes ∷ [] in
      stripe_brings stripe (set_ends v b.vpn (Some b) (w.book.binds e) (sound.stripes e)) (Binds b word) (only e its) (λ i ne. set_else e i its no_items ne)
      (subst (λ (s : Solo). Sees e w.book.pages stripe (page_bytes w) s) (sym (ap (absorb_all now) (set_here e its no_items) ∙ absorbs now (Gained b.page b.writable bytes) [] lives))
      (as_before e w.book.pages stripe (page_bytes w) (gained b.page bytes (bound b (w.solos e))) (gained b.page bytes now) refl refl
      (binder_sees e b w.book.pages (w.book.binds e) (page_bytes w) (w.solos e) (sound.agreed e))))

  without_number_ends : (v : Version) (vpn : ℕ) → IsStripe (without_number v vpn (w.book.binds e))
  without_number_ends v vpn =
      let stripe = w.book.binds e in
      either IsStripe (is_some (binding_at v stripe vpn)) (set_at (row_of v vpn) None stripe) stripe (set_ends v vpn None stripe (sound.stripes e)) (sound.stripes e)

  unbind_brings : (vpn : ℕ) → Brings w e (caller (Unbinds vpn)) (done w e (Unbinds vpn)).book no_items
  unbind_brings vpn =
      let v = (w.solos e).version in
      stripe_brings (without_number v vpn (w.book.binds e)) (without_number_ends v vpn) (Unbinds vpn) no_items (λ i ne. refl)
      (as_before e w.book.pages (without_number v vpn (w.book.binds e)) (page_bytes w) (after_unbind vpn (w.solos e)) (caller (Unbinds vpn)) refl refl
      (unbinder_loses e vpn w.book.pages (w.book.binds e) (page_bytes w) (w.solos e) (sound.agreed e)))

  -- The rest of a slice goes to another, which starts or is entered, or another is asked for a page.
  module _ (target : ℕ) (item : Item) (is_handed : IsHanded item) (other : e ≢ target) where
    other_sees : (i : ℕ) → SeesNow i w.book (page_bytes w) (absorb_all (w.solos i) (only target (item ∷ []) i))
    other_sees i = grind (arith, common_steps, handed_rests, as_before)

    hands_brings : (s : Solo) → s.life ≡ Live → s.binds ≡ (w.solos e).binds → s.seen ≡ (w.solos e).seen → (b : Book)
        → Brings w e s (record b { page_count = w.book.page_count; pages = w.book.pages; binds = w.book.binds }) (only target (item ∷ []))
    hands_brings s alive binds sights b = record {
      bytes = page_bytes w;
      own = subst (λ (its : List Item). SeesNow e w.book (page_bytes w) (absorb_all s its)) (sym (set_else target e (item ∷ []) no_items other))
          (as_before e w.book.pages (w.book.binds e) (page_bytes w) (w.solos e) s binds sights (sound.agreed e));
      others = λ i ne live. other_sees i;
      none = λ i ne before. before;
      stripes = sound.stripes;
      behind = sound.behind;
      fate = λ o page owns. Stays owns refl;
      fortune = GoesOn alive;
    }

  -- Another is asked for a page.
  pub ask_brings : (s : Solo) → s.life ≡ Live → s.binds ≡ (w.solos e).binds → s.seen ≡ (w.solos e).seen → (who : ℕ) → e ≢ who → Brings w e s (asks_one who w).book (asks_one who w).items
  ask_brings s alive binds sights who other =
      asking_or (λ (r : Reply). Brings w e s r.book r.items) w who (silent w e sound lives s alive binds sights)
      (λ p. hands_brings who (Asked p.outstanding p.deadline) tt other s alive binds sights (asks who (Some p) w).book)

  -- deed by deed
  pub deed_brings : (d : Deed) → Does w e d → May w e d → Brings w e (caller d) (done w e d).book (done w e d).items
  deed_brings (Donates target) does may = hands_brings target Start tt (other_than w e target may.other) (caller (Donates target)) lives refl refl (done w e (Donates target)).book
  deed_brings (Allocates page words) does may = alloc_brings page words zero_page refl may does
  deed_brings (Frees page) does may = free_brings page may
  deed_brings (Recaps page words) does may = recap_brings page words may
  deed_brings (Binds b word) does may = bind_brings b word
  deed_brings (Unbinds vpn) does may = unbind_brings vpn
  deed_brings (Transfers target kind) does may =
      hands_brings target (Transfer e kind (carried (w.solos e).cpu)) tt (other_than w e target may.reach.other) (caller (Transfers target kind)) lives refl refl (done w e (Transfers target kind)).book
  deed_brings d does may = silent_but w e sound lives (caller d) (done w e d).book lives refl refl
