-- What comes of the runner's act to claims.
use Rattle.std.proofs.Common.{◌≡◌, ◌≢◌, ℕ, zero, suc, List, [], ◌∷◌, map, Bool, true, false, not, ◌&&◌, Option, Some, None, Ok, is_some, inl, refl, sym, ◌∙◌, ap, subst, arith}
use Rattle.std.proofs.lemmas.Grind.{common_steps}
use Rattle.std.specs.Prelude.{◌==◌, filter, find, if◌then◌else◌}
use mathlib.Core.Bool.{and-false, and-true}
use Rattle.std.proofs.lemmas.Bool.{and_parts, eqb-true, eqb-false, ne_eqb, not-true}
use Rattle.std.proofs.lemmas.List.Sums.{fold-append}
use Rattle.filter_core.specs.declared.atom.Atom.{Atom}
use Rattle.filter_core.specs.Asking.{agree}
use Rattle.filter_core.specs.Filters.{filter_of, is_filter}
use Rattle.filter_tree.specs.ClaimBook.{ClaimValue, is_of_env}
use Rattle.filter_tree.specs.Claims.{claim_refusal, is_claim, is_in_the_way, is_into, is_numbered}
use Rattle.mips_exec.specs.declared.registers.Cpu.{Cpu}
use Rattle.page_book.specs.declared.row.Capabilities.{Capabilities}
use Rattle.page_book.specs.declared.row.PageRow.TheVariants.{Free, Owned}
use Rattle.page_book.specs.Row.{belongs_to, is_owned_by}
use Rattle.page_book.proofs.Owners.{anothers}
use Rattle.bind_book.specs.Stripe.{binding_at, is_bound, row_of}
use Rattle.world_model.specs.declared.call.Deed.{Deed}
use Rattle.world_model.specs.declared.call.Deed.TheVariants.{Gives as Donates, Allocates, Frees, Recaps, Binds, Unbinds, Transfers, Claims, Unclaims, Downloads}
use Rattle.packet_ring.specs.declared.buffer.Buffer.TheVariants.{First}
use Rattle.world_model.specs.declared.life.Life.TheVariants.{Live}
use Rattle.world_model.specs.declared.life.Cause.{Cause}
use Rattle.env_frames.specs.Transfer.{carried}
use Rattle.frame_store.specs.Pages.{zero_page}
use Rattle.world_model.specs.Book.{Book, sees}
use Rattle.world_model.specs.ClaimCalls.{atoms_or_none, filter_at}
use Rattle.world_model.specs.Death.{death, death_items, lost_with}
use Rattle.revocation_book.specs.declared.revocation.Taking.{Taking}
use Rattle.world_model.specs.Deadlines.{copy_left}
use Rattle.world_model.specs.Event.{asks, ring_left}
use Rattle.world_model.specs.Holding.{with_binds}
use Rattle.world_model.specs.Item.{Item, Start, Transfer, Asked, Gained, Lost, Left, absorb, absorb_all, absorbed, own_part}
use Rattle.world_model.specs.May.{May, MayChange, MayClaim}
use Rattle.world_model.specs.Page.{Mapped}
use Rattle.world_model.specs.PageCalls.{lost_bindings, left_at, left_by, left_if, lost_if, page_bytes}
use Rattle.world_model.specs.Rings.{page_store}
use Rattle.world_model.specs.Solo.{Solo, Store, Key, Kept, Physical, dead, sight}
use Rattle.world_model.specs.Table.{set_at}
use Rattle.world_model.specs.Verdict.{asks_one, done}
use Rattle.world_model.specs.World.{World, Reply, no_items, only}
use Rattle.page_laws.proofs.Mourning.{not_owned, owned_still}
use Rattle.page_laws.proofs.Tables.{set_here, set_else}
use Rattle.sharing_law.specs.Agreement.{ClaimPage, claim_page}
use Rattle.sharing_law.proofs.Asking.{asking_or}
use Rattle.sharing_law.proofs.Choices.{either}
use Rattle.sharing_law.proofs.Lists.{Has, filter_none, not_there}
use Rattle.sharing_law.proofs.Claimed.{AreGood, AreRings, Claimed, good_less, good_more, good_same, rings_beside, rings_handled, rings_less, rings_more, rings_other, rings_spared}
use Rattle.sharing_law.proofs.Given.{IsHanded, absorb_or, absorbs, dead_absorbs, handed_rests}
use Rattle.sharing_law.proofs.Owning.{free_else, own_else}

-- What comes of a runner, which is s after its act and its answer: each environment has the claims that the book lists for it then.
pub record Claiming (w : World) (e : ℕ) (s : Solo) (b : Book) (items : ℕ → List Item) : Type 0 where
  pub own : AreRings e b.claims (absorb_all s (items e)).rings
  pub others : (i : ℕ) → i ≢ e → AreRings i b.claims (absorb_all (w.solos i) (items i)).rings
  pub good : AreGood b

-- items that leave rings
abbrev pub Spares : List Item → Type 0
Spares items = (s : Solo) → (absorb_all s items).rings ≡ s.rings

spare_none : Spares []
spare_none s = refl

spare_one : (item : Item) → ((s : Solo) → (absorbed s item).rings ≡ s.rings) → Spares (item ∷ [])
spare_one item same s = absorb_or (λ t. t.rings ≡ s.rings) s item refl (same s)

spare_only : (e : ℕ) (items : List Item) → Spares items → (i : ℕ) → Spares (only e items i)
spare_only e items spares i = either Spares (i == e) items [] spares spare_none

-- as a store does
left_spares : (t : Bool) (page : ℕ) (x : Store) → Spares (left_if t page x)
left_spares true page x = spare_one (Left page x.offset x.bytes) (λ s. refl)
left_spares false page x = spare_none

left_at_spares : (b : Book) (e : ℕ) (x : Store) (key : Key) (i : ℕ) → Spares (left_at b e x key i)
left_at_spares b e x (Kept vpn) i = spare_none
left_at_spares b e x (Physical page) i = either Spares (i == e) [] (left_if (sees b i page) page x) spare_none (left_spares (sees b i page) page x)

-- or a packet that is another's
pub ring_left_spares : (b : Book) (owner page : ℕ) (bytes : Option (List ℕ)) (i : ℕ) → Spares (ring_left b owner page bytes i)
ring_left_spares b owner page None i = spare_none
ring_left_spares b owner page (Some bytes) i = left_at_spares b owner (page_store page bytes) (Physical page) i

-- or a copy of a page that is taken from another
pub copy_spares : (w : World) (x : Taking) (backup : Option ℕ) (i : ℕ) → Spares (copy_left w x backup i)
copy_spares w x None i = spare_none
copy_spares w x (Some backup) i = left_at_spares w.book x.env (page_store backup (page_bytes w x.page)) (Physical backup) i

-- no claim of an environment goes into a page that isn't its own
pub beside : (b : Book) → AreGood b → (i page : ℕ) → is_owned_by i (b.pages page) ≡ false → (c : ClaimValue) → Has b.claims c → is_of_env i c ≡ true → (c.page == page) ≡ false
beside b good i page none c its own = grind (arith, common_steps, ne_eqb, eqb-true)

-- who loses such a page loses no claim
pub loses_beside : (i page : ℕ) (claims : List ClaimValue) → ((c : ClaimValue) → Has claims c → is_of_env i c ≡ true → (c.page == page) ≡ false)
    → (t : Bool) (s : Solo) → AreRings i claims s.rings → AreRings i claims (absorb_all s (lost_if t page)).rings
loses_beside i page claims other true s are = absorb_or (λ t. AreRings i claims t.rings) s (Lost page) are (rings_beside i page claims s.rings other are)
loses_beside i page claims other false s are = are

-- who loses what is gone with another loses no claim
loses_with : (b : Book) → AreGood b → (gone i n : ℕ) → i ≢ gone → (s : Solo) → AreRings i b.claims s.rings → AreRings i b.claims (absorb_all s (lost_with b gone i n)).rings
loses_with b good gone i zero other s are = are
loses_with b good gone i (suc n) other s are =
    let before = loses_with b good gone i n other s are in
    subst (λ (t : Solo). AreRings i b.claims t.rings) (sym (fold-append absorb s (lost_with b gone i n) (if belongs_to gone (b.pages n) then lost_bindings b n i else [])))
    (by_test (absorb_all s (lost_with b gone i n)) before (belongs_to gone (b.pages n)) refl)
  where
    by_test : (t : Solo) → AreRings i b.claims t.rings → (its : Bool) → belongs_to gone (b.pages n) ≡ its → AreRings i b.claims (absorb_all t (if its then lost_bindings b n i else [])).rings
    by_test t are true is = loses_beside i n b.claims (beside b good i n (not_owned gone i (b.pages n) other is)) (is_bound n (b.binds i)) t are
    by_test t are false is = are

module _ (w : World) (e : ℕ) (claimed : Claimed w) where
  -- Nothing becomes of claims.
  pub steady_but : (s : Solo) (b : Book) (items : ℕ → List Item) → s.rings ≡ (w.solos e).rings → ((i : ℕ) → Spares (items i)) → b.claims ≡ w.book.claims → b.next_claim ≡ w.book.next_claim
      → ((c : ClaimValue) → is_owned_by c.env (w.book.pages c.page) ≡ true → is_owned_by c.env (b.pages c.page) ≡ true) → Claiming w e s b items
  steady_but s b items rings spares same next owned = grind (arith, common_steps, good_same)

  -- the book lists the same pages, too
  pub steady : (s : Solo) (b : Book) (items : ℕ → List Item) → s.rings ≡ (w.solos e).rings → ((i : ℕ) → Spares (items i))
      → Claiming w e s (record b { pages = w.book.pages; claims = w.book.claims; next_claim = w.book.next_claim }) items
  steady s b items rings spares = steady_but s (record b { pages = w.book.pages; claims = w.book.claims; next_claim = w.book.next_claim }) items rings spares refl refl (λ c owned. owned)

  pub store_claims : (s : Solo) (x : Store) → s.rings ≡ (w.solos e).rings → Claiming w e s w.book (left_by w.book e x)
  store_claims s x rings = steady s w.book (left_by w.book e x) rings (left_at_spares w.book e x x.key)

  -- another is asked for a page
  pub ask_claims : (s : Solo) → s.rings ≡ (w.solos e).rings → (who : ℕ) → Claiming w e s (asks_one who w).book (asks_one who w).items
  ask_claims s rings who =
      asking_or (λ (r : Reply). Claiming w e s r.book r.items) w who (steady s w.book no_items rings (λ i. spare_none))
      (λ p. let item = Asked p.outstanding p.deadline in steady s (asks who (Some p) w).book (only who (item ∷ [])) rings (λ i. spare_only who (item ∷ []) (λ t. (handed_rests item tt t).rings) i))

  -- what others lose of a page of the runner's is no claim's
  others_beside : (page : ℕ) → is_owned_by e (w.book.pages page) ≡ true → (i : ℕ) → i ≢ e → (c : ClaimValue) → Has w.book.claims c → is_of_env i c ≡ true → (c.page == page) ≡ false
  others_beside page own i ne = beside w.book claimed.good i page (anothers e i (w.book.pages page) ne own)

  others_keep : (page : ℕ) → is_owned_by e (w.book.pages page) ≡ true → (its : List Item) (i : ℕ) → i ≢ e → AreRings i w.book.claims (absorb_all (w.solos i) (set_at e its (lost_bindings w.book page) i)).rings
  others_keep page own its i ne = grind (arith, common_steps, set_else, loses_beside, others_beside)

  -- Death: an environment's claims go with it.
  module _ (cpu : Cpu) (cause : Cause) where
    abbrev corpse : Solo
    corpse = dead cause (record (w.solos e) { cpu = cpu })

    pub death_claims : Claiming w e corpse (death w e).book (death_items w.book e)
    death_claims = record {
      own = subst (λ (s : Solo). AreRings e (death w e).book.claims s.rings) (sym (dead_absorbs corpse cause (death_items w.book e e) refl)) (ap (map claim_page) (sym (filter_none (is_of_env e) w.book.claims)));
      others = λ i ne.
          subst (λ (items : List Item). AreRings i (death w e).book.claims (absorb_all (w.solos i) items).rings) (ap (λ t. if t then [] else lost_with w.book e i w.book.page_count) (sym (ne_eqb i e ne)))
          (rings_spared i w.book.claims (absorb_all (w.solos i) (lost_with w.book e i w.book.page_count)).rings (λ (c : ClaimValue). not (is_of_env e c)) (λ c its own. others_left i ne c own)
          (loses_with w.book claimed.good e i w.book.page_count ne (w.solos i) (claimed.rings i)));
      good = good_less w.book (death w e).book (λ (c : ClaimValue). not (is_of_env e c)) refl refl
          (λ c left owned. owned_still e c.env (w.book.pages c.page) (eqb-false c.env e (not-true (is_of_env e c) left)) ∙ owned) claimed.good;
    }
      where
        others_left : (i : ℕ) → i ≢ e → (c : ClaimValue) → is_of_env i c ≡ true → not (is_of_env e c) ≡ true
        others_left i ne c own = ap not (ne_eqb c.env e (λ same. ne (sym (eqb-true c.env i own) ∙ same)))

  -- The deeds of a caller that lives.
  module _ (lives : (w.solos e).life ≡ Live) (cpu : Cpu) where
    abbrev caller : Deed → Solo
    caller d = record (own_part d (w.solos e)) { cpu = cpu }

    abbrev not_into : ℕ → ClaimValue → Bool
    not_into page c = not (is_into page c)

    free_claims : (page : ℕ) → MayChange w.book e page → Claiming w e (caller (Frees page)) (done w e (Frees page)).book (done w e (Frees page)).items
    free_claims page may = record {
      own = subst (λ (s : Solo). AreRings e (filter (not_into page) w.book.claims) s.rings) (sym (ap (absorb_all (caller (Frees page))) (set_here e (Lost page ∷ []) (lost_bindings w.book page)) ∙ absorbs (caller (Frees page)) (Lost page) [] lives))
          (rings_less e w.book.claims (w.solos e).rings (λ (p : ClaimPage). not (p.page == page)) (not_into page) (λ c own. refl) (claimed.rings e));
      others = λ i ne.
          rings_spared i w.book.claims (absorb_all (w.solos i) (set_at e (Lost page ∷ []) (lost_bindings w.book page) i)).rings (not_into page) (λ c its own. ap not (others_beside page may.owned i ne c its own))
          (others_keep page may.owned (Lost page ∷ []) i ne);
      good = good_less w.book (done w e (Frees page)).book (not_into page) refl refl (λ c kept owned. ap (is_owned_by c.env) (set_else page c.page Free w.book.pages (eqb-false c.page page (not-true (is_into page c) kept))) ∙ owned) claimed.good;
    }

    recap_claims : (page : ℕ) (words : Capabilities) → MayChange w.book e page → Claiming w e (caller (Recaps page words)) (done w e (Recaps page words)).book (done w e (Recaps page words)).items
    recap_claims page words may = grind (arith, common_steps, set_here, others_keep, good_same, own_else)

    unbound_rings : (vpn : ℕ) → (own_part (Unbinds vpn) (w.solos e)).rings ≡ (w.solos e).rings
    unbound_rings vpn = let s = w.solos e in either (λ t. t.rings ≡ s.rings) (is_some (binding_at s.version s.binds vpn)) (with_binds (set_at (row_of s.version vpn) None s.binds) s) s refl refl

    hands_claims : (target : ℕ) (item : Item) → IsHanded item → (i : ℕ) → Spares (only target (item ∷ []) i)
    hands_claims target item is_handed i = spare_only target (item ∷ []) (λ s. (handed_rests item is_handed s).rings) i

    -- a filter that is named is one
    named_rule : (filter : List Atom) (bytes : List ℕ) → filter_of bytes ≡ Some filter → is_filter filter ≡ true
    unfolding filter_of
    named_rule filter bytes is = grind (arith, common_steps, and_parts)

    rule_of : (look : ℕ → Option Mapped) (address atoms : ℕ) (filter : List Atom) → filter_at look address atoms ≡ Ok filter → is_filter filter ≡ true
    rule_of look address atoms filter is = grind (arith, common_steps, named_rule)

    -- where a claim isn't refused none is in its way
    none_in_the_way : (filter : List Atom) → claim_refusal w.book.claims e filter ≡ None → find (is_in_the_way e filter) w.book.claims ≡ None
    none_in_the_way filter is = grind (arith, common_steps)

    none_agrees : (filter : List Atom) → claim_refusal w.book.claims e filter ≡ None → (d : ClaimValue) → Has w.book.claims d → e ≢ d.env → agree filter d.filter ≡ false
    none_agrees filter beside d its other =
        ap (λ t. not t && agree filter d.filter) (sym (ne_eqb d.env e (λ same. other (sym same)))) ∙ not_there (is_in_the_way e filter) w.book.claims (none_in_the_way filter beside) d its

    module _ (claim address atoms page : ℕ) (may : MayClaim w e claim address atoms page) where
      abbrev made : ClaimValue
      made = record { id = claim; env = e; filter = atoms_or_none (filter_at (sight (w.solos e)) address atoms); page = page }

      claim_claims : Claiming w e (caller (Claims claim address atoms page)) (done w e (Claims claim address atoms page)).book no_items
      claim_claims = record {
        own = rings_more w.book.claims (w.solos e).rings made (record { claim = claim; page = page; next = First; handler = None }) refl (claimed.rings e);
        others = λ i ne. rings_other i w.book.claims (w.solos i).rings made ne (claimed.rings i);
        good = good_more w.book made may.ring.owned may.number (ap (λ r. is_filter (atoms_or_none r)) may.named ∙ rule_of (sight (w.solos e)) address atoms may.filter may.named)
            (λ d its other. inl (ap (λ r. agree (atoms_or_none r) d.filter) may.named ∙ none_agrees may.filter may.beside d its other)) claimed.good;
      }

    abbrev not_claim : ℕ → ClaimValue → Bool
    not_claim claim c = not (is_claim e claim c)

    unclaim_claims : (claim : ℕ) → Claiming w e (caller (Unclaims claim)) (done w e (Unclaims claim)).book no_items
    unclaim_claims claim = record {
      own = rings_less e w.book.claims (w.solos e).rings (λ (p : ClaimPage). not (p.claim == claim)) (not_claim claim) (λ c own. own_stays c own) (claimed.rings e);
      others = λ i ne. rings_spared i w.book.claims (w.solos i).rings (not_claim claim) (λ c its own. others_stay i ne c own) (claimed.rings i);
      good = good_less w.book (done w e (Unclaims claim)).book (not_claim claim) refl refl (λ c kept owned. owned) claimed.good;
    }
      where
        own_stays : (c : ClaimValue) → is_of_env e c ≡ true → not (is_numbered claim c) ≡ not (is_claim e claim c)
        own_stays c own = ap not (sym (and-true (is_numbered claim c)) ∙ ap (λ t. is_numbered claim c && t) (sym own))

        others_stay : (i : ℕ) → i ≢ e → (c : ClaimValue) → is_of_env i c ≡ true → not (is_claim e claim c) ≡ true
        others_stay i ne c own = ap not (ap (λ t. is_numbered claim c && t) (ne_eqb c.env e (λ same. ne (sym (eqb-true c.env i own) ∙ same))) ∙ and-false (is_numbered claim c))

    download_claims : (claim address words : ℕ) → Claiming w e (caller (Downloads claim address words)) w.book no_items
    download_claims claim address words = grind (arith, common_steps, rings_handled)

    -- deed by deed
    pub deed_claims : (d : Deed) → May w e d → Claiming w e (caller d) (done w e d).book (done w e d).items
    deed_claims (Donates target) may = steady (caller (Donates target)) (done w e (Donates target)).book (only target (Start ∷ [])) refl (hands_claims target Start tt)
    deed_claims (Allocates page words) may =
        let its : List Item = Gained page true zero_page ∷ [] in
        steady_but (caller (Allocates page words)) (done w e (Allocates page words)).book (only e its) refl (spare_only e its (spare_one (Gained page true zero_page) (λ s. refl))) refl refl
        (λ c. free_else page (Owned e words) w.book.pages may.free c.env c.page)
    deed_claims (Frees page) may = free_claims page may
    deed_claims (Recaps page words) may = recap_claims page words may
    deed_claims (Binds b word) may =
        let its : List Item = Gained b.page b.writable (page_bytes w b.page) ∷ [] in
        steady (caller (Binds b word)) (done w e (Binds b word)).book (only e its) refl (spare_only e its (spare_one (Gained b.page b.writable (page_bytes w b.page)) (λ s. refl)))
    deed_claims (Unbinds vpn) may = steady (caller (Unbinds vpn)) (done w e (Unbinds vpn)).book no_items (unbound_rings vpn) (λ i. spare_none)
    deed_claims (Transfers target kind) may =
        let item = Transfer e kind (carried (w.solos e).cpu) in
        steady (caller (Transfers target kind)) (done w e (Transfers target kind)).book (only target (item ∷ [])) refl (hands_claims target item tt)
    deed_claims (Claims claim address atoms page) may = claim_claims claim address atoms page may
    deed_claims (Unclaims claim) may = unclaim_claims claim
    deed_claims (Downloads claim address words) may = download_claims claim address words
    deed_claims d may = steady (caller d) (done w e d).book no_items refl (λ i. spare_none)
