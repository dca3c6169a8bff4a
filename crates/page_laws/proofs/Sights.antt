-- How each change of the books changes what environments see.
use Rattle.std.proofs.Common.{◌≡◌, ◌≢◌, ℕ, List, [], ◌∷◌, Bool, true, false, not, ◌&&◌, Option, Some, None, is_some, refl, sym, ◌∙◌, ap, subst}
use Rattle.std.specs.Prelude.{◌==◌, if◌then◌else◌}
use Rattle.std.specs.Option.{option_map}
use Rattle.std.proofs.lemmas.Bool.{ne_eqb, eq-eqb, eqb-true, both_ways, or_parts}
use mathlib.Core.Bool.{and-false, and-true}
use Rattle.frame_store.specs.Pages.{with_bytes}
use Rattle.page_book.specs.declared.row.PageRow.{PageRow}
use Rattle.page_book.specs.declared.row.PageRow.TheVariants.{Owned}
use Rattle.page_book.specs.Row.{is_owned_by}
use Rattle.bind_book.specs.declared.binding.Binding.{Binding}
use Rattle.bind_book.specs.Stripe.{binding_at, leads_to_page, is_but, is_bound, is_of_page, row_of, without}
use Rattle.world_model.specs.declared.life.Life.TheVariants.{Live}
use Rattle.world_model.specs.Table.{set_at}
use Rattle.world_model.specs.Solo.{Solo, Seen, Store, Physical, is_dead, is_physical, with_store, stored_sight}
use Rattle.world_model.specs.Holding.{bound, gained, is_owned, lost, owning, still_seen, after_unbind, with_binds}
use Rattle.world_model.specs.Item.{Lost, absorb_all}
use Rattle.world_model.specs.Book.{sees}
use Rattle.world_model.specs.PageCalls.{left_if, lost_if, without_number}
use Rattle.page_laws.specs.Sight.{IsStripe, Sees, seen_if, seen_in}
use Rattle.page_laws.specs.Laws.{AllocatorSees, BinderSees, FreerLoses, OthersDont, OthersLose, ReadersSee, RecapperKeeps, UnbinderLoses, WriterSees, broken_stripe, with_row}
use Rattle.page_laws.proofs.Tables.{by_number, set_here, set_else}
use Rattle.page_laws.proofs.Stripes.{binds_here, bound_before, bound_no_more, bound_still, kept_row, nothing_goes, bound_nowhere}

-- stripes with the same rows serve alike
pub sees_alike : (e : ℕ) (pages : ℕ → PageRow) (f g : ℕ → Option Binding) (bytes : ℕ → List ℕ) (s : Solo) → ((row : ℕ) → f row ≡ g row) → Sees e pages f bytes s → Sees e pages g bytes s
sees_alike e pages f g bytes s same = subst (λ (stripe : ℕ → Option Binding). Sees e pages stripe bytes s) (λ k row. same row k)

-- a page that is neither owned nor bound isn't seen
pub nothing_of : (owned bound : Bool) (bytes : List ℕ) → owned ≡ false → bound ≡ false → seen_if owned bound bytes ≡ None
nothing_of owned bound bytes not_owned not_bound = λ k. seen_if (not_owned k) (not_bound k) bytes

-- an environment with no bindings that owns no page
pub record HasNone (i : ℕ) (pages : ℕ → PageRow) (stripe : ℕ → Option Binding) : Type 0 where
  pub binds : (row : ℕ) → stripe row ≡ None
  pub owns : (page : ℕ) → is_owned_by i (pages page) ≡ false

-- where nothing is bound, a page isn't
pub unbound_page : (stripe : ℕ → Option Binding) → ((row : ℕ) → stripe row ≡ None) → (page : ℕ) → is_bound page stripe ≡ false
unbound_page stripe none page = bound_nowhere page stripe (λ row. ap (is_of_page page) (none row))

pub nothing_seen : (i : ℕ) (pages : ℕ → PageRow) (stripe : ℕ → Option Binding) (bytes : ℕ → List ℕ) → HasNone i pages stripe → (page : ℕ) → seen_in i pages stripe bytes page ≡ None
nothing_seen i pages stripe bytes none page = nothing_of (is_owned_by i (pages page)) (is_bound page stripe) (bytes page) (none.owns page) (unbound_page stripe none.binds page)

-- what is given to a live environment
pub absorbs_lost : (s : Solo) (page : ℕ) → s.life ≡ Live → absorb_all s (Lost page ∷ []) ≡ lost page s
absorbs_lost s page lives = ap (λ life. if is_dead life then s else lost page s) lives

-- Who allocates.
pub allocator_sees : AllocatorSees
allocator_sees e page words zeros pages stripe bytes s seen free = record {
  binds = seen.binds;
  seen = by_number (gained page zeros (owning page s)).seen (seen_in e (with_row pages page (Owned e words)) stripe (set_at page zeros bytes)) page here others;
}
  where
    here : (gained page zeros (owning page s)).seen page ≡ seen_in e (with_row pages page (Owned e words)) stripe (set_at page zeros bytes) page
    here = rw (eq-eqb page page refl) (rw (eq-eqb e e refl) refl)

    others : (p : ℕ) → p ≢ page → (gained page zeros (owning page s)).seen p ≡ seen_in e (with_row pages page (Owned e words)) stripe (set_at page zeros bytes) p
    others p ne = rw (ne_eqb p page ne) (seen.seen p)

pub others_dont : OthersDont
others_dont i page row new pages stripe bytes s seen before after unbound = record {
  binds = seen.binds;
  seen = by_number s.seen (seen_in i (with_row pages page row) stripe (set_at page new bytes)) page here others;
}
  where
    here : s.seen page ≡ seen_in i (with_row pages page row) stripe (set_at page new bytes) page
    here =
        seen.seen page ∙ nothing_of (is_owned_by i (pages page)) (is_bound page stripe) (bytes page) before unbound
        ∙ sym (nothing_of (is_owned_by i (with_row pages page row page)) (is_bound page stripe) (set_at page new bytes page) (ap (is_owned_by i) (set_here page row pages) ∙ after) unbound)

    others : (p : ℕ) → p ≢ page → s.seen p ≡ seen_in i (with_row pages page row) stripe (set_at page new bytes) p
    others p ne = rw (ne_eqb p page ne) (seen.seen p)

-- Where all of an environment's bindings of a page are broken, and it doesn't own the page any more.
module _ (e page : ℕ) (row : PageRow) (broken : Binding → Bool) (pages : ℕ → PageRow) (stripe : ℕ → Option Binding) (bytes : ℕ → List ℕ) (s : Solo) (of_page : (b : Binding) → broken b ≡ (b.page == page)) (after : is_owned_by e row ≡ false) (seen : Sees e pages stripe bytes s) where
  abbrev rest : ℕ → Option Binding
  rest r = without broken (stripe r)

  rest_unbound : is_bound page rest ≡ false
  rest_unbound = bound_no_more page broken stripe (λ b same. of_page b ∙ eq-eqb b.page page same)

  rest_none : None ≡ seen_in e (with_row pages page row) rest bytes page
  rest_none = sym (nothing_of (is_owned_by e (with_row pages page row page)) (is_bound page rest) (bytes page) (ap (is_owned_by e) (set_here page row pages) ∙ after) rest_unbound)

  rest_seen : (p : ℕ) → p ≢ page → s.seen p ≡ seen_in e (with_row pages page row) rest bytes p
  rest_seen p ne =
      let still = bound_still p broken stripe (λ b same. of_page b ∙ ne_eqb b.page page (λ there. ne (sym same ∙ there))) in
      seen.seen p
      ∙ (λ k. seen_if (is_owned_by e (sym (set_else page p row pages ne) k)) (sym still k) (bytes p))

  loses : Sees e (with_row pages page row) rest bytes (lost page s)
  loses = record {
    binds = λ r. λ k. without (λ b. sym (of_page b) k) (seen.binds r k);
    seen = by_number (lost page s).seen (seen_in e (with_row pages page row) rest bytes) page
        (set_here page None s.seen ∙ rest_none)
        (λ p ne. set_else page p None s.seen ne ∙ rest_seen p ne);
  }

  -- nothing changes for one that neither owned the page nor had it bound
  had_nothing : IsStripe stripe → is_owned_by e (pages page) ≡ false → is_bound page stripe ≡ false → Sees e (with_row pages page row) rest bytes s
  had_nothing ends before unbound = record {
    binds = λ r. seen.binds r ∙ sym (nothing_goes page broken stripe ends unbound (λ b goes. eqb-true b.page page (sym (of_page b) ∙ goes)) r);
    seen = by_number s.seen (seen_in e (with_row pages page row) rest bytes) page
        (seen.seen page ∙ nothing_of (is_owned_by e (pages page)) (is_bound page stripe) (bytes page) before unbound ∙ rest_none)
        rest_seen;
  }

pub freer_loses : FreerLoses
freer_loses e page row pages stripe bytes s seen after = loses e page row (leads_to_page page None e) pages stripe bytes s (λ b. and-true (b.page == page)) after seen

-- the bindings of one that isn't spared
not_spared : (but : Option ℕ) (i : ℕ) → but ≢ Some i → is_but but i ≡ false
not_spared None i other = refl
not_spared (Some but) i other = ne_eqb but i (λ same. other (ap Some same))

pub others_lose : OthersLose
others_lose i page but row pages stripe bytes s seen lives other before after ends = by_bound (is_bound page stripe) refl
  where
    of_page : (b : Binding) → leads_to_page page but i b ≡ (b.page == page)
    of_page b = ap (λ spared. b.page == page && not spared) (not_spared but i other) ∙ and-true (b.page == page)

    by_bound : (t : Bool) → is_bound page stripe ≡ t → Sees i (with_row pages page row) (broken_stripe page but i stripe) bytes (absorb_all s (lost_if t page))
    by_bound true is = subst (λ (x : Solo). Sees i (with_row pages page row) (broken_stripe page but i stripe) bytes x) (sym (absorbs_lost s page lives)) (loses i page row (leads_to_page page but i) pages stripe bytes s of_page after seen)
    by_bound false is = had_nothing i page row (leads_to_page page but i) pages stripe bytes s of_page after seen ends before is

-- Who gives its page other words.
pub recapper_keeps : RecapperKeeps
recapper_keeps e page words pages stripe bytes s seen owns = sees_alike e (with_row pages page (Owned e words)) stripe (broken_stripe page (Some e) e stripe) bytes s (λ r. sym (spared (stripe r))) (record {
  binds = seen.binds;
  seen = λ p. seen.seen p ∙ ap (λ owned. seen_if owned (is_bound p stripe) (bytes p)) (same p);
})
  where
    spares : (b : Binding) → leads_to_page page (Some e) e b ≡ false
    spares b = rw (eq-eqb e e refl) (and-false (b.page == page))

    spared : (o : Option Binding) → without (leads_to_page page (Some e) e) o ≡ o
    spared o = kept_row (leads_to_page page (Some e) e) o (λ b is. spares b)

    same : (p : ℕ) → is_owned_by e (pages p) ≡ is_owned_by e (with_row pages page (Owned e words) p)
    same = by_number (λ p. is_owned_by e (pages p)) (λ p. is_owned_by e (with_row pages page (Owned e words) p)) page
        (owns ∙ sym (ap (is_owned_by e) (set_here page (Owned e words) pages) ∙ eq-eqb e e refl))
        (λ p ne. ap (is_owned_by e) (sym (set_else page p (Owned e words) pages ne)))

-- what is seen goes with the last binding, and nothing is seen that wasn't
still_if : (owned before after : Bool) (bytes : List ℕ) → (after ≡ true → before ≡ true) → still_seen after (seen_if owned before bytes) ≡ seen_if owned after bytes
still_if true before after bytes only = refl
still_if false true after bytes only = refl
still_if false false true bytes only = absurd (both_ways false refl (only refl))
still_if false false false bytes only = refl

owned_still : (owned before : Bool) (bytes : List ℕ) → is_owned (still_seen true (seen_if owned before bytes)) ≡ owned
owned_still true before bytes = refl
owned_still false true bytes = refl
owned_still false false bytes = refl

any_if_bound : (owned : Bool) (bytes : List ℕ) → Some (record { owned = owned; bytes = bytes }) ≡ seen_if owned true bytes
any_if_bound true bytes = refl
any_if_bound false bytes = refl

-- what is seen with one row of the stripe changed, of a page that isn't the new binding's
after_row : (e p row : ℕ) (x : Option Binding) (pages : ℕ → PageRow) (stripe : ℕ → Option Binding) (bytes : ℕ → List ℕ) (s : Solo) → Sees e pages stripe bytes s → is_of_page p x ≡ false → (with_binds (set_at row x s.binds) s).seen p ≡ seen_in e pages (set_at row x stripe) bytes p
after_row e p row x pages stripe bytes s seen other =
    (λ k. still_seen (is_bound p (set_at row x (λ r. seen.binds r k))) (seen.seen p k))
    ∙ still_if (is_owned_by e (pages p)) (is_bound p stripe) (is_bound p (set_at row x stripe)) (bytes p) (bound_before p row x stripe other)

-- Who binds.
module _ (e : ℕ) (b : Binding) (pages : ℕ → PageRow) (stripe : ℕ → Option Binding) (bytes : ℕ → List ℕ) (s : Solo) (seen : Sees e pages stripe bytes s) where
  abbrev rebound : ℕ → Option Binding
  rebound = set_at (row_of s.version b.vpn) (Some b) stripe

  abbrev gain : Option Seen
  gain = Some (record { owned = is_owned ((bound b s).seen b.page); bytes = bytes b.page })

  owns : is_owned ((bound b s).seen b.page) ≡ is_owned_by e (pages b.page)
  owns =
      (λ k. is_owned (still_seen (binds_here s.version b s.binds k) (seen.seen b.page k)))
      ∙ owned_still (is_owned_by e (pages b.page)) (is_bound b.page stripe) (bytes b.page)

  here : gain ≡ seen_in e pages rebound bytes b.page
  here =
      ap (λ (owned : Bool). Some (record { owned = owned; bytes = bytes b.page })) owns
      ∙ any_if_bound (is_owned_by e (pages b.page)) (bytes b.page)
      ∙ ap (λ is. seen_if (is_owned_by e (pages b.page)) is (bytes b.page)) (sym (binds_here s.version b stripe))

  binds : Sees e pages rebound bytes (gained b.page (bytes b.page) (bound b s))
  binds = record {
    binds = λ r. λ k. set_at (row_of s.version b.vpn) (Some b) (λ q. seen.binds q k) r;
    seen = by_number (gained b.page (bytes b.page) (bound b s)).seen (seen_in e pages rebound bytes) b.page
        (set_here b.page gain (bound b s).seen ∙ here)
        (λ p ne. set_else b.page p gain (bound b s).seen ne ∙ after_row e p (row_of s.version b.vpn) (Some b) pages stripe bytes s seen (ne_eqb b.page p (λ same. ne (sym same))));
  }

pub binder_sees : BinderSees
binder_sees = binds

pub unbinder_loses : UnbinderLoses
unbinder_loses e vpn pages stripe bytes s seen =
    subst (λ (binds : ℕ → Option Binding). Sees e pages (without_number s.version vpn binds) bytes (after_unbind vpn s)) (λ k r. seen.binds r k)
    (by_test (is_some (binding_at s.version s.binds vpn)))
  where
    own : Sees e pages s.binds bytes s
    own = sees_alike e pages stripe s.binds bytes s (λ r. sym (seen.binds r)) seen

    by_test : (t : Bool) → Sees e pages (if t then set_at (row_of s.version vpn) None s.binds else s.binds) bytes (if t then with_binds (set_at (row_of s.version vpn) None s.binds) s else s)
    by_test true = record { binds = λ r. refl; seen = λ p. after_row e p (row_of s.version vpn) None pages s.binds bytes s own refl }
    by_test false = own

-- Who stores into a page.
stored_if : (owned bound : Bool) (x : Store) (bytes : List ℕ) → option_map (stored_sight x) (seen_if owned bound bytes) ≡ seen_if owned bound (with_bytes bytes x.offset x.bytes)
stored_if true bound x bytes = refl
stored_if false true x bytes = refl
stored_if false false x bytes = refl

-- the bytes once a store is in a page
abbrev bytes_with_store : ℕ → Store → (ℕ → List ℕ) → ℕ → List ℕ
bytes_with_store page x bytes = set_at page (with_bytes (bytes page) x.offset x.bytes) bytes

pub writer_sees : WriterSees
writer_sees e page x pages stripe bytes s seen named = record {
  binds = seen.binds;
  seen = λ p. (λ k. if is_physical p (named k) then option_map (stored_sight x) (seen.seen p k) else seen.seen p k) ∙ after p;
}
  where
    after : (p : ℕ) → (if page == p then option_map (stored_sight x) (seen_in e pages stripe bytes p) else seen_in e pages stripe bytes p) ≡ seen_in e pages stripe (bytes_with_store page x bytes) p
    after = by_number (λ p. if page == p then option_map (stored_sight x) (seen_in e pages stripe bytes p) else seen_in e pages stripe bytes p) (seen_in e pages stripe (bytes_with_store page x bytes)) page
        (rw (eq-eqb page page refl) (stored_if (is_owned_by e (pages page)) (is_bound page stripe) x (bytes page)))
        (λ p ne. rw (ne_eqb page p (λ same. ne (sym same)), ne_eqb p page ne) refl)

-- the store as it is left to another
abbrev left_store : ℕ → Store → Store
left_store page x = record { key = Physical page; offset = x.offset; bytes = x.bytes }

pub readers_see : ReadersSee
readers_see i page x b bytes s seen lives = by_sees (sees b i page) refl
  where
    by_sees : (t : Bool) → sees b i page ≡ t → Sees i b.pages (b.binds i) (bytes_with_store page x bytes) (absorb_all s (left_if t page x))
    by_sees true is =
        subst (λ (y : Solo). Sees i b.pages (b.binds i) (bytes_with_store page x bytes) y) (sym (ap (λ life. if is_dead life then s else with_store (left_store page x) s) lives))
        (writer_sees i page (left_store page x) b.pages (b.binds i) bytes s seen refl)
    by_sees false is = record {
      binds = seen.binds;
      seen = by_number s.seen (seen_in i b.pages (b.binds i) (bytes_with_store page x bytes)) page
          (seen.seen page ∙ unseen (bytes page) ∙ sym (unseen (bytes_with_store page x bytes page)))
          (λ p ne. rw (ne_eqb p page ne) (seen.seen p));
    }
      where
        unseen : (now : List ℕ) → seen_if (is_owned_by i (b.pages page)) (is_bound page (b.binds i)) now ≡ None
        unseen now = let parts = or_parts (is_owned_by i (b.pages page)) (is_bound page (b.binds i)) is in nothing_of (is_owned_by i (b.pages page)) (is_bound page (b.binds i)) now parts.0 parts.1
