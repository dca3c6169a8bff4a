-- What environments are given of a change of the books.
use Rattle.std.proofs.Common.{◌≡◌, ℕ, zero, suc, List, [], Bool, true, false, Option, Some, None, inl, inr, ◌⊎◌, refl, sym, ◌∙◌, ap, subst, rules}
use Rattle.std.specs.Prelude.{◌==◌, if◌then◌else◌, filter, not, slice_get}
use Rattle.std.proofs.lemmas.Bool.{eqb-true}
use Rattle.std.proofs.lemmas.List.Sums.{fold-append}
use Rattle.frame_store.specs.Pages.{page_at}
use Rattle.mips_exec.specs.declared.registers.Cpu.{Cpu}
use Rattle.page_book.specs.declared.row.PageRow.{PageRow}
use Rattle.page_book.specs.declared.row.PageRow.TheVariants.{Free, Guaranteed, Owned}
use Rattle.page_book.specs.Row.{belongs_to, is_owned_by, owner_of}
use Rattle.page_book.specs.Rows.{row_in}
use Rattle.bind_book.specs.declared.binding.Binding.{Binding}
use Rattle.bind_book.specs.Stripe.{is_bound}
use Rattle.page_laws.specs.Sight.{Sees}
use Rattle.page_laws.proofs.Sights.{HasNone, nothing_seen, unbound_page}
use Rattle.world_model.specs.declared.life.Life.{Life}
use Rattle.world_model.specs.declared.life.Life.TheVariants.{Live, Dead}
use Rattle.world_model.specs.Book.{Book}
use Rattle.world_model.specs.Item.{Item, absorb, absorb_all}
use Rattle.world_model.specs.Death.{lost_with}
use Rattle.world_model.specs.PageCalls.{lost_if}
use Rattle.world_model.specs.Solo.{Solo, Ring}
use Rattle.board_model.specs.declared.roster.Environment.{Environment}
use Rattle.board_model.specs.Rings.{rings_of}
use Rattle.board_model.specs.Shown.{Shown, mappings_in, mappings_of}
use Rattle.board_model.specs.Showing.{solo_of, solo_seen, cpu_seen, pages_seen}
use Rattle.board_model.specs.Sound.{BooksAgree, IsAlive, IsLiving}
use Rattle.board_model.proofs.Seen.{like_solo, stripe_of, live_shown}

-- Books with the same tables serve alike.
pub sees_by : (e : ℕ) (pages rows : ℕ → PageRow) (stripe binds : ℕ → Option Binding) (bytes frames : ℕ → List ℕ) (s : Solo) →
    ((p : ℕ) → rows p ≡ pages p) → ((r : ℕ) → binds r ≡ stripe r) → ((p : ℕ) → frames p ≡ bytes p) → Sees e pages stripe bytes s → Sees e rows binds frames s
sees_by e pages rows stripe binds bytes frames s same_rows same_binds same_bytes seen = search rules

-- with the bindings of another, and what that one sees
abbrev pub resighted : Solo → Solo → Solo
resighted s t = record s { binds = t.binds; seen = t.seen }

-- the claims that go into other pages
abbrev pub rings_but : ℕ → List Ring → List Ring
rings_but page rings = filter (λ (r : Ring). not (r.page == page)) rings

-- who loses a page that is no ring of its own keeps all else
pub lost_keeps : (s : Solo) (t : Bool) (page : ℕ) → rings_but page s.rings ≡ s.rings → absorb_all s (lost_if t page) ≡ resighted s (absorb_all s (lost_if t page))
lost_keeps s t page other = search rules

next_keeps : (s u v : Solo) → u ≡ resighted s u → v ≡ resighted u v → v ≡ resighted s v
next_keeps s u v first next = next ∙ ap (λ w. resighted w v) first

-- and so does who loses pages with one that dies
pub losses_keep : (b : Book) (gone i n : ℕ) (s : Solo) → ((page : ℕ) → belongs_to gone (b.pages page) ≡ true → rings_but page s.rings ≡ s.rings) → absorb_all s (lost_with b gone i n) ≡ resighted s (absorb_all s (lost_with b gone i n))
losses_keep b gone i zero s others = refl
losses_keep b gone i (suc n) s others =
    let so_far = absorb_all s (lost_with b gone i n) in
    let before = losses_keep b gone i n s others in
    let next : List Item = if belongs_to gone (b.pages n) then lost_if (is_bound n (b.binds i)) n else [] in
    subst (λ (u : Solo). u ≡ resighted s u) (sym (fold-append absorb s (lost_with b gone i n) next))
    (next_keeps s so_far (absorb_all so_far next) before (by_part so_far (belongs_to gone (b.pages n)) refl (ap (λ (u : Solo). u.rings) before)))
  where
    by_part : (u : Solo) (t : Bool) → belongs_to gone (b.pages n) ≡ t → u.rings ≡ s.rings → absorb_all u (if t then lost_if (is_bound n (b.binds i)) n else []) ≡ resighted u (absorb_all u (if t then lost_if (is_bound n (b.binds i)) n else []))
    by_part u true is same = lost_keeps u (is_bound n (b.binds i)) n (ap (rings_but n) same ∙ others n is ∙ sym same)
    by_part u false is same = refl

-- and nothing is lost
pub nothing_lost : (stripe : ℕ → Option Binding) → ((row : ℕ) → stripe row ≡ None) → (page : ℕ) → lost_if (is_bound page stripe) page ≡ []
nothing_lost stripe none page = ap (λ t. lost_if t page) (unbound_page stripe none page)

pub no_losses : (b : Book) (gone i n : ℕ) → ((row : ℕ) → b.binds i row ≡ None) → lost_with b gone i n ≡ []
no_losses b gone i zero none = refl
no_losses b gone i (suc n) none = search (rules, nothing_lost, (no_losses b gone i n none))

-- an environment lives, or isn't one of the board that does
pub lives_or_not : (list : List Environment) (i : ℕ) → ((x : Environment) × ((slice_get list i ≡ Some x) × (x.life ≡ Live))) ⊎ (IsLiving list i → ⊥)
lives_or_not list i = by_record (slice_get list i) refl
  where
    by_life : (x : Environment) (life : Life) → slice_get list i ≡ Some x → x.life ≡ life → ((y : Environment) × ((slice_get list i ≡ Some y) × (y.life ≡ Live))) ⊎ (IsLiving list i → ⊥)
    by_life x Live is lives = inl (x, (is, lives))
    by_life x (Dead cause) is died = inr (λ live. let both : Live ≡ Dead cause = sym (subst IsAlive is live.1) ∙ died in cc)

    by_record : (y : Option Environment) → slice_get list i ≡ y → ((x : Environment) × ((slice_get list i ≡ Some x) × (x.life ≡ Live))) ⊎ (IsLiving list i → ⊥)
    by_record None is = inr (λ live. subst IsAlive is live.1)
    by_record (Some x) is = by_life x x.life is refl

-- one that doesn't live has no bindings and owns no page
pub has_none : (b : Shown) (i : ℕ) → BooksAgree b.pages b.binds b.roster → (IsLiving b.roster.list i → ⊥) → HasNone i (row_in b.pages) (stripe_of b i)
has_none b i books dead = record { binds = λ row. by_binding row (stripe_of b i row) refl; owns = λ page. by_row page (row_in b.pages page) refl }
  where
    by_binding : (row : ℕ) (x : Option Binding) → stripe_of b i row ≡ x → x ≡ None
    by_binding row None is = refl
    by_binding row (Some x) is = absurd (dead (books.binders i row x is))

    by_test : (page owner : ℕ) (t : Bool) → (owner == i) ≡ t → owner_of (row_in b.pages page) ≡ Some owner → t ≡ false
    by_test page owner true same is = absurd (dead (books.owners page i (is ∙ ap Some (eqb-true owner i same))))
    by_test page owner false other is = refl

    by_row : (page : ℕ) (row : PageRow) → row_in b.pages page ≡ row → is_owned_by i row ≡ false
    by_row page Free is = refl
    by_row page (Guaranteed owner) is = refl
    by_row page (Owned owner words) is = by_test page owner (owner == i) refl (ap owner_of is)

-- What one is given of a change of the books, if it lives; one that doesn't sees nothing before and after.
pub record Drops (i : ℕ) (old new : Shown) (its : List Item) : Type 0 where
  pub version : new.binds.version ≡ old.binds.version
  pub record_is : slice_get new.roster.list i ≡ slice_get old.roster.list i
  pub rings : rings_of new.claims i ≡ rings_of old.claims i
  pub cpu : (kept : Cpu) → cpu_seen new i kept ≡ cpu_seen old i kept
  pub pages : pages_seen new.frames (mappings_of old.roster.list i) ≡ pages_seen old.frames (mappings_of old.roster.list i)
  pub sees : (s : Solo) → s.life ≡ Live → Sees i (row_in old.pages) (stripe_of old i) (page_at old.frames) s → Sees i (row_in new.pages) (stripe_of new i) (page_at new.frames) (absorb_all s its)
  pub keeps : (s : Solo) → s.rings ≡ rings_of old.claims i → absorb_all s its ≡ resighted s (absorb_all s its)
  pub none : HasNone i (row_in old.pages) (stripe_of old i) → HasNone i (row_in new.pages) (stripe_of new i)
  pub nothing : HasNone i (row_in old.pages) (stripe_of old i) → its ≡ []

module _ (i : ℕ) (old new : Shown) (its : List Item) (drops : Drops i old new its) where
  live_drops : (x : Environment) → slice_get old.roster.list i ≡ Some x → x.life ≡ Live → solo_of new i ≡ absorb_all (solo_of old i) its
  live_drops x at lives =
      let s : Solo = record (solo_seen old i x) { life = Live } in
      let sees = drops.sees s refl (record { binds = λ row. refl; seen = λ page. refl }) in
      let pages = subst (λ ms. pages_seen new.frames ms ≡ pages_seen old.frames ms) (ap mappings_in at) drops.pages in
      live_shown new i x (drops.record_is ∙ at) lives
      ∙ (λ k. record s {
        version = drops.version k;
        cpu = drops.cpu x.env.cpu k;
        kept = pages k;
        binds = λ row. sym (sees.binds row) k;
        seen = λ page. sym (sees.seen page) k;
        rings = drops.rings k;
      })
      ∙ sym (drops.keeps s refl)
      ∙ ap (λ (t : Solo). absorb_all t its) (sym (live_shown old i x at lives))

  dead_drops : HasNone i (row_in old.pages) (stripe_of old i) → solo_of new i ≡ absorb_all (solo_of old i) its
  dead_drops none =
      let still = drops.none none in
      like_solo i new old (record {
        version = drops.version;
        record_is = drops.record_is;
        rings = drops.rings;
        cpu = drops.cpu;
        pages = drops.pages;
        binds = λ k row. (still.binds row ∙ sym (none.binds row)) k;
        sights = λ k page. (nothing_seen i (row_in new.pages) (stripe_of new i) (page_at new.frames) still page ∙ sym (nothing_seen i (row_in old.pages) (stripe_of old i) (page_at old.frames) none page)) k;
      })
      ∙ ap (absorb_all (solo_of old i)) (sym (drops.nothing none))

  pub dropped : BooksAgree old.pages old.binds old.roster → solo_of new i ≡ absorb_all (solo_of old i) its
  dropped books = search (rules, lives_or_not, has_none, live_drops, dead_drops)
