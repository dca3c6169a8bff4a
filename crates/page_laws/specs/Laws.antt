-- How each change of the books changes what environments see.
use Rattle.std.specs.Prelude.{◌≡◌, ◌≢◌, ◌≤◌, ℕ, true, false, List, Option, Some, None}
use Rattle.frame_store.specs.Pages.{with_bytes}
use Rattle.page_book.specs.declared.row.Capabilities.{Capabilities}
use Rattle.page_book.specs.declared.row.PageRow.{PageRow}
use Rattle.page_book.specs.declared.row.PageRow.TheVariants.{Free, Owned}
use Rattle.page_book.specs.Row.{is_owned_by, released}
use Rattle.bind_book.specs.declared.binding.Binding.{Binding}
use Rattle.bind_book.specs.Stripe.{leads_to_page, goes_with, is_bound, row_of, without}
use Rattle.world_model.specs.declared.life.Life.TheVariants.{Live}
use Rattle.world_model.specs.Table.{set_at}
use Rattle.world_model.specs.Solo.{Solo, Store, Physical, with_store}
use Rattle.world_model.specs.Holding.{owning, gained, lost, bound, after_unbind}
use Rattle.world_model.specs.Item.{absorb_all}
use Rattle.world_model.specs.Book.{Book, sees}
use Rattle.world_model.specs.Death.{lost_with}
use Rattle.world_model.specs.PageCalls.{lost_if, left_if, without_number}
use Rattle.page_laws.specs.Sight.{IsStripe, Sees}

-- the pages, once one of them has another row
abbrev pub with_row : (ℕ → PageRow) → ℕ → PageRow → ℕ → PageRow
with_row pages page row = set_at page row pages

-- a stripe without the bindings of a page, which spares those of one environment
abbrev pub broken_stripe : ℕ → Option ℕ → ℕ → (ℕ → Option Binding) → ℕ → Option Binding
broken_stripe page but e stripe row = without (leads_to_page page but e) (stripe row)

-- Who allocates a free page sees it, with the bytes that it gained.
abbrev pub AllocatorSees : Type 0
AllocatorSees = (e page : ℕ) (words : Capabilities) (zeros : List ℕ) (pages : ℕ → PageRow)
    (stripe : ℕ → Option Binding) (bytes : ℕ → List ℕ) (s : Solo) →
    Sees e pages stripe bytes s → pages page ≡ Free →
    Sees e (with_row pages page (Owned e words)) stripe (set_at page zeros bytes) (gained page zeros (owning page s))

-- Nobody else sees it, whatever becomes of its bytes.
abbrev pub OthersDont : Type 0
OthersDont = (i page : ℕ) (row : PageRow) (new : List ℕ) (pages : ℕ → PageRow) (stripe : ℕ → Option Binding)
    (bytes : ℕ → List ℕ) (s : Solo) →
    Sees i pages stripe bytes s → is_owned_by i (pages page) ≡ false → is_owned_by i row ≡ false
    → is_bound page stripe ≡ false →
    Sees i (with_row pages page row) stripe (set_at page new bytes) s

-- Who frees a page doesn't see it any more.
abbrev pub FreerLoses : Type 0
FreerLoses =
    (e page : ℕ) (row : PageRow) (pages : ℕ → PageRow) (stripe : ℕ → Option Binding) (bytes : ℕ → List ℕ) (s : Solo) →
    Sees e pages stripe bytes s → is_owned_by e row ≡ false →
    Sees e (with_row pages page row) (broken_stripe page None e stripe) bytes (lost page s)

-- Who gives its page other words sees it as before, and keeps its own bindings.
abbrev pub RecapperKeeps : Type 0
RecapperKeeps = (e page : ℕ) (words : Capabilities) (pages : ℕ → PageRow) (stripe : ℕ → Option Binding)
    (bytes : ℕ → List ℕ) (s : Solo) →
    Sees e pages stripe bytes s → is_owned_by e (pages page) ≡ true →
    Sees e (with_row pages page (Owned e words)) (broken_stripe page (Some e) e stripe) bytes s

-- Whoever else had it bound loses it, and nobody else anything.
abbrev pub OthersLose : Type 0
OthersLose = (i page : ℕ) (but : Option ℕ) (row : PageRow) (pages : ℕ → PageRow) (stripe : ℕ → Option Binding)
    (bytes : ℕ → List ℕ) (s : Solo) →
    Sees i pages stripe bytes s → s.life ≡ Live → but ≢ Some i → is_owned_by i (pages page) ≡ false
    → is_owned_by i row ≡ false → IsStripe stripe →
    Sees i (with_row pages page row) (broken_stripe page but i stripe) bytes
    (absorb_all s (lost_if (is_bound page stripe) page))

-- Who binds a page sees it, with the bytes that it gained, and what it sees of others goes with the binding that was
-- replaced.
abbrev pub BinderSees : Type 0
BinderSees = (e : ℕ) (b : Binding) (pages : ℕ → PageRow) (stripe : ℕ → Option Binding) (bytes : ℕ → List ℕ) (s : Solo) →
    Sees e pages stripe bytes s →
    Sees e pages (set_at (row_of s.version b.vpn) (Some b) stripe) bytes (gained b.page (bytes b.page) (bound b s))

-- Who unbinds a VPN sees no page any more that it neither owns nor has bound.
abbrev pub UnbinderLoses : Type 0
UnbinderLoses = (e vpn : ℕ) (pages : ℕ → PageRow) (stripe : ℕ → Option Binding) (bytes : ℕ → List ℕ) (s : Solo) →
    Sees e pages stripe bytes s →
    Sees e pages (without_number s.version vpn stripe) bytes (after_unbind vpn s)

-- What the others had bound of the pages of one that dies they lose.
abbrev pub MournersLose : Type 0
MournersLose = (gone i : ℕ) (b : Book) (bytes : ℕ → List ℕ) (s : Solo) →
    Sees i b.pages (b.binds i) bytes s → s.life ≡ Live → i ≢ gone
    → ((page : ℕ) → b.page_count ≤ page → b.pages page ≡ Free) → IsStripe (b.binds i) →
    Sees i (λ page. released gone (b.pages page)) (λ row. without (goes_with b.pages gone i) (b.binds i row)) bytes
    (absorb_all s (lost_with b gone i b.page_count))

-- Who stores into a page sees the bytes that it stored.
abbrev pub WriterSees : Type 0
WriterSees =
    (e page : ℕ) (x : Store) (pages : ℕ → PageRow) (stripe : ℕ → Option Binding) (bytes : ℕ → List ℕ) (s : Solo) →
    Sees e pages stripe bytes s → x.key ≡ Physical page →
    Sees e pages stripe (set_at page (with_bytes (bytes page) x.offset x.bytes) bytes) (with_store x s)

-- So does everybody else who owns the page or has bound it, to whom they are left.
abbrev pub ReadersSee : Type 0
ReadersSee = (i page : ℕ) (x : Store) (b : Book) (bytes : ℕ → List ℕ) (s : Solo) →
    Sees i b.pages (b.binds i) bytes s → s.life ≡ Live →
    Sees i b.pages (b.binds i) (set_at page (with_bytes (bytes page) x.offset x.bytes) bytes)
    (absorb_all s (left_if (sees b i page) page x))
