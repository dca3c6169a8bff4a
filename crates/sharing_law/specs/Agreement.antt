-- The book and the environments agree.
use Rattle.std.specs.Prelude.{◌≡◌, ◌≢◌, ◌<◌, ◌≤◌, ℕ, length, true, Some, filter, find, map, slice_get}
use Rattle.revocation_book.specs.Backups.{is_loaded, most_backups}
use Rattle.world_model.specs.Book.{Book}
use Rattle.page_book.specs.Row.{is_owned_by}
use Rattle.filter_core.specs.Filters.{is_filter}
use Rattle.filter_core.specs.Matching.{Overlap}
use Rattle.filter_tree.specs.ClaimBook.{ClaimValue, is_of_env}
use Rattle.filter_tree.specs.Claims.{is_numbered}
use Rattle.world_model.specs.Solo.{Ring}
use Rattle.page_book.specs.declared.row.PageRow.{PageRow}
use Rattle.page_book.specs.declared.row.PageRow.TheVariants.{Free, Guaranteed, Owned}
use Rattle.bind_book.specs.declared.binding.Binding.{Binding}
use Rattle.world_model.specs.World.{World}
use Rattle.world_model.specs.PageCalls.{page_bytes}
use Rattle.run_model.specs.Run.{System, moment, world_after}
use Rattle.page_laws.specs.Sight.{Sees}

-- each environment has just the bindings that the book lists for it, and sees just the pages that by the book it owns
-- or has bound, with the bytes that their owner sees
abbrev pub AreAgreed : World → Type 0
AreAgreed w = (e : ℕ) → Sees e w.book.pages (w.book.binds e) (page_bytes w) (w.solos e)

abbrev pub IsAllocated : PageRow → Type 0
IsAllocated Free = ⊥
IsAllocated (Guaranteed owner) = ⊥
IsAllocated (Owned owner words) = Unit {0}

-- no page is bound that is free or guaranteed
abbrev pub AreBoundAllocated : World → Type 0
AreBoundAllocated w = (e row : ℕ) (b : Binding) → w.book.binds e row ≡ Some b → IsAllocated (w.book.pages b.page)

-- so it is after every number of ticks of every system
abbrev pub BooksAgree : Type 0
BooksAgree = (system : System) (t : ℕ) → AreAgreed (world_after system t)

abbrev pub BoundIsAllocated : Type 0
BoundIsAllocated = (system : System) (t : ℕ) → AreBoundAllocated (world_after system t)

-- At each moment the rows of pages from the page count on are free: no page is anyone's that isn't there.
abbrev pub PagesEnd : Type 0
PagesEnd = (system : System) (t k page : ℕ)
    → (let b = (moment system t k).book in b.page_count ≤ page → b.pages page ≡ Free)

-- a claim's number and the page into which its packets go
pub record ClaimPage : Type 0 where
  pub claim : ℕ
  pub page : ℕ

abbrev pub ring_page : Ring → ClaimPage
ring_page r = record { claim = r.claim; page = r.page }

abbrev pub claim_page : ClaimValue → ClaimPage
claim_page c = record { claim = c.id; page = c.page }

-- each environment has just the claims that the book lists for it
abbrev pub AreClaimed : World → Type 0
AreClaimed w = (e : ℕ) → map ring_page (w.solos e).rings ≡ map claim_page (filter (is_of_env e) w.book.claims)

-- each claim has a filter, goes into a page of its environment's own, and is the one of its number
pub record IsClaimSound (w : World) (c : ClaimValue) : Type 0 where
  pub filter : is_filter c.filter ≡ true
  pub owned : is_owned_by c.env (w.book.pages c.page) ≡ true
  pub below : c.id < w.book.next_claim
  pub only : find (is_numbered c.id) w.book.claims ≡ Some c

abbrev pub AreClaimsSound : World → Type 0
AreClaimsSound w = (k : ℕ) (c : ClaimValue) → slice_get w.book.claims k ≡ Some c → IsClaimSound w c

-- so it is after every number of ticks of every system
abbrev pub ClaimsAgree : Type 0
ClaimsAgree = (system : System) (t : ℕ) → AreClaimed (world_after system t)

abbrev pub ClaimsAreSound : Type 0
ClaimsAreSound = (system : System) (t : ℕ) → AreClaimsSound (world_after system t)

-- each backup is a page of its environment's own, and none is loaded twice
pub record AreBackupsOwned (b : Book) : Type 0 where
  pub owned : (e page : ℕ) → is_loaded (b.backups e) page ≡ true → is_owned_by e (b.pages page) ≡ true
  pub apart : (e j k page : ℕ) → slice_get (b.backups e) j ≡ Some page → slice_get (b.backups e) k ≡ Some page → j ≡ k
  pub few : (e : ℕ) → length (b.backups e) ≤ most_backups

-- so it is after every number of ticks of every system
abbrev pub BackupsAreOwned : Type 0
BackupsAreOwned = (system : System) (t : ℕ) → AreBackupsOwned (world_after system t).book

-- No packet is matched by claims of two environments.
abbrev pub AreClaimsApart : World → Type 0
AreClaimsApart w = (j k : ℕ) (c d : ClaimValue) → slice_get w.book.claims j ≡ Some c
    → slice_get w.book.claims k ≡ Some d
    → c.env ≢ d.env → ¬ Overlap c.filter d.filter

abbrev pub ClaimsAreApart : Type 0
ClaimsAreApart = (system : System) (t : ℕ) → AreClaimsApart (world_after system t)
