-- What a deed presupposes of the world.
use Rattle.std.specs.Prelude.{◌≡◌, ◌≢◌, ◌<◌, ℕ, Bool, true, false, List, Some, None, Ok, ◌⊎◌}
use Rattle.aegis_limits.specs.declared.version.Version.TheVariants.{Two}
use Rattle.aegis_limits.specs.Limits.{vpn_end}
use Rattle.external_event.specs.Limits.{lines}
use Rattle.page_book.specs.declared.row.Capabilities.{Capabilities}
use Rattle.page_book.specs.declared.row.PageRow.{PageRow}
use Rattle.page_book.specs.declared.row.PageRow.TheVariants.{Free, Owned}
use Rattle.page_book.specs.Row.{gives_right, is_owned_by}
use Rattle.page_book.specs.Rows.{lowest_free}
use Rattle.bind_book.specs.declared.binding.Binding.{Binding}
use Rattle.env_frames.specs.declared.transfer.TransferKind.{TransferKind}
use Rattle.env_frames.specs.Transfer.{hands_slot}
use Rattle.filter_core.specs.declared.atom.Atom.{Atom}
use Rattle.filter_tree.specs.Claims.{claim_refusal}
use Rattle.revocation_book.specs.Backups.{load_refusal}
use Rattle.revocation_book.specs.Richest.{richest}
use Rattle.world_model.specs.declared.hold.Hold.{Hold}
use Rattle.world_model.specs.Book.{Book}
use Rattle.world_model.specs.Solo.{Solo, sight}
use Rattle.world_model.specs.OwnCalls.{MayOwn}
use Rattle.world_model.specs.PageCalls.{is_guaranteed_vpn, revocations}
use Rattle.world_model.specs.LineCalls.{is_line_of, is_line_of_other}
use Rattle.world_model.specs.ClaimCalls.{filter_at}
use Rattle.world_model.specs.Downloads.{MayDownload}
use Rattle.world_model.specs.SlotCalls.{accepts, gift_refusal, is_other, turn_slot}
use Rattle.world_model.specs.Transfers.{is_open}
use Rattle.world_model.specs.World.{World}
use Rattle.world_model.specs.declared.call.Deed.{Deed}
use Rattle.world_model.specs.declared.call.Deed.TheVariants.{Answers, Own, Stops, Gives, Allocates, Frees, Recaps, Binds, Unbinds, Transfers, TakesSlot, DropsSlot, TakesLine, DropsLine, Claims, Unclaims, Downloads, Loads}

-- the target is another environment, which lives and accepts the caller, and the slice may be handed on, or for a
-- later the slot too
pub record MayReach (w : World) (e target : ℕ) (later : Bool) : Type 0 where
  pub other : is_other w e target ≡ true
  pub gift : gift_refusal later w.book.runner (turn_slot w.book) ≡ None
  pub accepted : accepts (w.solos target).mask e ≡ true

-- it has an entry, too
pub record MayEnter (w : World) (e target : ℕ) (kind : TransferKind) : Type 0 where
  pub reach : MayReach w e target (hands_slot kind)
  pub entry : is_open (w.solos target) kind ≡ true

-- there is such a page, and it is free
pub record MayAllocate (b : Book) (page : ℕ) : Type 0 where
  pub there : page < b.page_count
  pub free : b.pages page ≡ Free

-- no page is free, and the one that is asked is another, which has the most revocable pages
pub record MayAsk (w : World) (e who : ℕ) : Type 0 where
  pub larger : w.book.version ≡ Two
  pub none : lowest_free w.book.pages w.book.page_count ≡ None
  pub richest : richest (revocations w.book) e ≡ Some who
  pub another : who ≢ e

-- there is such a page, and it is the caller's
pub record MayChange (b : Book) (e page : ℕ) : Type 0 where
  pub there : page < b.page_count
  pub owned : is_owned_by e (b.pages page) ≡ true

-- the VPN is a user's, and not guaranteed
pub record MayMap (s : Solo) (vpn : ℕ) : Type 0 where
  pub within : vpn < vpn_end
  pub other : is_guaranteed_vpn s vpn ≡ false

-- the page is the caller's, or the word gives the right
pub record HasRight (e : ℕ) (writable : Bool) (word : ℕ) (row : PageRow) : Type 0 where
  pub owner : ℕ
  pub words : Capabilities
  pub owned : row ≡ Owned owner words
  pub right : (owner ≡ e) ⊎ (gives_right words writable word ≡ true)

pub record MayBind (w : World) (e : ℕ) (b : Binding) (word : ℕ) : Type 0 where
  pub at : MayMap (w.solos e) b.vpn
  pub there : b.page < w.book.page_count
  pub right : HasRight e b.writable word (w.book.pages b.page)

-- there is such a slot, and it is empty
pub record MayTake (b : Book) (slot : ℕ) : Type 0 where
  pub there : slot < b.slot_count
  pub empty : b.slots slot ≡ None

-- there is such a slot, and the caller holds it
pub record MayDrop (b : Book) (e slot : ℕ) : Type 0 where
  pub there : slot < b.slot_count
  pub hold : Hold
  pub stands : b.slots slot ≡ Some hold
  pub holder : hold.holder ≡ e

-- there is such a line, and it isn't another's
pub record MayTakeLine (b : Book) (e line : ℕ) : Type 0 where
  pub there : line < lines
  pub free : is_line_of_other e (b.lines line) ≡ false

-- there is such a line, and it is the caller's
pub record MayDropLine (b : Book) (e line : ℕ) : Type 0 where
  pub there : line < lines
  pub owned : is_line_of e (b.lines line) ≡ true

-- the number is the next one, a filter is named, the page is the caller's, and the claims that stand don't refuse the
-- filter
pub record MayClaim (w : World) (e claim address atoms page : ℕ) : Type 0 where
  pub number : claim ≡ w.book.next_claim
  pub filter : List Atom
  pub named : filter_at (sight (w.solos e)) address atoms ≡ Ok filter
  pub ring : MayChange w.book e page
  pub beside : claim_refusal w.book.claims e filter ≡ None

-- the page is the caller's and not a backup yet, and there is room for one more
pub record MayLoad (b : Book) (e page : ℕ) : Type 0 where
  pub own : MayChange b e page
  pub room : load_refusal (b.backups e) page ≡ None

abbrev pub May : World → ℕ → Deed → Type 0
May w e Answers = Unit {0}
May w e (Own own) = MayOwn (w.solos e) own
May w e Stops = Unit {0}
May w e (Gives target) = MayReach w e target false
May w e (Allocates page words) = MayAllocate w.book page
May w e (Frees page) = MayChange w.book e page
May w e (Recaps page words) = MayChange w.book e page
May w e (Binds binding word) = MayBind w e binding word
May w e (Unbinds vpn) = MayMap (w.solos e) vpn
May w e (Transfers target kind) = MayEnter w e target kind
May w e (TakesSlot slot) = MayTake w.book slot
May w e (DropsSlot slot) = MayDrop w.book e slot
May w e (TakesLine line) = MayTakeLine w.book e line
May w e (DropsLine line) = MayDropLine w.book e line
May w e (Claims claim address atoms page) = MayClaim w e claim address atoms page
May w e (Unclaims claim) = Unit {0}
May w e (Downloads claim address words) = MayDownload (w.solos e) claim address words
May w e (Loads page) = MayLoad w.book e page
