-- Why the bytes of a page change.
use Rattle.std.specs.Prelude.{◌≡◌, ◌≢◌, ◌+◌, ◌^◌, ◌&&◌, ℕ, suc, nat_lt, if◌then◌else◌, Bool, true, false, List, ◌∷◌, Option, None, Some, ◌⊎◌, bit_or, is_none}
use Rattle.frame_store.specs.Pages.{with_bytes, word_at, word_bytes, zero_page}
use Rattle.page_book.specs.declared.row.Capabilities.{Capabilities}
use Rattle.page_book.specs.declared.row.PageRow.TheVariants.{Free}
use Rattle.page_book.specs.Row.{is_owned_by}
use Rattle.env_frames.specs.Context.{context_number, end_area, end_bytes, exception_area, exception_bytes, start_area, start_bytes}
use Rattle.env_frames.specs.Transfer.{entry_area, entry_bytes}
use Rattle.env_frames.specs.declared.post.PostWord.{PostWord}
use Rattle.env_frames.specs.declared.post.PostWord.TheVariants as post
use Rattle.mips_exec.specs.Word.{low_word}
use Rattle.packet_ring.specs.Ring.{is_full}
use Rattle.env_frames.specs.Post.{most_records, post_offset, record_bytes, record_offset}
use Rattle.world_model.specs.declared.call.Deed.TheVariants.{Allocates}
use Rattle.world_model.specs.declared.life.Cause.TheVariants as cause
use Rattle.world_model.specs.declared.life.Life.TheVariants.{Dead}
use Rattle.world_model.specs.Page.{KeptPage}
use Rattle.world_model.specs.Solo.{Solo, Store, Ring, Kept, Physical, bytes_in, bytes_of, kept_at}
use Rattle.world_model.specs.Step.{Act, Nothing, Stores, Calls, Raises, Dies, act_of, step_alone}
use Rattle.world_model.specs.PageCalls.{page_bytes}
use Rattle.world_model.specs.Item.{Item, Boot, Step, Start, End, Transfer, Killed, Answer, Gained, Lost, Left, Packet, Line, Asked, Taken, absorb}
use Rattle.world_model.specs.Post.{post_word}
use Rattle.world_model.specs.Rings.{ring_of}
use Rattle.run_model.specs.Acting.{Acts, Does}
use Rattle.run_model.specs.Live.{HasLiveBinding, row_after}
use Rattle.run_model.specs.Run.{System, given_at, moment, world_after}
use Rattle.sharing_law.specs.Delivery.{IsCopied, IsDelivered}

-- the bytes of a guaranteed page of an environment
abbrev pub kept_bytes : Solo → ℕ → List ℕ
kept_bytes s vpn = bytes_in (kept_at s.kept vpn)

-- the page is the context page, which is rewritten so
pub record IsRewritten (s t : Solo) (vpn : ℕ) (rewritten : List ℕ → List ℕ) : Type 0 where
  pub context : vpn ≡ context_number
  pub has : kept_bytes t vpn ≡ rewritten (kept_bytes s vpn)

-- words stand in an area of the context page, which is else as it was
abbrev pub HasWordsInArea : Solo → Solo → ℕ → ℕ → List ℕ → Type 0
HasWordsInArea s t vpn area words = IsRewritten s t vpn (λ page. with_bytes page area words)

-- the bytes of a store stand in the page, which the store names and which may be stored to
pub record HasStore (s t : Solo) (vpn : ℕ) (store : Store) : Type 0 where
  pub into : store.key ≡ Kept vpn
  pub page : KeptPage
  pub there : kept_at s.kept vpn ≡ Some page
  pub writable : page.writable ≡ true
  pub has : kept_bytes t vpn ≡ with_bytes (kept_bytes s vpn) store.offset store.bytes

-- a context page with a post word counted up, which wraps at 2 ^ 32
abbrev pub counted_page : PostWord → List ℕ → List ℕ
counted_page word page = with_bytes page (post_offset word)
    (word_bytes (low_word (word_at page (post_offset word) + 1)))

-- whether a packet for a claim is lost: it has no handler, and the buffer of its ring whose turn it is, is full
abbrev pub is_lost_in : Solo → Option Ring → Bool
is_lost_in s None = false
is_lost_in s (Some r) = is_none r.handler && is_full (bytes_of s (Physical r.page)) r.next

-- the context page with a packet counted, and counted again if it is lost
abbrev pub packet_counted : Bool → List ℕ → List ℕ
packet_counted false page = counted_page post.Packets page
packet_counted true page = counted_page post.Lost (counted_page post.Packets page)

-- A packet for a claim is counted in the context page, and counted as lost exactly if the claim has no handler and its
-- buffer is full.
abbrev pub HasCounts : Solo → Solo → ℕ → ℕ → Type 0
HasCounts s t vpn claim = IsRewritten s t vpn (packet_counted (is_lost_in s (ring_of s.rings claim)))

-- the context page, with what the environment is asked for
abbrev pub asked_page : ℕ → ℕ → List ℕ → List ℕ
asked_page outstanding deadline page = with_bytes
    (with_bytes page (post_offset post.Outstanding) (word_bytes outstanding)) (post_offset post.Deadline)
    (word_bytes deadline)

-- the context page, with the record of this number of a page that was taken, if there is room for it
abbrev pub recorded_page : ℕ → ℕ → Option ℕ → List ℕ → List ℕ
recorded_page n taken backup page = if nat_lt n most_records then with_bytes page (record_offset n)
    (record_bytes taken backup) else page

-- An environment is told what it is asked for.
abbrev pub HasAsked : Solo → Solo → ℕ → ℕ → ℕ → Type 0
HasAsked s t vpn outstanding deadline = IsRewritten s t vpn (asked_page outstanding deadline)

-- A page that was taken is recorded, and counted.
abbrev pub HasRecord : Solo → Solo → ℕ → ℕ → Option ℕ → Type 0
HasRecord s t vpn taken backup = IsRewritten s t vpn
    (λ page. counted_page post.Takings (recorded_page (post_word post.Takings s) taken backup page))

-- How an environment's own step changes a guaranteed page, by what the step comes to.
abbrev pub StepChanges : Solo → Solo → ℕ → Act → Type 0
StepChanges s t vpn Nothing = ⊥
StepChanges s t vpn (Stores store) = HasStore s t vpn store
StepChanges s t vpn (Calls call) = ⊥
StepChanges s t vpn (Raises exc) = HasWordsInArea s t vpn exception_area (exception_bytes exc s.cpu)
StepChanges s t vpn (Dies cause) = t.life ≡ Dead cause

-- How an item does that makes s to t: of what comes from outside it is the kernel's words on its slice, on who enters
-- it, on its packets and interrupt lines, and on what it is asked for and what is taken from it, and death, alone.
abbrev pub Changes : Solo → Solo → ℕ → Item → Type 0
Changes s t vpn (Boot version number name entry accept kept) = t.kept ≡ kept
Changes s t vpn Step = StepChanges s t vpn (act_of s (step_alone s))
Changes s t vpn Start = (s.handlers.start ≢ 0) × HasWordsInArea s t vpn start_area (start_bytes s.cpu)
Changes s t vpn End = HasWordsInArea s t vpn end_area (end_bytes s.cpu)
Changes s t vpn (Transfer from kind registers) = HasWordsInArea s t vpn entry_area (entry_bytes from kind s.cpu)
Changes s t vpn Killed = t.life ≡ Dead cause.Excess
Changes s t vpn (Answer verdict) = ⊥
Changes s t vpn (Gained page writable bytes) = ⊥
Changes s t vpn (Lost page) = ⊥
Changes s t vpn (Left page offset bytes) = ⊥
Changes s t vpn (Packet claim packet) = HasCounts s t vpn claim
Changes s t vpn (Asked outstanding deadline) = HasAsked s t vpn outstanding deadline
Changes s t vpn (Taken page backup) = HasRecord s t vpn page backup
Changes s t vpn (Line line) = HasWordsInArea s t vpn (post_offset post.Lines)
    (word_bytes (bit_or (post_word post.Lines s) (2 ^ line)))

-- An item leaves the bytes of a guaranteed page, but for such a change.
abbrev pub ItemChange : Type 0
ItemChange = (s : Solo) (item : Item) (vpn : ℕ)
    → (kept_bytes (absorb s item) vpn ≡ kept_bytes s vpn) ⊎ Changes s (absorb s item) vpn item

-- In a phase of a tick the first item that an environment is given changes a guaranteed page of it so, and nothing else
-- does.
pub record IsChanged (system : System) (t k e vpn : ℕ) : Type 0 where
  pub item : Item
  pub rest : List Item
  pub given : given_at system t k e ≡ item ∷ rest
  pub changes : let s = (moment system t k).solos e in Changes s (absorb s item) vpn item
  pub has : kept_bytes ((moment system t (suc k)).solos e) vpn ≡ kept_bytes
      (absorb ((moment system t k).solos e) item) vpn

-- The bytes of a guaranteed page stay in a phase of a tick, but for such a change.
abbrev pub GuaranteedChange : Type 0
GuaranteedChange = (system : System) (t k e vpn : ℕ) →
    (kept_bytes ((moment system t (suc k)).solos e) vpn ≡ kept_bytes ((moment system t k).solos e) vpn)
    ⊎ IsChanged system t k e vpn

-- So they stay in a tick, but for such changes in its phases.
abbrev pub GuaranteedInTick : Type 0
GuaranteedInTick = (system : System) (t e vpn : ℕ) →
    (kept_bytes ((world_after system (suc t)).solos e) vpn ≡ kept_bytes ((world_after system t).solos e) vpn)
    ⊎ ((k : ℕ) × IsChanged system t k e vpn)

-- whether a page is an environment's at a moment
abbrev pub IsOwnedAt : System → ℕ → ℕ → ℕ → ℕ → Type 0
IsOwnedAt system t k page owner = is_owned_by owner ((moment system t k).book.pages page) ≡ true

-- In a phase of a tick an environment stores to the page, through a live binding that is writable.
pub record IsStoredTo (system : System) (t k page : ℕ) : Type 0 where
  pub writer : ℕ
  pub store : Store
  pub acts : Acts (moment system t k) writer (Stores store)
  pub into : store.key ≡ Physical page
  pub through : HasLiveBinding system t writer page
  pub has : page_bytes (moment system t (suc k)) page
      ≡ with_bytes (page_bytes (moment system t k) page) store.offset store.bytes

-- In a phase of a tick the environment allocates the page, which was free before and holds zeros after.
pub record IsAllocated (system : System) (t k page owner : ℕ) : Type 0 where
  pub words : Capabilities
  pub does : Does (moment system t k) owner (Allocates page words)
  pub free : (moment system t k).book.pages page ≡ Free
  pub zeros : page_bytes (moment system t (suc k)) page ≡ zero_page

-- The bytes of a page that stays an environment's in a phase stay, or such a store changes them, or a packet for it, or
-- a copy of a page that is taken from it.
abbrev pub AllocatedChange : Type 0
AllocatedChange = (system : System) (t k page owner : ℕ) →
    IsOwnedAt system t k page owner → IsOwnedAt system t (suc k) page owner →
    (page_bytes (moment system t (suc k)) page ≡ page_bytes (moment system t k) page)
    ⊎ (IsStoredTo system t k page ⊎ (IsDelivered system t k page owner ⊎ IsCopied system t k page owner))

-- A page that comes to be an environment's in a phase is so allocated by it.
abbrev pub AllocatedZeros : Type 0
AllocatedZeros = (system : System) (t k page owner : ℕ) →
    IsOwnedAt system t (suc k) page owner → IsOwnedAt system t k page owner ⊎ IsAllocated system t k page owner

-- So a page that is an environment's after a tick was so before and has the bytes that it had, or it was stored to, a
-- packet or a copy came there, or it was allocated so in a phase of the tick.
abbrev pub AllocatedInTick : Type 0
AllocatedInTick = (system : System) (t page owner : ℕ) → is_owned_by owner (row_after system (suc t) page) ≡ true →
    ((is_owned_by owner (row_after system t page) ≡ true)
    × (page_bytes (world_after system (suc t)) page ≡ page_bytes (world_after system t) page))
    ⊎ (((k : ℕ) × IsStoredTo system t k page)
    ⊎ (((k : ℕ) × (IsDelivered system t k page owner ⊎ IsCopied system t k page owner))
    ⊎ ((k : ℕ) × IsAllocated system t k page owner)))

-- and one that wasn't so before was allocated so.
abbrev pub ZerosInTick : Type 0
ZerosInTick = (system : System) (t page owner : ℕ) → is_owned_by owner (row_after system (suc t) page) ≡ true →
    (is_owned_by owner (row_after system t page) ≡ true) ⊎ ((k : ℕ) × IsAllocated system t k page owner)
