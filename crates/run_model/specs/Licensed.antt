-- By what licence an environment is given an item: at boot, and for each phase of a tick, item by item, of the world
-- before the phase.
use Rattle.std.specs.Prelude.{◌≡◌, ◌≢◌, ◌<◌, ◌+◌, ◌-◌, ◌*◌, ℕ, zero, suc, length, Bool, true, false, List, [], ◌∷◌, Option, Some, None, is_none, ◌⊎◌, slice_get}
use Rattle.std.specs.List.{All}
use Rattle.std.specs.Option.{option_map}
use Rattle.aegis_limits.specs.declared.version.Version.{Version}
use Rattle.boot_image.specs.ImageValue.{ImageValue, ProgramValue}
use Rattle.env_frames.specs.declared.transfer.TransferKind.{TransferKind}
use Rattle.env_frames.specs.Transfer.{Registers, carried}
use Rattle.frame_store.specs.Pages.{zero_page}
use Rattle.page_book.specs.declared.row.Capabilities.{Capabilities}
use Rattle.page_book.specs.Row.{belongs_to}
use Rattle.bind_book.specs.declared.binding.Binding.{Binding}
use Rattle.bind_book.specs.Stripe.{is_bound}
use Rattle.world_model.specs.declared.call.Call.{Call}
use Rattle.world_model.specs.declared.call.Deed.TheVariants.{Allocates, Binds, Frees, Gives, Recaps, Transfers}
use Rattle.world_model.specs.declared.life.Cause.{Cause}
use Rattle.world_model.specs.declared.hold.Hold.{Hold}
use Rattle.world_model.specs.declared.slot.Phase.{Phase}
use Rattle.world_model.specs.declared.slot.Phase.TheVariants as phase
use Rattle.world_model.specs.declared.slot.Runner.{Runner}
use Rattle.world_model.specs.declared.slot.Turn.{Turn}
use Rattle.world_model.specs.declared.verdict.Verdict.{Verdict}
use Rattle.world_model.specs.declared.verdict.Verdict.TheVariants.{Again}
use Rattle.world_model.specs.Book.{running, sees, whole_turn}
use Rattle.aegis_limits.specs.Limits.{excess_limit}
use Rattle.external_event.specs.declared.event.Occurrence.{Occurrence}
use Rattle.external_event.specs.declared.event.Occurrence.TheVariants as outside
use Rattle.world_model.specs.Item.{Item, Boot, Step, Start, End, Transfer, Killed, Answer, Gained, Lost, Left, Packet, Line, Asked, Taken}
use Rattle.filter_tree.specs.ClaimBook.{ClaimValue}
use Rattle.world_model.specs.ClaimCalls.{claim_of}
use Rattle.world_model.specs.Event.{ring_bytes}
use Rattle.world_model.specs.Rings.{ring_of}
use Rattle.world_model.specs.May.{MayAllocate, MayAsk, MayBind, MayChange, MayEnter, MayReach}
use Rattle.world_model.specs.Page.{KeptPage}
use Rattle.world_model.specs.PageCalls.{page_bytes, revocations}
use Rattle.world_model.specs.Solo.{Store, Physical}
use Rattle.world_model.specs.Step.{Stores, Calls, Dies}
use Rattle.world_model.specs.Verdict.{verdict}
use Rattle.world_model.specs.World.{World, is_living}
use Rattle.revocation_book.specs.declared.revocation.Taking.{Taking}
use Rattle.revocation_book.specs.Pending.{asked}
use Rattle.revocation_book.specs.Takings.{IsTakable}
use Rattle.run_model.specs.Acting.{Acts, Does}
use Rattle.run_model.specs.Boot.{boot_items, kept_of}
use Rattle.run_model.specs.Live.{HasLiveBinding}
use Rattle.run_model.specs.Run.{System, feed, given_at, given_below, happens_in, moment, takings_in, world_after}

-- At boot: it is the environment's record in the image.
pub record IsRecord (image : ImageValue) (e : ℕ) (version : Version) (number : ℕ) (name : List ℕ) (entry accept : ℕ)
    (kept : List KeptPage) : Type 0 where
  pub program : ProgramValue
  pub there : slice_get image.programs e ≡ Some program
  pub version_is : version ≡ image.version
  pub number_is : number ≡ e
  pub name_is : name ≡ program.name
  pub entry_is : entry ≡ program.body.entry
  pub accept_is : accept ≡ program.accept
  pub kept_is : kept ≡ kept_of program

abbrev pub AtBoot : ImageValue → ℕ → Item → Type 0
AtBoot image e (Boot version number name entry accept kept) =
    IsRecord image e version number name entry accept kept
AtBoot image e item = ⊥

-- The turn is the environment's: nobody runs; once those who owe have forfeited theirs, the next held slot is one that
-- it holds; and it owes nothing.
pub record HasTurn (w : World) (e : ℕ) : Type 0 where
  pub nobody : w.book.runner ≡ None
  pub turn : Turn
  pub runs : (whole_turn w.book).runs ≡ Some turn
  pub its : turn.env ≡ e
  pub holds : option_map (λ (h : Hold). h.holder) (w.book.slots turn.slot) ≡ Some e
  pub free : (whole_turn w.book).excess e ≡ 0

abbrev pub AtTurn : World → ℕ → Item → Type 0
AtTurn w e Start = HasTurn w e
AtTurn w e item = ⊥

-- The runner donates its slice to the environment, which is another, lives, and accepts it.
pub record IsDonated (w : World) (e : ℕ) : Type 0 where
  pub giver : ℕ
  pub does : Does w giver (Gives e)
  pub may : MayReach w giver e false

-- The runner transfers to it: this one, by such a transfer, with these registers, which are its own at the call.
pub record IsEntered (w : World) (e from : ℕ) (kind : TransferKind) (registers : Registers) : Type 0 where
  pub does : Does w from (Transfers e kind)
  pub may : MayEnter w from e kind
  pub its : registers ≡ carried (w.solos from).cpu

-- The environment's own step is a call, with this verdict.
pub record IsAnswered (w : World) (e : ℕ) (answer : Verdict) : Type 0 where
  pub call : Option Call
  pub acts : Acts w e (Calls call)
  pub its : verdict w e call ≡ answer

-- It allocates the page, which is free; it may store to it, and finds zeros.
pub record IsAllocating (w : World) (e page : ℕ) (writable : Bool) (bytes : List ℕ) : Type 0 where
  pub words : Capabilities
  pub does : Does w e (Allocates page words)
  pub may : MayAllocate w.book page
  pub mode : writable ≡ true
  pub zeros : bytes ≡ zero_page

-- It binds the page, to which it has the right, in this mode, and finds the bytes that its owner sees.
pub record IsBinding (w : World) (e page : ℕ) (writable : Bool) (bytes : List ℕ) : Type 0 where
  pub binding : Binding
  pub word : ℕ
  pub does : Does w e (Binds binding word)
  pub may : MayBind w e binding word
  pub its : binding.page ≡ page
  pub mode : binding.writable ≡ writable
  pub same : bytes ≡ page_bytes w page

-- It frees the page, which is its own.
pub record IsFreeing (w : World) (e page : ℕ) : Type 0 where
  pub does : Does w e (Frees page)
  pub may : MayChange w.book e page

-- Why the bindings of a page are broken in a step: its owner frees it, gives it other words, or dies.
pub data Breaks (w : World) (owner page : ℕ) : Type 0 where
  ByFree : Does w owner (Frees page) → Breaks w owner page
  ByRecap : (words : Capabilities) → Does w owner (Recaps page words) → Breaks w owner page
  ByDeath : (cause : Cause) → Acts w owner (Dies cause) → Breaks w owner page

-- The environment has bound a page of another's.
pub record HasBoundOf (w : World) (e owner page : ℕ) : Type 0 where
  pub another : e ≢ owner
  pub owned : belongs_to owner (w.book.pages page) ≡ true
  pub bound : is_bound page (w.book.binds e) ≡ true

pub record IsBroken (w : World) (e page : ℕ) : Type 0 where
  pub owner : ℕ
  pub has : HasBoundOf w e owner page
  pub breaks : Breaks w owner page

-- Another that runs stores these bytes there, by a live binding of its own, in a page that the environment owns or has
-- bound.
pub record IsLeft (system : System) (t : ℕ) (w : World) (e page offset : ℕ) (bytes : List ℕ) : Type 0 where
  pub writer : ℕ
  pub another : e ≢ writer
  pub store : Store
  pub acts : Acts w writer (Stores store)
  pub into : store.key ≡ Physical page
  pub at : store.offset ≡ offset
  pub its : store.bytes ≡ bytes
  pub right : HasLiveBinding system t writer page
  pub seen : sees w.book e page ≡ true

-- The environment, which lives, is asked for so many pages until a deadline; then so many are outstanding.
pub record IsAsked (w : World) (e named count until outstanding deadline : ℕ) : Type 0 where
  pub its : named ≡ e
  pub lives : is_living w e ≡ true
  pub pending : asked count until (w.book.pending e) ≡ Some (record { outstanding = outstanding; deadline = deadline })

-- Another allocates any page, none is free, and the environment has the most to give: nothing is pending for it, and it
-- is asked for one page within two quanta.
pub record IsPressed (w : World) (e outstanding deadline : ℕ) : Type 0 where
  pub caller : ℕ
  pub answered : IsAnswered w caller (Again e)
  pub may : MayAsk w caller e
  pub nothing : is_none (w.book.pending e) ≡ true
  pub asks : IsAsked w e e 1 (w.book.time + 2 * w.book.quantum) outstanding deadline

abbrev pub AtStep : System → ℕ → World → ℕ → Item → Type 0
AtStep system t w e Step = running w.book.runner ≡ Some e
AtStep system t w e Start = IsDonated w e
AtStep system t w e (Transfer from kind registers) = IsEntered w e from kind registers
AtStep system t w e (Answer answer) = IsAnswered w e answer
AtStep system t w e (Gained page writable bytes) = IsAllocating w e page writable bytes
    ⊎ IsBinding w e page writable bytes
AtStep system t w e (Lost page) = IsFreeing w e page ⊎ IsBroken w e page
AtStep system t w e (Left page offset bytes) = IsLeft system t w e page offset bytes
AtStep system t w e (Asked outstanding deadline) = IsPressed w e outstanding deadline
AtStep system t w e item = ⊥

-- The environment runs in its last tick, in this phase of its slice.
pub record IsOut (w : World) (e : ℕ) (p : Phase) : Type 0 where
  pub runner : Runner
  pub runs : w.book.runner ≡ Some runner
  pub its : runner.env ≡ e
  pub so : runner.phase ≡ p
  pub last : runner.left - 1 ≡ 0

-- The slice of the environment ends, which it handles.
pub record IsEnding (w : World) (e : ℕ) : Type 0 where
  pub out : IsOut w e phase.Own
  pub handles : (w.solos e).handlers.end ≢ 0

-- It runs out of grace, and what it owes then is above the limit.
pub record IsOverdue (w : World) (e : ℕ) : Type 0 where
  pub out : IsOut w e phase.Grace
  pub owes : excess_limit < w.book.excess e + 1

-- It has bound a page of another's, which dies so.
pub record IsBrokenByEnd (w : World) (e page : ℕ) : Type 0 where
  pub owner : ℕ
  pub has : HasBoundOf w e owner page
  pub overdue : IsOverdue w owner

abbrev pub AtTimer : World → ℕ → Item → Type 0
AtTimer w e End = IsEnding w e
AtTimer w e Killed = IsOverdue w e
AtTimer w e (Lost page) = IsBrokenByEnd w e page
AtTimer w e item = ⊥

-- A signal comes on this line, which is the environment's.
pub record IsSignalled (w : World) (e raised line : ℕ) : Type 0 where
  pub its : w.book.lines raised ≡ Some e
  pub same : line ≡ raised

abbrev pub AtSignal : ℕ → World → ℕ → Item → Type 0
AtSignal raised w e (Line line) = IsSignalled w e raised line
AtSignal raised w e item = ⊥

-- A packet comes, and this claim of the environment's is the lowest whose filter matches it.
pub record IsClaimed (w : World) (e : ℕ) (packet : List ℕ) (claim : ℕ) (given : List ℕ) : Type 0 where
  pub lowest : ClaimValue
  pub goes : claim_of w.book packet ≡ Some lowest
  pub its : lowest.env ≡ e
  pub number : lowest.id ≡ claim
  pub same : given ≡ packet

-- It comes for another's claim, whose ring is a page that the environment owns or has bound, and which has these bytes
-- then.
pub record IsRingLeft (w : World) (e : ℕ) (packet : List ℕ) (page offset : ℕ) (bytes : List ℕ) : Type 0 where
  pub lowest : ClaimValue
  pub goes : claim_of w.book packet ≡ Some lowest
  pub another : e ≢ lowest.env
  pub into : lowest.page ≡ page
  pub filled : let s = w.solos lowest.env in ring_bytes s (ring_of s.rings lowest.id) packet ≡ Some bytes
  pub whole : offset ≡ 0
  pub seen : sees w.book e page ≡ true

abbrev pub AtArrival : List ℕ → World → ℕ → Item → Type 0
AtArrival packet w e (Packet claim given) = IsClaimed w e packet claim given
AtArrival packet w e (Left page offset bytes) = IsRingLeft w e packet page offset bytes
AtArrival packet w e item = ⊥

-- A revocation names the environment.
abbrev pub AtRevocation : ℕ → ℕ → ℕ → World → ℕ → Item → Type 0
AtRevocation named count until w e (Asked outstanding deadline) = IsAsked w e named count until outstanding deadline
AtRevocation named count until w e item = ⊥

abbrev pub AtEvent : Occurrence → World → ℕ → Item → Type 0
AtEvent (outside.Packet packet) w e item = AtArrival packet w e item
AtEvent (outside.Line line) w e item = AtSignal line w e item
AtEvent (outside.Revoke env count grace) w e item = AtRevocation env count (w.book.time + grace) w e item

-- A page may be taken in this world: the deadline of its owner has come, and it is neither guaranteed nor a backup; the
-- backup is the one that was loaded first.
abbrev pub MayTaking : World → Taking → Type 0
MayTaking w x = IsTakable (revocations w.book) w.book.time x

-- It is taken from the environment, and goes to this backup, if to any.
pub record IsTaken (w : World) (x : Taking) (e page : ℕ) (backup : Option ℕ) : Type 0 where
  pub may : MayTaking w x
  pub its : x ≡ record { env = e; page = page; backup = backup }

-- It is taken from another, and the environment has bound it.
pub record IsBrokenByTaking (w : World) (x : Taking) (e page : ℕ) : Type 0 where
  pub may : MayTaking w x
  pub its : x.page ≡ page
  pub has : HasBoundOf w e x.env page

-- A copy of it goes to a backup of its owner's, which is another, and the environment has bound the backup.
pub record IsCopyLeft (w : World) (x : Taking) (e page offset : ℕ) (bytes : List ℕ) : Type 0 where
  pub may : MayTaking w x
  pub another : e ≢ x.env
  pub into : x.backup ≡ Some page
  pub whole : offset ≡ 0
  pub its : bytes ≡ page_bytes w x.page
  pub seen : sees w.book e page ≡ true

abbrev pub AtTaking : Taking → World → ℕ → Item → Type 0
AtTaking x w e (Taken page backup) = IsTaken w x e page backup
AtTaking x w e (Lost page) = IsBrokenByTaking w x e page
AtTaking x w e (Left page offset bytes) = IsCopyLeft w x e page offset bytes
AtTaking x w e item = ⊥

-- The licence for an item in the phase of this number behind the events of tick t, in which this is taken. At the end
-- of the deadlines nothing is given.
abbrev pub LicensedBehind : System → ℕ → List Taking → ℕ → World → ℕ → Item → Type 0
LicensedBehind system t [] zero w e item = ⊥
LicensedBehind system t [] (suc zero) w e item = AtTurn w e item
LicensedBehind system t [] (suc (suc zero)) w e item = AtStep system t w e item
LicensedBehind system t [] (suc (suc (suc zero))) w e item = AtTimer w e item
LicensedBehind system t [] (suc (suc (suc (suc k)))) w e item = ⊥
LicensedBehind system t (x ∷ xs) zero w e item = AtTaking x w e item
LicensedBehind system t (x ∷ xs) (suc k) w e item = LicensedBehind system t xs k w e item

-- The licence for an item in the phase of this number of tick t, in which this happens, and this is taken.
abbrev pub LicensedIn : System → ℕ → List Occurrence → List Taking → ℕ → World → ℕ → Item → Type 0
LicensedIn system t [] xs k w e item = LicensedBehind system t xs k w e item
LicensedIn system t (what ∷ happens) xs zero w e item = AtEvent what w e item
LicensedIn system t (what ∷ happens) xs (suc k) w e item = LicensedIn system t happens xs k w e item

abbrev pub LicensedAt : System → ℕ → ℕ → ℕ → Item → Type 0
LicensedAt system t k e item =
    LicensedIn system t (happens_in system.schedule (world_after system t)) (takings_in system t) k
    (moment system t k) e item

-- Every item that an environment is given in a phase of a tick has its licence there, in the world of that phase.
abbrev pub GivenIsLicensed : Type 0
GivenIsLicensed = (system : System) (t k e : ℕ) → All (LicensedAt system t k e) (given_at system t k e)

-- The item at a place of a feed is the environment's record, which is given at boot.
pub record IsGivenAtBoot (system : System) (e n : ℕ) (item : Item) : Type 0 where
  pub there : slice_get (boot_items system.image e) n ≡ Some item
  pub licence : AtBoot system.image e item

-- It is given in a phase of a tick before this number of ticks, and has its licence there: before it stands in the feed
-- what is given in earlier ticks, what is given in earlier phases, and what is given before it in the phase.
pub record IsGivenInPhase (system : System) (t e n : ℕ) (item : Item) : Type 0 where
  pub tick : ℕ
  pub earlier : tick < t
  pub phase : ℕ
  pub place : ℕ
  pub there : slice_get (given_at system tick phase e) place ≡ Some item
  pub stands : n ≡ length (feed system e tick) + (length (given_below system tick phase e) + place)
  pub licence : LicensedAt system tick phase e item

-- Licensed where it is given
abbrev pub Licensed : System → ℕ → ℕ → ℕ → Item → Type 0
Licensed system t e n item = IsGivenAtBoot system e n item ⊎ IsGivenInPhase system t e n item

-- Every item of every feed is.
abbrev pub FeedIsLicensed : Type 0
FeedIsLicensed = (system : System) (t e n : ℕ) (item : Item) → slice_get (feed system e t) n ≡ Some item
    → Licensed system t e n item
