-- What holds of every board.
use Rattle.std.specs.Prelude.{◌≡◌, ◌≤◌, ◌<◌, ◌+◌, ◌*◌, ℕ, false, List, length, Option, Some, None, Bool, IfSome, slice_get, true}
use Rattle.std.specs.List.{list_all}
use Rattle.aegis_limits.specs.Limits.{most_environments, most_pages, most_slots, excess_limit, environment_numbers}
use Rattle.aegis_limits.specs.VersionLimits.{stripe_rows}
use Rattle.external_event.specs.Limits.{lines as most_lines}
use Rattle.page_book.specs.declared.row.PageRow.{PageRow}
use Rattle.page_book.specs.declared.row.PageRow.TheVariants.{Free, Guaranteed, Owned}
use Rattle.page_book.specs.Row.{is_owned_by, owner_of}
use Rattle.filter_tree.specs.ClaimBook.{ClaimBook, ClaimValue, RowValue, are_numbered}
use Rattle.page_book.specs.Rows.{row_in}
use Rattle.revocation_book.specs.Backups.{is_loaded}
use Rattle.revocation_book.specs.RevocationBook.{RevocationBook, backups_at, pending_at}
use Rattle.bind_book.specs.declared.binding.Binding.{Binding}
use Rattle.bind_book.specs.Stripe.{Stripes, stripes}
use Rattle.env_frames.specs.declared.mapping.Mapping.{Mapping}
use Rattle.env_frames.specs.Frame.{IsRising, numbers}
use Rattle.guest_memory.specs.Look.{mapping_in}
use Rattle.r3k_tlb.specs.declared.row.Row.{Row}
use Rattle.tlb_model.specs.Coherence.{AreCoherent}
use Rattle.slot_vector.specs.Slices.{Slices, HasTicks, excess_of, hold_at}
use Rattle.world_model.specs.Book.{has_part, is_runner, running}
use Rattle.world_model.specs.declared.life.Life.TheVariants.{Live}
use Rattle.board_model.specs.declared.roster.Environment.{Environment}
use Rattle.board_model.specs.Lines.{line_at}
use Rattle.board_model.specs.Shown.{Shown, Environments, mappings_of}

abbrev pub IsAlive : Option Environment → Type 0
IsAlive None = ⊥
IsAlive (Some x) = x.life ≡ Live

-- an environment of the board that lives
abbrev pub IsLiving : List Environment → ℕ → Type 0
IsLiving list e = (e < length list) × IsAlive (slice_get list e)

-- a number that an environment of the board has or will have, which isn't dead
abbrev pub IsUndead : Environments → ℕ → Type 0
IsUndead r e = (e < length r.list + r.spare) × IfSome (slice_get r.list e) (λ x. x.life ≡ Live)

-- an environment's guaranteed mappings lead to pages that are guaranteed to it, each to one of its own
pub record AreGuaranteed (pages : List PageRow) (e : ℕ) (mappings : List Mapping) : Type 0 where
  pub its : (a : ℕ) (m : Mapping) → slice_get mappings a ≡ Some m → row_in pages m.page ≡ Guaranteed e
  pub apart : (a b : ℕ) (m n : Mapping) →
      slice_get mappings a ≡ Some m → slice_get mappings b ≡ Some n → m.page ≡ n.page → a ≡ b
  pub rising : IsRising (numbers mappings)

-- Physical memory: each page has a row, and what is mapped is guaranteed.
pub record PagesAgree (frames : List (List ℕ)) (pages : List PageRow) (list : List Environment) : Type 0 where
  pub same : length frames ≡ length pages
  pub most : length frames ≤ most_pages
  pub mapped : (e : ℕ) → AreGuaranteed pages e (mappings_of list e)

abbrev pub IsOwned : PageRow → Type 0
IsOwned Free = ⊥
IsOwned (Guaranteed owner) = ⊥
IsOwned (Owned owner words) = Unit {0}

-- the stripes of so many environments
unfoldable pub AreStripesOf : Stripes → ℕ → Type 0
AreStripesOf binds envs = length binds.rows ≡ envs * stripe_rows binds.version

-- The books: there is a stripe for each environment; pages and bindings are those of environments that live; and no
-- page is bound that is free or guaranteed.
pub record BooksAgree (pages : List PageRow) (binds : Stripes) (r : Environments) : Type 0 where
  pub striped : AreStripesOf binds (length r.list + r.spare)
  pub owners : (page e : ℕ) → owner_of (row_in pages page) ≡ Some e → IsLiving r.list e
  pub binders : (e row : ℕ) (x : Binding) → stripes binds e row ≡ Some x → IsLiving r.list e
  pub bound : (e row : ℕ) (x : Binding) → stripes binds e row ≡ Some x → IsOwned (row_in pages x.page)

-- The slots: a runner lives and has ticks left, whoever owns or holds a slot isn't dead, and nobody owes more than the
-- limit.
pub record SlotsAgree (v : Slices) (r : Environments) : Type 0 where
  pub quantum : 0 < v.quantum
  pub ticks : HasTicks v.runner
  pub runner : IfSome v.runner (λ x. IsLiving r.list x.env)
  pub holds : (k : ℕ) → IfSome (hold_at v.slots k) (λ h. IsUndead r h.owner × IsUndead r h.holder)
  pub count : length v.slots ≤ most_slots
  pub numbered : length v.excess ≡ environment_numbers
  pub owes : (e : ℕ) → excess_of v.excess e ≤ excess_limit

-- The interrupt lines: each has an owner that lives, or none.
pub record LinesAgree (lines : List (Option ℕ)) (list : List Environment) : Type 0 where
  pub count : length lines ≡ most_lines
  pub owners : (line : ℕ) → IfSome (line_at lines line) (IsLiving list)

-- whether the page of a claim is its environment's own
abbrev pub has_own_page : List PageRow → ClaimValue → Bool
has_own_page pages c = is_owned_by c.env (row_in pages c.page)

-- The claims: each goes into a page of its environment's own, and there is room for those of each environment.
pub record AreClaimed (claims : ClaimBook) (pages : List PageRow) (r : Environments) : Type 0 where
  pub owned : list_all (λ (x : RowValue). has_own_page pages x.claim) claims.rows ≡ true
  pub count : claims.envs ≡ length r.list + r.spare

-- The book of revocations: each environment has its place, where something is pending pages are outstanding, and each
-- backup is a page of its environment's own.
pub record RevocationsAgree (book : RevocationBook) (pages : List PageRow) : Type 0 where
  pub pending : length book.pending ≡ environment_numbers
  pub backups : length book.backups ≡ environment_numbers
  pub some : (e : ℕ) → IfSome (pending_at book e) (λ p. 0 < p.outstanding)
  pub owned : (e page : ℕ) → is_loaded (backups_at book e) page ≡ true → is_owned_by e (row_in pages page) ≡ true

-- the mapping of an environment's VPN
abbrev pub leads_in : List Environment → Stripes → ℕ → ℕ → Option Mapping
leads_in list binds e vpn = mapping_in binds.version (mappings_of list e) (stripes binds e) vpn

-- The rows of the TLB: none outlives its mapping.
pub record RowsAgree (frames : List (List ℕ)) (list : List Environment) (binds : Stripes)
    (rows : List Row) : Type 0 where
  pub coherent : AreCoherent (leads_in list binds) (length frames) rows

-- no slot is an environment's, and it doesn't run
pub record HasNoPart (e : ℕ) (v : Slices) : Type 0 where
  pub runs : is_runner e v.runner ≡ false
  pub parts : (k : ℕ) → has_part e (hold_at v.slots k) ≡ false

-- what holds of every board
pub record IsSoundBoard (b : Shown) : Type 0 where
  pub few : length b.roster.list + b.roster.spare ≤ most_environments
  pub book : SlotsAgree b.slots b.roster
  pub memory : PagesAgree b.frames b.pages b.roster.list
  pub books : BooksAgree b.pages b.binds b.roster
  pub lines : LinesAgree b.lines b.roster.list
  pub claims : AreClaimed b.claims b.pages b.roster
  pub revocations : RevocationsAgree b.revocations b.pages
  pub rows : RowsAgree b.frames b.roster.list b.binds b.tlb.rows

-- a sound board on which an environment runs
pub record HasRunner (b : Shown) (e : ℕ) : Type 0 where
  pub sound : IsSoundBoard b
  pub runs : running b.slots.runner ≡ Some e

-- the numbers of the claims rise, and are below that of the next one, so that a handler is downloaded for one claim
-- alone
abbrev pub HasClaimNumbers : Shown → Type 0
HasClaimNumbers b = are_numbered 0 b.claims.next b.claims.rows ≡ true
