-- The book of revocations stays sound: each backup is a page of its environment's own.
use Rattle.std.proofs.Common.{◌≡◌, ◌≢◌, ◌<◌, arith, ℕ, List, [], ◌∷◌, length, map, drop, Bool, true, false, Option, None, IfSome, refl, sym, ◌∙◌, ap, subst, length-set, rules}
use Rattle.std.specs.Prelude.{◌==◌, ◌||◌, not, if◌then◌else◌, slice_set}
use Rattle.std.proofs.lemmas.Bool.{cases_eq, eq-eqb, eqb-false, eqb-true, ne_eqb, or_right}
use Rattle.std.proofs.lemmas.List.{length-map}
use Rattle.std.proofs.lemmas.Grind.{common_steps}
use Rattle.page_book.specs.declared.row.Capabilities.{Capabilities}
use Rattle.page_book.specs.declared.row.PageRow.{PageRow}
use Rattle.page_book.specs.declared.row.PageRow.TheVariants.{Free, Owned}
use Rattle.page_book.specs.Row.{is_owned_by, released}
use Rattle.page_book.specs.Rows.{row_in}
use Rattle.page_book.proofs.Owners.{same_owner}
use Rattle.revocation_book.specs.declared.revocation.Pending.{Pending}
use Rattle.revocation_book.specs.Backups.{is_loaded, loaded, unloaded}
use Rattle.revocation_book.specs.Pending.{asked, lowered, unless_due}
use Rattle.revocation_book.specs.RevocationBook.{RevocationBook, backups_at, once_freed, once_gone, once_served, pending_at, with_backups, with_pending}
use Rattle.aegis_limits.specs.Limits.{environment_numbers}
use Rattle.revocation_book.proofs.Takable.{rest_loaded}
use Rattle.world_model.specs.Table.{set_at}
use Rattle.board_model.specs.Sound.{RevocationsAgree}
use Rattle.board_model.proofs.Booked.{by_page}
use Rattle.board_model.proofs.Claiming.{released_else}
use Rattle.board_model.proofs.Parts.{set_here, set_else}
use Rattle.board_model.proofs.Sound.{set_all}
use Rattle.board_model.proofs.Tables.{row_released, table_set}

-- the book as tables
pub backups_set : (book : RevocationBook) (e : ℕ) (backups : List ℕ) → e < length book.backups → (i : ℕ) → backups_at (with_backups book e backups) i ≡ set_at e backups (backups_at book) i
backups_set book e backups within = table_set book.backups e backups [] within

pub pending_set : (book : RevocationBook) (e : ℕ) (pending : Option Pending) → e < length book.pending → (i : ℕ) → pending_at (with_pending book e pending) i ≡ set_at e pending (pending_at book) i
pending_set book e pending within = table_set book.pending e pending None within

pub pending_served : (book : RevocationBook) (time i : ℕ) → pending_at (once_served book time) i ≡ unless_due time (pending_at book i)
pending_served book time i = grind (arith, common_steps)

-- other pages of which the backups are owned
pub repaged : (book : RevocationBook) (pages given : List PageRow) → ((e page : ℕ) → is_loaded (backups_at book e) page ≡ true → is_owned_by e (row_in pages page) ≡ true → is_owned_by e (row_in given page) ≡ true) → RevocationsAgree book pages → RevocationsAgree book given
repaged book pages given stays are = record { pending = are.pending; backups = are.backups; some = are.some; owned = λ e page loaded. stays e page loaded (are.owned e page loaded) }

-- what is pending is another
abbrev IsPositive : Option Pending → Type 0
IsPositive pending = IfSome pending (λ p. 0 < p.outstanding)

pub pending_asked : (book : RevocationBook) (pages : List PageRow) (e : ℕ) (pending : Option Pending) → IsPositive pending → RevocationsAgree book pages → RevocationsAgree (with_pending book e pending) pages
pending_asked book pages e pending positive are = grind (arith, common_steps, length-set, set_all)

positive_lowered : (pending : Option Pending) → IsPositive (lowered pending)
positive_lowered pending = search (rules, eqb-false)

pub nothing_pending : (count deadline : ℕ) (pending : Option Pending) → IsPositive pending → asked count deadline pending ≡ None → pending ≡ None
nothing_pending count deadline pending positive is = search (rules, eqb-true)

pub served_asked : (book : RevocationBook) (pages : List PageRow) (time : ℕ) → RevocationsAgree book pages → RevocationsAgree (once_served book time) pages
served_asked book pages time are = search (rules, length-map, pending_served)

-- an environment has other backups, which it owns
module _ (book : RevocationBook) (pages given : List PageRow) (e : ℕ) (backups : List ℕ) (within : e < environment_numbers) (are : RevocationsAgree book pages) where
  there : e < length book.backups
  there = subst (λ n. e < n) (sym are.backups) within

  pub rebacked : ((page : ℕ) → is_loaded backups page ≡ true → is_owned_by e (row_in given page) ≡ true)
      → ((i page : ℕ) → i ≢ e → is_loaded (backups_at book i) page ≡ true → is_owned_by i (row_in given page) ≡ true) → RevocationsAgree (with_backups book e backups) given
  rebacked its others = search (rules, length-set, backups_set, cases_eq, set_here, set_else, there)

left_one : (b page p : ℕ) (rest more : Bool) → (t : Bool) → (b == page) ≡ t → (if not t then b == p || rest else rest) ≡ true → (rest ≡ true → (more ≡ true) × (p ≢ page)) → ((b == p || more) ≡ true) × (p ≢ page)
left_one b page p rest more t same is next = search (rules, or_right, eqb-false, eqb-true)

pub unloaded_still : (backups : List ℕ) (page p : ℕ) → is_loaded (unloaded page backups) p ≡ true → (is_loaded backups p ≡ true) × (p ≢ page)
unloaded_still [] page p is = cc
unloaded_still (b ∷ backups) page p is =
    left_one b page p (is_loaded (unloaded page backups) p) (is_loaded backups p) (b == page) refl
    (by_test (b == page) is) (λ rest. unloaded_still backups page p rest)
  where
    by_test : (t : Bool) → is_loaded (if not t then b ∷ unloaded page backups else unloaded page backups) p ≡ true → (if not t then b == p || is_loaded (unloaded page backups) p else is_loaded (unloaded page backups) p) ≡ true
    by_test true is = is
    by_test false is = is

-- a page is loaded
pub loaded_asked : (book : RevocationBook) (pages : List PageRow) (e page : ℕ) → e < environment_numbers → is_owned_by e (row_in pages page) ≡ true → RevocationsAgree book pages → RevocationsAgree (with_backups book e (loaded page (backups_at book e))) pages
loaded_asked book pages e page within own are = grind (arith, common_steps, cases_eq, ne_eqb)

-- a page of an environment's is nobody's, and another's backup it wasn't
module _ (book : RevocationBook) (pages : List PageRow) (e page : ℕ) (there : page < length pages) (own : is_owned_by e (row_in pages page) ≡ true) (are : RevocationsAgree book pages) where
  pub freed_row : (i p : ℕ) → p ≢ page → is_owned_by i (row_in pages p) ≡ true → is_owned_by i (row_in (slice_set pages page Free) p) ≡ true
  freed_row i p other its = by_page (λ row. is_owned_by i row ≡ true) pages page p Free there (λ same. absurd (other same)) (λ apart. its)

  pub freed_others : (i p : ℕ) → i ≢ e → is_loaded (backups_at book i) p ≡ true → is_owned_by i (row_in (slice_set pages page Free) p) ≡ true
  freed_others i p other is = grind (arith, same_owner, freed_row)

-- by its owner
pub freed_asked : (book : RevocationBook) (pages : List PageRow) (e page : ℕ) → e < environment_numbers → page < length pages → is_owned_by e (row_in pages page) ≡ true → RevocationsAgree book pages → RevocationsAgree (once_freed book e page) (slice_set pages page Free)
freed_asked book pages e page within there own are = search (rules, pending_asked, positive_lowered, unloaded_still)

-- by force, where it is no backup
pub taken_asked : (book : RevocationBook) (pages : List PageRow) (e page : ℕ) → e < environment_numbers → page < length pages → is_owned_by e (row_in pages page) ≡ true → is_loaded (backups_at book e) page ≡ false → RevocationsAgree book pages → RevocationsAgree (with_backups book e (drop 1 (backups_at book e))) (slice_set pages page Free)
taken_asked book pages e page within there own spared are =
    rebacked book pages (slice_set pages page Free) e (drop 1 (backups_at book e)) within are
    (λ p is.
    let still = rest_loaded (backups_at book e) p is in
    freed_row book pages e page there own are e p (λ same. let both : true ≡ false = sym still ∙ ap (is_loaded (backups_at book e)) same ∙ spared in cc) (are.owned e p still))
    (freed_others book pages e page there own are)

-- a page that is free comes to be owned
pub allocated_asked : (book : RevocationBook) (pages : List PageRow) (page e : ℕ) (words : Capabilities) → page < length pages → row_in pages page ≡ Free → RevocationsAgree book pages → RevocationsAgree book (slice_set pages page (Owned e words))
allocated_asked book pages page e words within free are = search (rules, repaged, by_page)

-- a page gets other words
pub recapped_asked : (book : RevocationBook) (pages : List PageRow) (page e : ℕ) (words : Capabilities) → page < length pages → is_owned_by e (row_in pages page) ≡ true → RevocationsAgree book pages → RevocationsAgree book (slice_set pages page (Owned e words))
recapped_asked book pages page e words within owned are = search (rules, repaged, by_page, eq-eqb, same_owner)

-- pages that are free are given
pub given_asked : (book : RevocationBook) (pages given : List PageRow) → ((p : ℕ) → row_in pages p ≢ Free → row_in given p ≡ row_in pages p) → RevocationsAgree book pages → RevocationsAgree book given
given_asked book pages given stays are = repaged book pages given (λ e p is own. ap (is_owned_by e) (stays p (λ free. let none : true ≡ false = sym own ∙ ap (is_owned_by e) free in cc)) ∙ own) are

-- an environment dies
pub death_asked : (book : RevocationBook) (pages : List PageRow) (e : ℕ) → e < environment_numbers → RevocationsAgree book pages → RevocationsAgree (once_gone book e) (map (released e) pages)
death_asked book pages e within are = search (rules, pending_asked, row_released, released_else)
