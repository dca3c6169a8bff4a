-- Claims stay those of pages that their environments own.
use Rattle.std.proofs.Common.{◌≡◌, ◌≢◌, ℕ, ◌+◌, ◌-◌, ◌<◌, List, [], ◌∷◌, ◌++◌, length, map, Bool, true, false, Option, refl, sym, ◌∙◌, ap, inl, inr, rules}
use Rattle.std.specs.Prelude.{◌==◌, not, filter, slice_set}
use Rattle.std.specs.List.{list_all}
use Rattle.std.proofs.lemmas.Bool.{and_from, and_parts, cases_Bool, eq-eqb, eqb-false, eqb-true, ne_eqb, not-true}
use Rattle.filter_tree.specs.ClaimBook.{ClaimBook, ClaimValue, RowValue, is_of_env}
use Rattle.filter_tree.specs.Claims as book
use Rattle.filter_tree.specs.Claims.{delivered, downloaded, is_into, without}
use Rattle.page_book.specs.declared.row.Capabilities.{Capabilities}
use Rattle.page_book.specs.declared.row.PageRow.{PageRow}
use Rattle.page_book.specs.declared.row.PageRow.TheVariants.{Free, Owned}
use Rattle.page_book.specs.Row.{is_owned_by, released}
use Rattle.page_book.specs.Rows.{row_in}
use Rattle.page_book.proofs.Owners.{same_owner}
use Rattle.world_model.specs.declared.life.Cause.{Cause}
use Rattle.board_model.specs.declared.roster.Environment.{Environment}
use Rattle.board_model.specs.Shown.{Environments, with_record, with_list}
use Rattle.board_model.specs.Sound.{AreClaimed, has_own_page}
use Rattle.board_model.specs.Doing.{dead_frame}
use Rattle.board_model.proofs.Booked.{by_page}
use Rattle.board_model.proofs.Lists.{length-changed}
use Rattle.board_model.proofs.Tables.{row_released}

-- the pages of all claims are their environments' own
abbrev are_own : List PageRow → List RowValue → Bool
are_own pages rows = list_all (λ (x : RowValue). has_own_page pages x.claim) rows

-- the claims that are left have it by other pages, if each of them had
still_own : (pages rows_now : List PageRow) (keep : RowValue → Bool) → ((x : RowValue) → keep x ≡ true → has_own_page pages x.claim ≡ true → has_own_page rows_now x.claim ≡ true)
    → (rows : List RowValue) → are_own pages rows ≡ true → are_own rows_now (filter keep rows) ≡ true
still_own pages rows_now keep stays [] all = refl
still_own pages rows_now keep stays (x ∷ rows) all =
    let parts = and_parts (has_own_page pages x.claim) (are_own pages rows) all in
    elim (cases_Bool (keep x)) [
      | inl is ↦ rw is (and_from (has_own_page rows_now x.claim) (are_own rows_now (filter keep rows)) (stays x is parts.0) (still_own pages rows_now keep stays rows parts.1))
      | inr goes ↦ rw goes (still_own pages rows_now keep stays rows parts.1)
    ]

each_own : (pages rows_now : List PageRow) → ((c : ClaimValue) → has_own_page pages c ≡ true → has_own_page rows_now c ≡ true) → (rows : List RowValue) → are_own pages rows ≡ true → are_own rows_now rows ≡ true
each_own pages rows_now stays [] all = refl
each_own pages rows_now stays (x ∷ rows) all =
    let parts = and_parts (has_own_page pages x.claim) (are_own pages rows) all in
    and_from (has_own_page rows_now x.claim) (are_own rows_now rows) (stays x.claim parts.0) (each_own pages rows_now stays rows parts.1)

-- a change of an environment that keeps how many there are
pub keep_claimed : (f : Environment → Environment) (claims : ClaimBook) (pages : List PageRow) (r : Environments) (e : ℕ) → AreClaimed claims pages r → AreClaimed claims pages (with_list r (with_record f r.list e))
keep_claimed f claims pages r e are = record { owned = are.owned; count = are.count ∙ ap (λ n. n + r.spare) (sym (length-changed f r.list e)) }

-- a page that is free comes to be owned
pub allocated_claimed : (claims : ClaimBook) (pages : List PageRow) (r : Environments) (page e : ℕ) (words : Capabilities) → page < length pages → row_in pages page ≡ Free → AreClaimed claims pages r → AreClaimed claims (slice_set pages page (Owned e words)) r
allocated_claimed claims pages r page e words within free are = record {
  owned = each_own pages (slice_set pages page (Owned e words)) (λ c own.
      by_page (λ row. is_owned_by c.env row ≡ true) pages page c.page (Owned e words) within
      (λ same. let none : true ≡ false = sym own ∙ ap (λ (p : ℕ). is_owned_by c.env (row_in pages p)) same ∙ ap (is_owned_by c.env) free in cc)
      (λ other. own)) claims.rows are.owned;
  count = are.count;
}

-- a page gets other words
pub recapped_claimed : (claims : ClaimBook) (pages : List PageRow) (r : Environments) (page e : ℕ) (words : Capabilities) → page < length pages → is_owned_by e (row_in pages page) ≡ true → AreClaimed claims pages r → AreClaimed claims (slice_set pages page (Owned e words)) r
recapped_claimed claims pages r page e words within owned are = search (rules, each_own, by_page, eq-eqb, same_owner)

-- a page is freed, and is no ring any more
pub freed_claimed : (claims : ClaimBook) (pages : List PageRow) (r : Environments) (page : ℕ) → page < length pages → AreClaimed claims pages r → AreClaimed (without (is_into page) claims) (slice_set pages page Free) r
freed_claimed claims pages r page within are = record {
  owned = still_own pages (slice_set pages page Free) (λ (x : RowValue). not (is_into page x.claim)) (λ x keeps own.
      by_page (λ row. is_owned_by x.claim.env row ≡ true) pages page x.claim.page Free within
      (λ same. absurd (eqb-false x.claim.page page (not-true (x.claim.page == page) keeps) same))
      (λ other. own)) claims.rows are.owned;
  count = are.count;
}

-- claims are withdrawn
pub withdrawn_claimed : (gone : ClaimValue → Bool) (claims : ClaimBook) (pages : List PageRow) (r : Environments) → AreClaimed claims pages r → AreClaimed (without gone claims) pages r
withdrawn_claimed gone claims pages r are = record { owned = still_own pages pages (λ (x : RowValue). not (gone x.claim)) (λ x keeps own. own) claims.rows are.owned; count = are.count }

-- where rows keep their claims, so do the pages
same_own : (pages : List PageRow) (f : RowValue → RowValue) → ((x : RowValue) → (f x).claim ≡ x.claim) → (rows : List RowValue) → are_own pages rows ≡ true → are_own pages (map f rows) ≡ true
same_own pages f same [] all = refl
same_own pages f same (x ∷ rows) all =
    let parts = and_parts (has_own_page pages x.claim) (are_own pages rows) all in
    and_from (has_own_page pages (f x).claim) (are_own pages (map f rows)) (ap (has_own_page pages) (same x) ∙ parts.0) (same_own pages f same rows parts.1)

-- the buffers of a claim take turns
pub delivered_claimed : (claims : ClaimBook) (pages : List PageRow) (r : Environments) (id : ℕ) → AreClaimed claims pages r → AreClaimed (delivered id claims) pages r
delivered_claimed claims pages r id are = record { owned = same_own pages (book.row_after_packet_if id) same claims.rows are.owned; count = are.count }
  where
    same : (x : RowValue) → (book.row_after_packet_if id x).claim ≡ x.claim
    same x = search rules

-- a claim has another handler, or none
pub downloaded_claimed : (claims : ClaimBook) (pages : List PageRow) (r : Environments) (id : ℕ) (handler : Option (List ℕ)) → AreClaimed claims pages r → AreClaimed (downloaded id handler claims) pages r
downloaded_claimed claims pages r id handler are = record { owned = same_own pages (book.row_with_handler_if id handler) same claims.rows are.owned; count = are.count }
  where
    same : (x : RowValue) → (book.row_with_handler_if id handler x).claim ≡ x.claim
    same x = search rules

-- who owns a page still does once another is gone
pub released_else : (row : PageRow) (i e : ℕ) → i ≢ e → is_owned_by i row ≡ true → is_owned_by i (released e row) ≡ true
released_else row i e ne own = search (rules, ne_eqb, eqb-true)

-- an environment dies
pub death_claimed : (cause : Cause) (claims : ClaimBook) (pages : List PageRow) (r : Environments) (e : ℕ) → AreClaimed claims pages r → AreClaimed (without (is_of_env e) claims) (map (released e) pages) (with_list r (with_record (dead_frame cause) r.list e))
death_claimed cause claims pages r e are = record {
  owned = still_own pages (map (released e) pages) (λ (x : RowValue). not (is_of_env e x.claim)) (λ x keeps own.
      ap (is_owned_by x.claim.env) (row_released e pages x.claim.page) ∙ released_else (row_in pages x.claim.page) x.claim.env e (eqb-false x.claim.env e (not-true (x.claim.env == e) keeps)) own) claims.rows are.owned;
  count = are.count ∙ ap (λ n. n + r.spare) (sym (length-changed (dead_frame cause) r.list e));
}

-- pages that are free are given
pub given_claimed : (claims : ClaimBook) (pages given : List PageRow) (r : Environments) → ((p : ℕ) → row_in pages p ≢ Free → row_in given p ≡ row_in pages p) → (x : Environment) → length (r.list ++ x ∷ []) + (r.spare - 1) ≡ length r.list + r.spare
    → AreClaimed claims pages r → AreClaimed claims given (record { list = r.list ++ x ∷ []; spare = r.spare - 1 })
given_claimed claims pages given r stays x count are = record {
  owned = each_own pages given (λ c own. ap (is_owned_by c.env) (stays c.page (λ free. let none : true ≡ false = sym own ∙ ap (is_owned_by c.env) free in cc)) ∙ own) claims.rows are.owned;
  count = are.count ∙ sym count;
}
