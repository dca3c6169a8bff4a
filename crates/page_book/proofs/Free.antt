-- The lowest free page, and how many pages are free.
use Rattle.std.proofs.Common.{arith, nat_lt, ◌≤◌, ◌&&◌, refl, ap, sym, ◌∙◌, inl, inr, ◌≡◌, ◌≢◌, ◌<◌, ◌+◌, ℕ, zero, suc, Bool, true, false, cond, List, length, Option, None, Some, is_some, slice_set, get_or-set_same, get_or-set_other}
use Rattle.std.specs.Option.{option_or}
use Rattle.std.proofs.Math.ListN.{length-set}
use Rattle.std.proofs.lemmas.Bool.{cases_eq, lt-ltb, ltb-true}
use Rattle.aegis_limits.specs.Limits.{most_pages}
use Rattle.page_book.specs.PageSet.{IsLeast, mark, one_if}
use Rattle.page_book.specs.Tallies.{is_free_page}
use Rattle.page_book.specs.declared.row.PageRow.{PageRow}
use Rattle.page_book.specs.declared.row.PageRow.TheVariants.{Free, Guaranteed, Owned}
use Rattle.page_book.specs.Row.{is_free}
use Rattle.page_book.proofs.Counts.{at_least, free_how_many, one_changed}
use Rattle.page_book.specs.Rows.{row_in, lowest_free, free_below, first_free, free_pages, IsLowest, IsLowestFree}

pub free_is : (row : PageRow) → is_free row ≡ true → row ≡ Free
free_is Free free = refl
free_is (Guaranteed owner) free = cc
free_is (Owned owner words) free = cc

-- the first free page that is found is the lowest of all
pub found_first : (rows : ℕ → PageRow) (page count : ℕ) → lowest_free rows page ≡ None → is_free (rows page) ≡ true → page < count → lowest_free rows count ≡ Some page
found_first rows page zero none free below = absurd (omega arith)
found_first rows page (suc count) none free below =
    elim (cases_eq page count) [
      | inl same ↦ rw (← same, none, free) refl
      | inr other ↦ rw (found_first rows page count none free (omega (arith, other))) refl
    ]

lowest_more : (rows : ℕ → PageRow) (count : ℕ) (so_far : Option ℕ) (free : Bool) → is_free (rows count) ≡ free → IsLowestFree rows count so_far → IsLowestFree rows (suc count) (option_or so_far (cond free (Some count) None))
lowest_more rows count None false is none = λ k below.
    elim (cases_eq k count) [ inl same ↦ rw same is | inr other ↦ none k (omega (arith, other)) ]
lowest_more rows count None true is none = record { below = omega arith; free = free_is (rows count) is; lowest = none }
lowest_more rows count (Some page) free is found = record { below = omega (arith, found.below); free = found.free; lowest = found.lowest }

pub is_lowest_free : (rows : ℕ → PageRow) (count : ℕ) → IsLowestFree rows count (lowest_free rows count)
is_lowest_free rows zero = λ k below. absurd (omega arith)
is_lowest_free rows (suc count) = lowest_more rows count (lowest_free rows count) (is_free (rows count)) refl (is_lowest_free rows count)

pub is_lowest : (rows : ℕ → PageRow) (count page : ℕ) → lowest_free rows count ≡ Some page → IsLowest rows count page
is_lowest rows count page found = rw found at (is_lowest_free rows count)

-- one page fewer is free once a free one isn't any more
pub counted_less : (rows other : ℕ → PageRow) (page count : ℕ) → page < count → is_free (rows page) ≡ true → is_free (other page) ≡ false → ((k : ℕ) → k ≢ page → other k ≡ rows k) → free_below rows count ≡ free_below other count + 1
counted_less rows other page count below free kept same =
    omega (arith, rw (free, kept) at (one_changed is_free rows other page count below same), free_how_many rows count, free_how_many other count)

none_below : (rows : ℕ → PageRow) (count : ℕ) → ((k : ℕ) → k < count → is_free (rows k) ≡ false) → free_below rows count ≡ 0
none_below rows zero none = refl
none_below rows (suc count) none = rw (none count (omega arith)) (none_below rows count (λ k below. none k (omega arith)))

counted : (rows : ℕ → PageRow) (page count : ℕ) → page < count → is_free (rows page) ≡ true → 0 < free_below rows count
counted rows page count below free = omega (arith, rw free at (at_least is_free rows page count below), free_how_many rows count)

none_counts : (rows : ℕ → PageRow) (count : ℕ) (found : Option ℕ) → IsLowestFree rows count found → is_some found ≡ false → free_below rows count ≡ 0
none_counts rows count None none is = none_below rows count none
none_counts rows count (Some page) lowest is = cc

none_counted : (rows : ℕ → PageRow) (count : ℕ) (found : Option ℕ) → IsLowestFree rows count found → free_below rows count ≡ 0 → is_some found ≡ false
none_counted rows count None none uncounted = refl
none_counted rows count (Some page) lowest uncounted =
    let some = counted rows page count lowest.below (ap is_free lowest.free) in
    absurd (omega (arith, some, uncounted))

-- no page is the lowest free one exactly where none is counted as free
pub none_free : (rows : ℕ → PageRow) (count : ℕ) → (is_some (lowest_free rows count) ≡ false → free_below rows count ≡ 0) × (free_below rows count ≡ 0 → is_some (lowest_free rows count) ≡ false)
none_free rows count = (
  none_counts rows count (lowest_free rows count) (is_lowest_free rows count),
  none_counted rows count (lowest_free rows count) (is_lowest_free rows count),
)

pub none_left : (rows : List PageRow) → first_free rows ≡ None → free_pages rows ≡ 0
none_left rows none = (none_free (row_in rows) (length rows)).0 (ap is_some none)

-- what a page that was free is given leaves one free page fewer
pub one_less : (rows : List PageRow) (page : ℕ) (row : PageRow) → first_free rows ≡ Some page → is_free row ≡ false → free_pages rows ≡ free_pages (slice_set rows page row) + 1
one_less rows page row found kept =
    let lowest = is_lowest (row_in rows) (length rows) page found in
    rw (length-set rows page row) (counted_less (row_in rows) (row_in (slice_set rows page row)) page (length rows) lowest.below (ap is_free lowest.free)
    (ap is_free (get_or-set_same rows page row Free lowest.below) ∙ kept)
    (λ k apart. get_or-set_other rows page k row Free apart))

none_found : (rows : ℕ → PageRow) (count : ℕ) → ((k : ℕ) → k < count → is_free (rows k) ≡ false) → lowest_free rows count ≡ None
none_found rows zero none = refl
none_found rows (suc page) none = rw (none_found rows page (λ k below. none k (omega arith)), none page (omega arith)) refl

not_marked : (below free : Bool) → one_if (below && free) ≡ 0 → below ≡ true → free ≡ false
not_marked true true is there = cc
not_marked true false is there = refl
not_marked false free is there = cc

both_marked : (below free : Bool) → 1 ≡ one_if (below && free) → (below ≡ true) × (free ≡ true)
both_marked true true is = (refl, refl)
both_marked true false is = cc
both_marked false free is = cc

-- the lowest page that is marked as free is the lowest free one
pub marked_first : (rows : List PageRow) (words : List ℕ) (found : Option ℕ) → length rows ≤ most_pages → ((page : ℕ) → page < most_pages → mark words page ≡ one_if (is_free_page rows page))
    → IsLeast words found → found ≡ first_free rows
marked_first rows words None most marks least =
    sym (none_found (row_in rows) (length rows) (λ k below.
    let within : k < most_pages = omega arith in
    not_marked (nat_lt k (length rows)) (is_free (row_in rows k)) (sym (marks k within) ∙ least k within) (lt-ltb k (length rows) below)))
marked_first rows words (Some page) most marks least =
    let parts = both_marked (nat_lt page (length rows)) (is_free (row_in rows page)) (sym least.marked ∙ marks page least.below) in
    let there : page < length rows = ltb-true page (length rows) parts.0 in
    sym (found_first (row_in rows) page (length rows)
    (none_found (row_in rows) page (λ k below.
    let within : k < most_pages = omega (arith, most, there) in
    not_marked (nat_lt k (length rows)) (is_free (row_in rows k)) (sym (marks k within) ∙ least.least k below) (lt-ltb k (length rows) (omega arith))))
    parts.1 there)
