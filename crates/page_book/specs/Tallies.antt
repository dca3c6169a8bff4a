-- What the book keeps beside the rows.
use Rattle.std.specs.Prelude.{◌≡◌, ◌<◌, ◌≤◌, ◌+◌, ℕ, Bool, ◌&&◌, nat_lt, List, length, slice_index_or}
use Rattle.aegis_limits.specs.Limits.{environment_numbers, least_pages, most_pages}
use Rattle.page_book.specs.declared.row.PageRow.{PageRow}
use Rattle.page_book.specs.PageSet.{mark, one_if}
use Rattle.page_book.specs.Row.{is_free, is_owned_by}
use Rattle.page_book.specs.Rows.{row_in, free_pages, owned_pages}

-- whether there is a page of this number that is free
abbrev pub is_free_page : List PageRow → ℕ → Bool
is_free_page rows page = nat_lt page (length rows) && is_free (row_in rows page)

-- the counts by environment once a page has this row, and with it maybe an owner
abbrev pub Gains : PageRow → List ℕ → List ℕ → Type 0
Gains row before after =
    (e : ℕ) → e < environment_numbers
    → slice_index_or after e 0 ≡ slice_index_or before e 0 + one_if (is_owned_by e row)

-- there are as many pages as may be; the set has the free ones, the count is theirs, and the counts by environment are
-- those of the pages that it owns
pub record IsTallied (rows : List PageRow) (free : List ℕ) (free_count : ℕ) (owned : List ℕ) : Type 0 where
  pub least : least_pages ≤ length rows
  pub most : length rows ≤ most_pages
  pub marks : (page : ℕ) → page < most_pages → mark free page ≡ one_if (is_free_page rows page)
  pub free_are : free_count ≡ free_pages rows
  pub owned_are : (e : ℕ) → e < environment_numbers → slice_index_or owned e 0 ≡ owned_pages rows e
