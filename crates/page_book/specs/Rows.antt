-- The pages by number.
use Rattle.std.specs.Prelude.{ℕ, zero, suc, ◌≡◌, ◌<◌, false, List, length, if◌then◌else◌, Option, Some, None, slice_index_or, slice_set}
use Rattle.std.specs.Option.{option_or}
use Rattle.page_book.specs.declared.row.PageRow.{PageRow}
use Rattle.page_book.specs.declared.row.PageRow.TheVariants.{Free}
use Rattle.page_book.specs.declared.refusal.PageNo.{PageNo}
use Rattle.page_book.specs.Row.{is_free, is_owned_by}

-- the row of a page number; behind the last one it is a free page's
abbrev pub row_in : List PageRow → ℕ → PageRow
row_in rows page = slice_index_or rows page Free

abbrev pub if_free : PageRow → ℕ → Option ℕ
if_free row page = if is_free row then Some page else None

-- of the pages below count, the lowest free one
abbrev pub lowest_free : (ℕ → PageRow) → ℕ → Option ℕ
lowest_free rows zero = None
lowest_free rows (suc page) = option_or (lowest_free rows page) (if_free (rows page) page)

-- how many of the pages below count are free
abbrev pub free_below : (ℕ → PageRow) → ℕ → ℕ
free_below rows zero = zero
free_below rows (suc page) = if is_free (rows page) then suc (free_below rows page) else free_below rows page

-- how many of the pages below count an environment owns, without its guaranteed ones
abbrev pub owned_below : ℕ → (ℕ → PageRow) → ℕ → ℕ
owned_below e rows zero = zero
owned_below e rows (suc page) =
    if is_owned_by e (rows page) then suc (owned_below e rows page) else owned_below e rows page

-- the lowest free page of all
abbrev pub first_free : List PageRow → Option ℕ
first_free rows = lowest_free (row_in rows) (length rows)

abbrev pub free_pages : List PageRow → ℕ
free_pages rows = free_below (row_in rows) (length rows)

abbrev pub owned_pages : List PageRow → ℕ → ℕ
owned_pages rows e = owned_below e (row_in rows) (length rows)

-- the pages once one of them, if there is one, has this row
abbrev pub given : List PageRow → Option ℕ → PageRow → List PageRow
given rows None row = rows
given rows (Some page) row = slice_set rows page row

-- the pages once the one of this number has this row, unless the call is refused
abbrev pub changed_unless : Option PageNo → List PageRow → ℕ → PageRow → List PageRow
changed_unless None rows page row = slice_set rows page row
changed_unless (Some why) rows page row = rows

-- the page is free, and of those below the count the lowest
pub record IsLowest (rows : ℕ → PageRow) (count page : ℕ) : Type 0 where
  pub below : page < count
  pub free : rows page ≡ Free
  pub lowest : (k : ℕ) → k < page → is_free (rows k) ≡ false

-- what the lowest free page of those below the count is, without a search; there is none where none of them is free
abbrev pub IsLowestFree : (ℕ → PageRow) → ℕ → Option ℕ → Type 0
IsLowestFree rows count None = (k : ℕ) → k < count → is_free (rows k) ≡ false
IsLowestFree rows count (Some page) = IsLowest rows count page
