-- How many pages have rows of a kind, and how many have once a row changes.
use Rattle.std.proofs.Common.{arith, ◌≡◌, ◌≢◌, ℕ, zero, suc, ◌+◌, ◌<◌, ◌≤◌, Bool, true, false, cond, List, length, slice_set, get_or-set_same, get_or-set_other, refl, sym, inl, inr}
use Rattle.std.proofs.lemmas.Bool.{cases_eq}
use Rattle.page_book.specs.declared.row.PageRow.{PageRow}
use Rattle.page_book.specs.declared.row.PageRow.TheVariants.{Free}
use Rattle.page_book.specs.PageSet.{one_if}
use Rattle.page_book.specs.Row.{is_free, is_owned_by}
use Rattle.page_book.specs.Rows.{row_in, free_below, owned_below}

-- how many of the pages below a count have a row of a kind
abbrev pub how_many : (PageRow → Bool) → (ℕ → PageRow) → ℕ → ℕ
how_many kind rows zero = 0
how_many kind rows (suc page) = how_many kind rows page + one_if (kind (rows page))

one_more : (is : Bool) (n m : ℕ) → n ≡ m → cond is (suc n) n ≡ m + one_if is
one_more true n m same = omega (arith, same)
one_more false n m same = omega (arith, same)

pub free_how_many : (rows : ℕ → PageRow) (count : ℕ) → free_below rows count ≡ how_many is_free rows count
free_how_many rows zero = refl
free_how_many rows (suc page) = one_more (is_free (rows page)) (free_below rows page) (how_many is_free rows page) (free_how_many rows page)

pub owned_how_many : (e : ℕ) (rows : ℕ → PageRow) (count : ℕ) → owned_below e rows count ≡ how_many (is_owned_by e) rows count
owned_how_many e rows zero = refl
owned_how_many e rows (suc page) = one_more (is_owned_by e (rows page)) (owned_below e rows page) (how_many (is_owned_by e) rows page) (owned_how_many e rows page)

pub one_most : (is : Bool) → one_if is ≤ 1
one_most true = omega arith
one_most false = omega arith

-- no more than there are
pub at_most : (kind : PageRow → Bool) (rows : ℕ → PageRow) (count : ℕ) → how_many kind rows count ≤ count
at_most kind rows zero = omega arith
at_most kind rows (suc page) = omega (arith, at_most kind rows page, one_most (kind (rows page)))

-- and no fewer than one of them
pub at_least : (kind : PageRow → Bool) (rows : ℕ → PageRow) (page count : ℕ) → page < count → one_if (kind (rows page)) ≤ how_many kind rows count
at_least kind rows page zero below = absurd (omega arith)
at_least kind rows page (suc count) below =
    elim (cases_eq page count) [
      | inl same ↦ rw same (omega arith)
      | inr other ↦ omega (arith, at_least kind rows page count (omega (arith, other)))
    ]

-- rows that are alike are counted alike
alike : (kind : PageRow → Bool) (rows other : ℕ → PageRow) (count : ℕ) → ((k : ℕ) → k < count → other k ≡ rows k) → how_many kind other count ≡ how_many kind rows count
alike kind rows other zero same = refl
alike kind rows other (suc page) same = rw (alike kind rows other page (λ k below. same k (omega arith)), same page (omega arith)) refl

-- one row changes
pub one_changed : (kind : PageRow → Bool) (rows other : ℕ → PageRow) (page count : ℕ) → page < count → ((k : ℕ) → k ≢ page → other k ≡ rows k) → how_many kind other count + one_if (kind (rows page)) ≡ how_many kind rows count + one_if (kind (other page))
one_changed kind rows other page zero below same = absurd (omega arith)
one_changed kind rows other page (suc count) below same =
    elim (cases_eq page count) [
      | inl last ↦ rw (← last, alike kind rows other page (λ k under. let apart : k ≢ page = omega arith in same k apart)) (omega arith)
      | inr more ↦
          let before = one_changed kind rows other page count (omega (arith, more)) same in
          let apart : count ≢ page = λ e. more (sym e) in
          rw (same count apart) (omega (arith, before))
    ]

-- one row of a list
pub row_changed : (kind : PageRow → Bool) (rows : List PageRow) (page : ℕ) (row : PageRow) → page < length rows
    → how_many kind (row_in (slice_set rows page row)) (length rows) + one_if (kind (row_in rows page)) ≡ how_many kind (row_in rows) (length rows) + one_if (kind row)
row_changed kind rows page row there =
    rw (get_or-set_same rows page row Free there) at
    (one_changed kind (row_in rows) (row_in (slice_set rows page row)) page (length rows) there (λ k apart. get_or-set_other rows page k row Free apart))
