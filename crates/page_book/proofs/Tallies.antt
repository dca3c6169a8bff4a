-- What is kept beside the rows stays so where one row changes.
use Rattle.std.proofs.Common.{arith, zero, suc, ◌≡◌, ℕ, ◌+◌, ◌<◌, ◌≤◌, Bool, true, false, ◌&&◌, ◌==◌, cond, nat_lt, List, length, replicate, slice_index_or, slice_set, get_or-set_same, get_or-set_other, refl, sym, ap, ◌∙◌, inl, inr}
use Rattle.std.proofs.Math.ListN.{length-set}
use Rattle.std.proofs.lemmas.Bool.{cases_eq, eq-eqb, ne_eqb, lt-ltb}
use Rattle.std.proofs.lemmas.List.{length-replicate}
use Rattle.aegis_limits.specs.Limits.{environment_numbers, least_pages, most_pages}
use Rattle.page_book.specs.declared.row.PageRow.{PageRow}
use Rattle.page_book.specs.declared.row.PageRow.TheVariants.{Free}
use Rattle.page_book.specs.PageSet.{mark, one_if}
use Rattle.page_book.specs.Row.{is_free, is_owned_by}
use Rattle.page_book.specs.Rows.{row_in, free_below, owned_below}
use Rattle.page_book.specs.Tallies.{Gains, IsTallied}
use Rattle.page_book.proofs.Counts.{at_least, at_most, free_how_many, owned_how_many, row_changed}

module _ (rows : List PageRow) (free : List ℕ) (count : ℕ) (owned : List ℕ) (tallied : IsTallied rows free count owned) (page : ℕ) (there : page < length rows) where
  -- there are no more free pages than pages, and no fewer than one of them
  pub free_most : count ≤ most_pages
  free_most = omega (arith, tallied.free_are, tallied.most, free_how_many (row_in rows) (length rows), at_most is_free (row_in rows) (length rows))

  pub free_least : one_if (is_free (row_in rows page)) ≤ count
  free_least = omega (arith, tallied.free_are, free_how_many (row_in rows) (length rows), at_least is_free (row_in rows) page (length rows) there)

  -- nor owned ones
  pub owned_most : (e : ℕ) → e < environment_numbers → slice_index_or owned e 0 ≤ most_pages
  owned_most e below = omega (arith, tallied.owned_are e below, tallied.most, owned_how_many e (row_in rows) (length rows), at_most (is_owned_by e) (row_in rows) (length rows))

  pub owned_least : (e : ℕ) → e < environment_numbers → one_if (is_owned_by e (row_in rows page)) ≤ slice_index_or owned e 0
  owned_least e below = omega (arith, tallied.owned_are e below, owned_how_many e (row_in rows) (length rows), at_least (is_owned_by e) (row_in rows) page (length rows) there)

  -- a page is marked by its new row, and the others by theirs
  remarked : (row : PageRow) (k : ℕ) → k < most_pages → cond (k == page) (one_if (is_free row)) (mark free k) ≡ one_if (nat_lt k (length rows) && is_free (row_in (slice_set rows page row) k))
  remarked row k below =
      elim (cases_eq k page) [
        | inl same ↦ rw (same, eq-eqb page page refl, lt-ltb page (length rows) there, get_or-set_same rows page row Free there) refl
        | inr other ↦ rw (ne_eqb k page other, get_or-set_other rows page k row Free other) (tallied.marks k below)
      ]

  pub retallied : (row : PageRow) (marked : List ℕ) (counted : ℕ) (lost gained : List ℕ) → ((k : ℕ) → mark marked k ≡ cond (k == page) (one_if (is_free row)) (mark free k))
      → counted + one_if (is_free (row_in rows page)) ≡ count + one_if (is_free row)
      → Gains (row_in rows page) lost owned
      → Gains row lost gained
      → IsTallied (slice_set rows page row) marked counted gained
  retallied row marked counted lost gained marks counts loses gains = record {
    least = rw length-set tallied.least;
    most = rw length-set tallied.most;
    marks = λ k below. marks k ∙ rw length-set (remarked row k below);
    free_are = rw length-set (omega (arith, counts, tallied.free_are, row_changed is_free rows page row there, free_how_many (row_in rows) (length rows), free_how_many (row_in (slice_set rows page row)) (length rows)));
    owned_are = λ e below. rw length-set (omega (arith, loses e below, gains e below, tallied.owned_are e below, row_changed (is_owned_by e) rows page row there, owned_how_many e (row_in rows) (length rows), owned_how_many e (row_in (slice_set rows page row)) (length rows)));
  }

-- where every page is free
free_row : (count k : ℕ) → row_in (replicate count Free) k ≡ Free
free_row zero k = refl
free_row (suc count) zero = refl
free_row (suc count) (suc k) = free_row count k

both_true : (is : Bool) → is ≡ (is && true)
both_true true = refl
both_true false = refl

all_free : (rows : ℕ → PageRow) (count : ℕ) → ((k : ℕ) → rows k ≡ Free) → free_below rows count ≡ count
all_free rows zero free = refl
all_free rows (suc page) free = rw (all_free rows page free, free page) refl

none_owned : (e : ℕ) (rows : ℕ → PageRow) (count : ℕ) → ((k : ℕ) → rows k ≡ Free) → owned_below e rows count ≡ 0
none_owned e rows zero free = refl
none_owned e rows (suc page) free = rw (none_owned e rows page free, free page) refl

no_count : (count e : ℕ) → ◌≡◌ {A = ℕ} (slice_index_or (replicate count 0) e 0) 0
no_count zero e = refl
no_count (suc count) zero = refl
no_count (suc count) (suc e) = no_count count e

pub tallied_free : (count : ℕ) (free : List ℕ) → least_pages ≤ count → count ≤ most_pages → ((k : ℕ) → mark free k ≡ one_if (nat_lt k count)) → IsTallied (replicate count Free) free count (replicate environment_numbers 0)
tallied_free count free least most marks =
    let long = length-replicate count Free in
    record {
      least = rw long least;
      most = rw long most;
      marks = λ k below. marks k ∙ rw (long, free_row count k) (ap one_if (both_true (nat_lt k count)));
      free_are = rw long (sym (all_free (row_in (replicate count Free)) count (free_row count)));
      owned_are = λ e below. no_count environment_numbers e ∙ rw long (sym (none_owned e (row_in (replicate count Free)) count (free_row count)));
    }
