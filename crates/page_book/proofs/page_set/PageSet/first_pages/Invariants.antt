-- The pages so far are in the set.
use Rattle.std.proofs.Common.{◌≡◌, ℕ, nat_lt}
use Rattle.page_book.specs.PageSet.{mark, one_if}
use Rattle.page_book.proofs.page_set.PageSet.first_pages.Given as goal

abbrev pub invariant-loop-page : goal.invariant-loop-page
invariant-loop-page l = (k : ℕ) → mark l.set k ≡ one_if (nat_lt k l.page)
