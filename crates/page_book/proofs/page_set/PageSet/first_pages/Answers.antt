-- At first no page is in the set.
use Rattle.std.proofs.Common.{◌∙◌, sym}
use Rattle.page_book.proofs.Marks.{none_below, none_filled, none_marked}
use Rattle.page_book.proofs.page_set.PageSet.first_pages.Goals as goal

pub invariant_of-set : goal.invariant_of-set
invariant_of-set c = none_filled 64

pub loop-page-init : goal.loop-page-init
loop-page-init c = λ k. none_marked 64 k ∙ sym (none_below k)
