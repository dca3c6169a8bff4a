-- None of the rows so far is of the page.
use Rattle.std.proofs.Common.{◌≡◌, ℕ, ◌<◌, false}
use Rattle.bind_book.specs.Stripe.{is_of_page, stripes}
use Rattle.feed_board.proofs.pages.has_bound.Given as goal

abbrev pub invariant-loop-row : goal.invariant-loop-row
invariant-loop-row l = (k : ℕ) → k < l.row → is_of_page l.page (stripes l.bindings l.env k) ≡ false
