-- No binding in the rows so far is of a page that is seen, and for writing.
use Rattle.std.proofs.Common.{◌≡◌, ◌<◌, ℕ, true, false, Some}
use Rattle.bind_book.specs.declared.binding.Binding.{Binding}
use Rattle.bind_book.specs.Stripe.{stripes}
use Rattle.world_model.specs.Book.{sees}
use Rattle.board_model.specs.Showing.{world_of}
use Rattle.feed_run.proofs.reach.is_out_of_reach.Given as goal

abbrev pub invariant-loop-row : goal.invariant-loop-row
invariant-loop-row l =
    (k : ℕ) (x : Binding) → k < l.row → stripes l.bindings l.writer k ≡ Some x → x.writable ≡ true
    → sees (world_of l.board).book l.env x.page ≡ false
