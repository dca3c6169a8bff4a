-- The lowest page that is marked.
use Rattle.page_book.proofs.Free.{marked_first}
use Rattle.page_book.proofs.pages.Pages.lowest_free.Goals as goal

pub returns : goal.returns
returns c = rw (← c.self.view_is) (marked_first c.self.inside.rows.items _ c.first.result c.self.invariant.most c.self.invariant.marks c.first.ensures)
