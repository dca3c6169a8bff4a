-- The lowest page of the lowest word that has one.
use Rattle.std.proofs.Common.{arith, refl, rules}
use Rattle.page_book.proofs.Marks.{least_mark}
use Rattle.page_book.proofs.page_set.PageSet.first.Goals as goal

pub returns : goal.returns
returns c = rw (← c.self.view_is) (least_mark c.self.inside.filled c.self.inside.words _ _ c.self.invariant (omega (arith, c.if-self-eq0.false)) (search rules) (search rules) refl refl)
