-- A mark is turned, and with the first or the last of its word that of the word.
use Rattle.std.proofs.Common.{arith, ◌<◌, ◌/◌, length, rules}
use Rattle.page_book.proofs.Marks.{filled_turned, mark_turned}
use Rattle.page_book.proofs.page_set.PageSet.toggle.Goals as goal

pub invariant_of-self : goal.invariant_of-self
invariant_of-self c =
    let there : c.args.page / 64 < length c.self.inside.words = omega (arith, c.self.told, c.requires) in
    filled_turned c.self.inside.filled c.self.inside.words (c.args.page / 64) _ there (omega arith) c.self.invariant (search rules)

pub returns-then-old-new : goal.returns-then-old-new
returns-then-old-new c = λ k. rw (← c.self.view_is) (mark_turned c.self.inside.words c.args.page k (omega (arith, c.self.told, c.requires)))

pub returns-else-old-new : goal.returns-else-old-new
returns-else-old-new c = λ k. rw (← c.self.view_is) (mark_turned c.self.inside.words c.args.page k (omega (arith, c.self.told, c.requires)))
