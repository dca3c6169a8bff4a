-- The lowest free page is there, and one page fewer is free then.
use Rattle.std.proofs.Common.{arith, ◌≡◌, length, Some, None}
use Rattle.page_book.specs.Rows.{row_in, first_free}
use Rattle.page_book.proofs.Free.{is_lowest, none_left, one_less}
use Rattle.page_book.proofs.pages.Pages.give.Goals as goal

pub returns-in_default-clause-sure : goal.returns-in_default-clause-sure
returns-in_default-clause-sure c = λ some.
    let none : first_free c.args.self.now ≡ None = cc c.in_default.ensures in
    absurd (omega (arith, none_left c.args.self.now none, some))

pub set-requires : goal.set-requires
set-requires c =
    let found : first_free c.args.self.now ≡ Some c.in-Some.page = cc c.in-Some.ensures in
    (is_lowest (row_in c.args.self.now) (length c.args.self.now) c.in-Some.page found).below

pub returns-clause-was_free : goal.returns-clause-was_free
returns-clause-was_free c =
    let found : first_free c.args.self.now ≡ Some c.in-Some.page = cc c.in-Some.ensures in
    let lowest = is_lowest (row_in c.args.self.now) (length c.args.self.now) c.in-Some.page found in
    (lowest.below, lowest.free)

pub returns-clause-left : goal.returns-clause-left
returns-clause-left c =
    let found : first_free c.args.self.now ≡ Some c.in-Some.page = cc c.in-Some.ensures in
    rw c.set.ensures (one_less c.args.self.now c.in-Some.page c.args.row found c.requires)
