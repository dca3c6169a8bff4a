use Rattle.std.proofs.Common.{ap, sym, ◌∙◌}
use Rattle.std.specs.List.{list_any}
use Rattle.filter_tree.specs.ClaimBook.{ClaimBook, RowValue}
use Rattle.filter_tree.specs.Claims.{is_into}
use Rattle.filter_tree.proofs.Room.{same_without}
use Rattle.filter_tree.proofs.claims.Claims.drop_page.Goals as goal

pub returns-then-not-has_into : goal.returns-then-not-has_into
returns-then-not-has_into c =
    let book : ClaimBook = record { rows = c.self.inside.rows.items; next = c.self.inside.next; envs = c.self.inside.envs } in
    let none = ap (list_any (λ (r : RowValue). is_into c.args.page r.claim)) (sym c.deref.ensures.value) ∙ sym c.has_into.ensures ∙ c.if-not-has_into.true in
    rw (← c.self.view_is) (same_without (is_into c.args.page) book none)
