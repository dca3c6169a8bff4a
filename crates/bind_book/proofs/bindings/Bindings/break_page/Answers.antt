use Rattle.std.proofs.Common.{rules, ap, ◌≡◌, ◌∙◌, ℕ, false, Option, None, slice_set}
use Rattle.std.specs.Prelude.{is_some}
use Rattle.bind_book.specs.declared.mark.Mark.TheVariants.{Nowhere}
use Rattle.bind_book.specs.Stripe.{leads_to_page, swept_rows}
use Rattle.bind_book.proofs.Marks.{swept_in_place, swept_marked, unmarked_fits}
use Rattle.bind_book.proofs.bindings.Bindings.break_page.Goals as goal

none_is : (but : Option ℕ) → is_some but ≡ false → but ≡ None
none_is but is = grind rules

pub invariant_of-self : goal.invariant_of-self
invariant_of-self c =
    let book = c.self.inside in
    let all = leads_to_page c.args.page None in
    let nobody : c.args.but ≡ None = none_is c.args.but c.if-is_none.ensures in
    let swept_is : c.break_marked.new.rows ≡ swept_rows book.version all c.deref_mut.result.now = c.break_marked.ensures ∙ ap (λ (but : Option ℕ). swept_rows book.version (leads_to_page c.args.page but) c.deref_mut.result.now) nobody in
    rw c.unmark.ensures
    (swept_in_place (slice_set book.marks c.args.page Nowhere) book.version all book.rows.len book.rows.items c.deref_mut.result.now c.break_marked.new.rows
    c.deref_mut.ensures.value c.deref_mut.ensures.len c.self.invariant.0 swept_is
    (unmarked_fits book.marks book.version c.args.page book.rows.items c.self.invariant.1))

pub invariant_of-self-else-is_none : goal.invariant_of-self-else-is_none
invariant_of-self-else-is_none c =
    let book = c.self.inside in
    let broken = leads_to_page c.args.page c.args.but in
    swept_in_place book.marks book.version broken book.rows.len book.rows.items c.deref_mut.result.now c.break_marked.new.rows
    c.deref_mut.ensures.value c.deref_mut.ensures.len c.self.invariant.0 c.break_marked.ensures
    (swept_marked book.marks book.version broken book.rows.items c.self.invariant.1)
