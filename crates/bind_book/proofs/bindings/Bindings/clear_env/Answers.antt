use Rattle.page_book.specs.Rows.{row_in}
use Rattle.bind_book.specs.Stripe.{goes_with}
use Rattle.bind_book.proofs.Marks.{swept_in_place, swept_marked}
use Rattle.bind_book.proofs.bindings.Bindings.clear_env.Goals as goal

pub invariant_of-self : goal.invariant_of-self
invariant_of-self c =
    let book = c.self.inside in
    let gone = goes_with (row_in c.args.pages.now) c.args.env in
    swept_in_place book.marks book.version gone book.rows.len book.rows.items c.deref_mut.result.now c.clear_env.new.rows
    c.deref_mut.ensures.value c.deref_mut.ensures.len c.self.invariant.0 c.clear_env.ensures
    (swept_marked book.marks book.version gone book.rows.items c.self.invariant.1)
