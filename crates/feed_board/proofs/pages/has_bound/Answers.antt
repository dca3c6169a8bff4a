-- A page is bound where a row of the stripe is of it.
use Rattle.std.proofs.Common.{◌≡◌, ◌<◌, true, arith, sym, ◌∙◌, ap}
use Rattle.aegis_limits.specs.Limits.{most_stripe_rows}
use Rattle.aegis_limits.specs.VersionLimits.{stripe_rows}
use Rattle.bind_book.specs.Stripe.{is_of_page, stripes}
use Rattle.page_laws.proofs.Stripes.{bound_somewhere}
use Rattle.feed_board.proofs.Paging.{unbound}
use Rattle.feed_board.proofs.pages.has_bound.Goals as goal

pub returns-then-is_of_page : goal.returns-then-is_of_page
returns-then-is_of_page c =
    let binds = c.args.bindings.now in
    let page = c.args.page in
    let row = c.loop-row.row in
    let end : c.stripe_rows-row-end.result ≡ stripe_rows binds.version = c.stripe_rows-row-end.ensures ∙ ap stripe_rows c.version.ensures in
    let within : row < most_stripe_rows = omega (arith, end, c.loop-row-test.true, (c.law_versions_are_within.ensures binds.version).rows_most) in
    let its : is_of_page page (stripes binds c.args.env row) ≡ true = ap (is_of_page page) (sym c.in_row.ensures) ∙ sym c.is_of_page.ensures ∙ c.if-is_of_page.true in
    sym (bound_somewhere page (stripes binds c.args.env) row within its)

pub returns : goal.returns
returns c =
    let binds = c.args.bindings.now in
    let end : c.stripe_rows-row-end.result ≡ stripe_rows binds.version = c.stripe_rows-row-end.ensures ∙ ap stripe_rows c.version.ensures in
    sym (unbound binds c.args.env c.args.page (λ k less. c.loop-row.invariant k (omega (arith, less, end, c.loop-row-test.false))))
