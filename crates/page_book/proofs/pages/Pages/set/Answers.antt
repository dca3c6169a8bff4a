-- What is kept beside the rows follows the row that changes.
use Rattle.std.proofs.Common.{arith, ◌≡◌, ◌<◌, length, rules, ap, ◌∙◌}
use Rattle.page_book.specs.PageSet.{one_if}
use Rattle.page_book.specs.Row.{is_free}
use Rattle.page_book.specs.Rows.{row_in}
use Rattle.page_book.proofs.Counts.{one_most}
use Rattle.page_book.proofs.Tallies.{free_least, free_most, owned_least, owned_most, retallied}
use Rattle.page_book.proofs.pages.Pages.set.Goals as goal

pub overflow_add-self : goal.overflow_add-self
overflow_add-self c =
    let inside = c.self.inside in
    let there : c.args.page < length inside.rows.items = search rules in
    omega (arith, c.one_if.ensures, one_most c.is_free-2.result, free_most inside.rows.items inside.free inside.free_count inside.owned c.self.invariant c.args.page there)

pub overflow_sub-self : goal.overflow_sub-self
overflow_sub-self c =
    let inside = c.self.inside in
    let there : c.args.page < length inside.rows.items = search rules in
    let was : c.row_there-old.result ≡ row_in inside.rows.items c.args.page = search rules in
    let old : c.one_if-2.result ≡ one_if (is_free (row_in inside.rows.items c.args.page)) = c.one_if-2.ensures ∙ ap one_if (c.is_free-3.ensures ∙ ap is_free was) in
    omega (arith, old, free_least inside.rows.items inside.free inside.free_count inside.owned c.self.invariant c.args.page there)

pub lose-requires : goal.lose-requires
lose-requires c =
    let inside = c.self.inside in
    let was : c.row_there-old.result ≡ row_in inside.rows.items c.args.page = search rules in
    let there : c.args.page < length inside.rows.items = search rules in
    rw was (owned_least inside.rows.items inside.free inside.free_count inside.owned c.self.invariant c.args.page there)

pub gain-requires : goal.gain-requires
gain-requires c = λ e below.
    let inside = c.self.inside in
    let there : c.args.page < length inside.rows.items = search rules in
    omega (arith, c.lose.ensures e below, owned_most inside.rows.items inside.free inside.free_count inside.owned c.self.invariant c.args.page there e below)

pub invariant_of-self : goal.invariant_of-self
invariant_of-self c =
    let inside = c.self.inside in
    let there : c.args.page < length inside.rows.items = search rules in
    let was : c.row_there-old.result ≡ row_in inside.rows.items c.args.page = search rules in
    let old : c.one_if-2.result ≡ one_if (is_free (row_in inside.rows.items c.args.page)) = c.one_if-2.ensures ∙ ap one_if (c.is_free-3.ensures ∙ ap is_free was) in
    let new : c.one_if.result ≡ one_if (is_free c.args.row) = c.one_if.ensures ∙ ap one_if c.is_free-2.ensures in
    let least = free_least inside.rows.items inside.free inside.free_count inside.owned c.self.invariant c.args.page there in
    retallied inside.rows.items inside.free inside.free_count inside.owned c.self.invariant c.args.page there c.args.row c.put.new.self _ c.lose.new.self c.gain.new.self
    (rw c.is_free.ensures at c.put.ensures) (omega (arith, old, new, least)) (rw was at c.lose.ensures) c.gain.ensures
