-- Every page is free, and nobody owns one.
use Rattle.std.proofs.Common.{◌≡◌, replicate, rules}
use Rattle.page_book.specs.declared.row.PageRow.TheVariants.{Free}
use Rattle.page_book.proofs.Tallies.{tallied_free}
use Rattle.page_book.proofs.pages.Pages.new.Goals as goal

pub invariant_of-result : goal.invariant_of-result
invariant_of-result c =
    let free : c.in_ok-rows.rows.items ≡ replicate c.args.pages Free = search rules in
    rw (free, c.new.ensures) (tallied_free c.args.pages c.first_pages.result c.requires.enough c.requires.within c.first_pages.ensures)
