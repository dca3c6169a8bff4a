use Rattle.std.proofs.Common.{refl, ◌≡◌, None, slice_get}
use Rattle.std.proofs.lemmas.Option.{unwrap_or-slice_get}
use Rattle.page_book.specs.declared.row.PageRow.TheVariants.{Free}
use Rattle.page_book.proofs.pages.Pages.belongs_to.Goals as goal

pub returns-in-None : goal.returns-in-None
returns-in-None c =
    let none : slice_get c.args.self.now c.args.page ≡ None = cc c.in-None.ensures in
    rw (← unwrap_or-slice_get c.args.self.now c.args.page Free, none) refl
