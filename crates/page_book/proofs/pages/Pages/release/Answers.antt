-- A page with an owner is there.
use Rattle.std.proofs.Common.{◌<◌, ℕ, zero, suc, List, [], ◌∷◌, length, IsSome, arith}
use Rattle.page_book.specs.declared.row.PageRow.{PageRow}
use Rattle.page_book.specs.Row.{owner_of}
use Rattle.page_book.specs.Rows.{row_in}
use Rattle.page_book.proofs.pages.Pages.release.Goals as goal

owned_there : (rows : List PageRow) (page : ℕ) → IsSome (owner_of (row_in rows page)) → page < length rows
owned_there [] page owned = cc
owned_there (row ∷ rows) zero owned = omega arith
owned_there (row ∷ rows) (suc page) owned = let there = owned_there rows page owned in omega arith

pub set-requires : goal.set-requires
set-requires c = owned_there c.args.self.now c.args.page c.requires
