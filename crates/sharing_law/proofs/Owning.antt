-- Whose a page is.
use Rattle.std.proofs.Common.{arith, ◌≡◌, ℕ, true, sym, ◌∙◌, ap}
use Rattle.std.proofs.lemmas.Bool.{eq-eqb}
use Rattle.page_book.specs.declared.row.Capabilities.{Capabilities}
use Rattle.page_book.specs.declared.row.PageRow.{PageRow}
use Rattle.page_book.specs.declared.row.PageRow.TheVariants.{Free, Owned}
use Rattle.page_book.specs.Row.{is_owned_by}
use Rattle.page_book.proofs.Owners.{same_owner}
use Rattle.world_model.specs.Table.{set_at}

-- a page's owner by another name of its number
pub one_owner : (e o : ℕ) (row : PageRow) → is_owned_by e row ≡ true → e ≡ o → is_owned_by o row ≡ true
one_owner e o row owned same = ap (λ n. is_owned_by n row) (sym same) ∙ owned

-- a page that is owned stays its owner's where a free one has another row
pub free_else : (page : ℕ) (row : PageRow) (pages : ℕ → PageRow) → pages page ≡ Free → (i p : ℕ) → is_owned_by i (pages p) ≡ true → is_owned_by i (set_at page row pages p) ≡ true
free_else page row pages free i p owned = grind arith

-- or where its owner gives it other words
pub own_else : (e page : ℕ) (words : Capabilities) (pages : ℕ → PageRow) → is_owned_by e (pages page) ≡ true → (i p : ℕ) → is_owned_by i (pages p) ≡ true → is_owned_by i (set_at page (Owned e words) pages p) ≡ true
own_else e page words pages own i p owned = grind (arith, same_owner e i (pages page), eq-eqb e i)
