-- Whose a page is, and whose it is once an environment's pages are released.
use Rattle.std.proofs.Common.{arith, ◌≡◌, ◌≢◌, ℕ, true, false, Some, refl, sym, ◌∙◌, ap}
use Rattle.std.proofs.lemmas.Bool.{eqb-true, ne_eqb}
use Rattle.page_book.specs.declared.row.PageRow.{PageRow}
use Rattle.page_book.specs.declared.row.PageRow.TheVariants.{Free, Guaranteed, Owned}
use Rattle.page_book.specs.Row.{is_owned_by, owner_of, released}

-- who owns a page is its row's owner
pub owner_is : (e : ℕ) (row : PageRow) → is_owned_by e row ≡ true → owner_of row ≡ Some e
owner_is e Free is = cc
owner_is e (Guaranteed owner) is = cc
owner_is e (Owned owner words) is = ap Some (eqb-true owner e is)

-- a page has one owner
pub same_owner : (d e : ℕ) (row : PageRow) → is_owned_by d row ≡ true → is_owned_by e row ≡ true → d ≡ e
same_owner d e Free is its = cc
same_owner d e (Guaranteed owner) is its = cc
same_owner d e (Owned owner words) is its = sym (eqb-true owner d is) ∙ eqb-true owner e its

-- a page that one owns no other does
pub anothers : (e i : ℕ) (row : PageRow) → i ≢ e → is_owned_by e row ≡ true → is_owned_by i row ≡ false
anothers e i Free ne owned = refl
anothers e i (Guaranteed owner) ne owned = refl
anothers e i (Owned owner words) ne owned = ne_eqb owner i (λ same. ne (sym same ∙ eqb-true owner e owned))

-- what is owned once an environment's pages are released was owned before
pub released_owned : (gone e : ℕ) (row : PageRow) → is_owned_by e (released gone row) ≡ true → is_owned_by e row ≡ true
released_owned gone e row owns = grind arith

-- who didn't own it doesn't then
pub released_none : (gone e : ℕ) (row : PageRow) → is_owned_by e row ≡ false → is_owned_by e (released gone row) ≡ false
released_none gone e row none = grind arith

-- and nor does the environment itself
pub released_own : (gone : ℕ) (row : PageRow) → is_owned_by gone (released gone row) ≡ false
released_own gone Free = refl
released_own gone (Guaranteed owner) = grind arith
released_own gone (Owned owner words) = grind arith
