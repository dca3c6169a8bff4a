-- What is known of a page that may be allocated or changed.
use Rattle.std.proofs.Common.{◌≡◌, ◌≢◌, ◌<◌, ℕ, List, length, Bool, true, false, Some, None, sym, ◌∙◌, ap, rules}
use Rattle.std.specs.Prelude.{if◌then◌else◌, slice_get}
use Rattle.std.proofs.lemmas.Bool.{lt-ltb}
use Rattle.page_book.specs.declared.row.PageRow.{PageRow}
use Rattle.page_book.specs.declared.row.PageRow.TheVariants.{Free, Guaranteed}
use Rattle.page_book.specs.Row.{alloc_refusal, change_refusal, is_owned_by}
use Rattle.page_book.specs.Rows.{row_in}
use Rattle.board_model.proofs.Tables.{row_got}

-- neither a free page nor one that is owned is guaranteed
pub free_to_all : (row : PageRow) → row ≡ Free → (i : ℕ) → row ≢ Guaranteed i
free_to_all row free i guaranteed = let both : Free ≡ Guaranteed i = sym free ∙ guaranteed in cc

pub owned_by_none : (e : ℕ) (row : PageRow) → is_owned_by e row ≡ true → (i : ℕ) → row ≢ Guaranteed i
owned_by_none e row owned i guaranteed = let never : false ≡ true = sym (ap (is_owned_by e) guaranteed) ∙ owned in cc

-- the row of a page that is there
row_of_there : (pages : List PageRow) (page : ℕ) → page < length pages → slice_get pages page ≡ Some (row_in pages page)
row_of_there pages page there = row_got pages page ∙ ap (λ (t : Bool). if t then Some (row_in pages page) else None) (lt-ltb page (length pages) there)

-- a free page may be allocated
pub allocable : (pages : List PageRow) (page : ℕ) → page < length pages → row_in pages page ≡ Free → alloc_refusal (slice_get pages page) ≡ None
allocable pages page there free = ap alloc_refusal (row_of_there pages page there) ∙ ap (λ (row : PageRow). alloc_refusal (Some row)) free

-- a page that one owns may be changed by it
pub changeable : (e : ℕ) (pages : List PageRow) (page : ℕ) → page < length pages → is_owned_by e (row_in pages page) ≡ true → change_refusal e (slice_get pages page) ≡ None
changeable e pages page there owned = search (rules, row_of_there)
