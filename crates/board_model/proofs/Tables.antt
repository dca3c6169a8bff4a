-- The books as lists and as tables.
use Rattle.std.proofs.Common.{◌≡◌, ◌≤◌, ◌<◌, Bool, true, false, ℕ, zero, suc, List, length, map, Option, Some, None, is_some, refl, arith, get_or-set_same, get_or-set_other, rules}
use Rattle.std.specs.Prelude.{nat_lt, if◌then◌else◌, slice_get, slice_set, slice_index_or, replicate}
use Rattle.std.proofs.lemmas.Bool.{ne_eqb, eq-eqb, lt-ltb, le-ltb, cases_lt}
use Rattle.std.proofs.lemmas.Option.{slice_get-get_or, slice_get_past}
use Rattle.std.proofs.lemmas.Grind.{common_steps}
use Rattle.page_book.specs.declared.row.PageRow.{PageRow}
use Rattle.page_book.specs.declared.row.PageRow.TheVariants.{Free}
use Rattle.page_book.specs.Row.{released}
use Rattle.page_book.specs.Rows.{row_in}
use Rattle.bind_book.specs.declared.binding.Binding.{Binding}
use Rattle.bind_book.specs.Stripe.{HasStripe, Stripes, binding_at, stripe_place, row_of, stripes, unbound, with_stripe_row}
use Rattle.aegis_limits.specs.VersionLimits.{stripe_rows}
use Rattle.bind_book.proofs.Rows.{row_set}
use Rattle.world_model.specs.Table.{set_at}
use Rattle.world_model.specs.PageCalls.{without_number}
use Rattle.board_model.proofs.Parts.{by_env, set_here, set_else}
use Rattle.page_laws.proofs.Tables.{set_same}

-- a list with another element at one place
pub table_set : {A : Type 0} (xs : List A) (n : ℕ) (x d : A) → n < length xs → (i : ℕ) → slice_index_or (slice_set xs n x) i d ≡ set_at n x (λ j. slice_index_or xs j d) i
table_set xs n x d within = search (rules, by_env, get_or-set_same, set_here, get_or-set_other, set_else)

-- a list of one element alone, with the same behind its end
pub all_alike : {A : Type 0} (d : A) (n i : ℕ) → slice_index_or (replicate n d) i d ≡ d
all_alike d zero i = refl
all_alike d (suc n) zero = refl
all_alike d (suc n) (suc i) = all_alike d n i

-- the row of a page, if there is one of this number
pub row_got : (pages : List PageRow) (page : ℕ) → slice_get pages page ≡ (if nat_lt page (length pages) then Some (row_in pages page) else None)
row_got pages page = search (rules, cases_lt, slice_get-get_or, lt-ltb, slice_get_past, le-ltb)

-- behind the last page each is as if free
pub row_past : (pages : List PageRow) (page : ℕ) → length pages ≤ page → row_in pages page ≡ Free
row_past pages page past = grind (arith, common_steps)

-- the pages once an environment is gone
pub row_released : (e : ℕ) (pages : List PageRow) (page : ℕ) → row_in (map (released e) pages) page ≡ released e (row_in pages page)
row_released e pages page = grind (arith, common_steps)

-- the stripes once a row of one of them is set
pub stripe_set : (binds : Stripes) (e row : ℕ) (x : Option Binding) → HasStripe binds e → row < stripe_rows binds.version → (i r : ℕ) → stripes (with_stripe_row binds e row x) i r ≡ set_at e (set_at row x (stripes binds e)) (stripes binds) i r
stripe_set binds e row x has below i r = search (rules, row_set, by_env, eq-eqb, set_here, ne_eqb, set_else)

-- the stripes once a binding of one of them went, if there was one
pub stripe_without : (binds : Stripes) (e vpn : ℕ) → HasStripe binds e → row_of binds.version vpn < stripe_rows binds.version → (i r : ℕ) →
    stripes (unbound binds e vpn) i r ≡ set_at e (without_number binds.version vpn (stripes binds e)) (stripes binds) i r
stripe_without binds e vpn has below i r = by_test (is_some (binding_at binds.version (stripes binds e) vpn))
  where
    row : ℕ
    row = row_of binds.version vpn

    by_test : (t : Bool) →
        stripes (record binds { rows = if t then slice_set binds.rows (stripe_place binds.version e row) None else binds.rows }) i r ≡ set_at e (if t then set_at row None (stripes binds e) else stripes binds e) (stripes binds) i r
    by_test true = stripe_set binds e row None has below i r
    by_test false = grind (arith, set_same)
