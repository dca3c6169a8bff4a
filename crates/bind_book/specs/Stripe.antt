-- Bindings, and the stripe of rows that each environment has for them. How many these are, the version says.
use Rattle.std.specs.Prelude.{ℕ, zero, suc, ◌+◌, ◌*◌, ◌/◌, ◌%◌, ◌≤◌, Bool, false, not, ◌==◌, ◌&&◌, ◌||◌, nat_lt, if◌then◌else◌, List, [], ◌∷◌, length, Option, Some, None, is_some, slice_index_or, slice_set, replicate}
use Rattle.aegis_limits.specs.declared.version.Version.{Version}
use Rattle.aegis_limits.specs.Limits.{most_environments, most_stripe_rows}
use Rattle.aegis_limits.specs.VersionLimits.{stripe_rows}
use Rattle.page_book.specs.declared.row.PageRow.{PageRow}
use Rattle.page_book.specs.Row.{belongs_to}
use Rattle.bind_book.specs.declared.binding.Binding.{Binding}

-- The stripes of all environments: their rows, those of environment 0 first, as many for each as the version gives.
pub record Stripes : Type 0 where
  pub version : Version
  pub rows : List (Option Binding)

-- stripes never have more rows together
abbrev pub most_places : ℕ
most_places = most_environments * most_stripe_rows

-- the row of a VPN in its environment's stripe
abbrev pub row_of : Version → ℕ → ℕ
row_of v vpn = vpn % stripe_rows v

-- the place of an environment's row among all
abbrev pub stripe_place : Version → ℕ → ℕ → ℕ
stripe_place v e row = e * stripe_rows v + row

-- stripes for so many environments, all of whose rows are empty
abbrev pub empty_stripes : Version → ℕ → Stripes
empty_stripes v envs = record { version = v; rows = replicate (envs * stripe_rows v) None }

-- the environment has its stripe
abbrev pub HasStripe : Stripes → ℕ → Type 0
HasStripe binds e = stripe_place binds.version e (stripe_rows binds.version) ≤ length binds.rows

-- the rows of all environments: by environment, the binding that stands in each row of its stripe
abbrev pub stripes : Stripes → ℕ → ℕ → Option Binding
stripes binds e row =
    if nat_lt row (stripe_rows binds.version) then slice_index_or binds.rows (stripe_place binds.version e row) None
    else None

-- the stripes with something else in a row of an environment
abbrev pub with_stripe_row : Stripes → ℕ → ℕ → Option Binding → Stripes
with_stripe_row binds e row x = record binds { rows = slice_set binds.rows (stripe_place binds.version e row) x }

-- the binding in a row, if it is that of this VPN
abbrev pub of_number : ℕ → Option Binding → Option Binding
of_number vpn None = None
of_number vpn (Some b) = if b.vpn == vpn then Some b else None

-- the binding of a VPN in a stripe
abbrev pub binding_at : Version → (ℕ → Option Binding) → ℕ → Option Binding
binding_at v stripe vpn = of_number vpn (stripe (row_of v vpn))

-- the stripes with an environment's binding in the row of its VPN
abbrev pub with_binding_in : Stripes → ℕ → Binding → Stripes
with_binding_in binds e b = with_stripe_row binds e (row_of binds.version b.vpn) (Some b)

-- the stripes once the binding of an environment's VPN, if there is one, is gone
abbrev pub unbound : Stripes → ℕ → ℕ → Stripes
unbound binds e vpn = record binds {
  rows =
      if is_some (binding_at binds.version (stripes binds e) vpn)
      then slice_set binds.rows (stripe_place binds.version e (row_of binds.version vpn)) None else binds.rows;
}

-- whether the binding in a row is of this page
abbrev pub is_of_page : ℕ → Option Binding → Bool
is_of_page page None = false
is_of_page page (Some b) = b.page == page

-- whether a page is bound in one of the first rows of a stripe, so many
abbrev pub is_bound_below : ℕ → (ℕ → Option Binding) → ℕ → Bool
is_bound_below page stripe zero = false
is_bound_below page stripe (suc row) = is_bound_below page stripe row || is_of_page page (stripe row)

-- whether a page is bound in a stripe
unfoldable pub is_bound : ℕ → (ℕ → Option Binding) → Bool
is_bound page stripe = is_bound_below page stripe most_stripe_rows

-- a row without its binding, where that is one that is broken
abbrev pub without : (Binding → Bool) → Option Binding → Option Binding
without broken None = None
without broken (Some b) = if broken b then None else Some b

abbrev pub is_but : Option ℕ → ℕ → Bool
is_but None e = false
is_but (Some but) e = but == e

-- whether an environment's binding is broken with its page, which spares those of one environment
abbrev pub leads_to_page : ℕ → Option ℕ → ℕ → Binding → Bool
leads_to_page page but e b = b.page == page && not (is_but but e)

-- whether a binding goes with an environment: it is its own, or of one of its pages
abbrev pub goes_with : (ℕ → PageRow) → ℕ → ℕ → Binding → Bool
goes_with pages gone e b = e == gone || belongs_to gone (pages b.page)

-- the rows from a place on without the bindings that are broken; each environment has so many rows
abbrev pub swept_from : ℕ → ℕ → (ℕ → Binding → Bool) → List (Option Binding) → List (Option Binding)
swept_from count place broken [] = []
swept_from count place broken (row ∷ rows) =
    without (broken (place / count)) row ∷ swept_from count (place + 1) broken rows

-- all rows without the bindings that are broken, by their environment
unfoldable pub swept_rows : Version → (ℕ → Binding → Bool) → List (Option Binding) → List (Option Binding)
swept_rows v broken rows = swept_from (stripe_rows v) 0 broken rows

abbrev pub swept : (ℕ → Binding → Bool) → Stripes → Stripes
swept broken binds = record binds { rows = swept_rows binds.version broken binds.rows }
