-- What holds of every stripe.
use Rattle.std.specs.Prelude.{◌≡◌, ◌<◌, ◌==◌, ◌&&◌, ◌↔◌, if◌then◌else◌, ℕ, Bool, false, Option}
use Rattle.bind_book.specs.declared.binding.Binding.{Binding}
use Rattle.bind_book.specs.Stripe.{HasStripe, Stripes, is_bound, is_of_page, stripes, swept, with_stripe_row, without}
use Rattle.aegis_limits.specs.Limits.{most_stripe_rows}
use Rattle.aegis_limits.specs.VersionLimits.{stripe_rows}

-- a sweep leaves in each row what was there, if it isn't broken for the environment
abbrev pub SweptByRow : Type 0
SweptByRow =
    (broken : ℕ → Binding → Bool) (binds : Stripes) (e row : ℕ)
    → stripes (swept broken binds) e row ≡ without (broken e) (stripes binds e row)

-- what is put into a row stands in that row alone
abbrev pub SetInOneRow : Type 0
SetInOneRow = (binds : Stripes) (e row : ℕ) (x : Option Binding) → HasStripe binds e → row < stripe_rows binds.version
    → (i r : ℕ) → stripes (with_stripe_row binds e row x) i r ≡ (if i == e && r == row then x else stripes binds i r)

-- a page isn't bound exactly if no row has a binding of it
abbrev pub UnboundInEachRow : Type 0
UnboundInEachRow =
    (page : ℕ) (stripe : ℕ → Option Binding)
    → (is_bound page stripe ≡ false) ↔ ((r : ℕ) → r < most_stripe_rows → is_of_page page (stripe r) ≡ false)

-- a page that isn't bound isn't once bindings are broken
abbrev pub StaysUnbound : Type 0
StaysUnbound =
    (page : ℕ) (broken : Binding → Bool) (stripe : ℕ → Option Binding) → is_bound page stripe ≡ false
    → is_bound page (λ r. without broken (stripe r)) ≡ false
