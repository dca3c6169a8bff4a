-- Whether a page is bound in a stripe.
use Rattle.std.proofs.Common.{arith, refl, inl, inr, ◌≡◌, ◌<◌, ℕ, zero, suc, Bool, false, Option, None, Some}
use Rattle.std.proofs.lemmas.Bool.{cases_eq, cases_Bool, or_parts, or_from}
use Rattle.bind_book.specs.declared.binding.Binding.{Binding}
use Rattle.bind_book.specs.Laws.{StaysUnbound}
use Rattle.bind_book.specs.Stripe.{is_of_page, is_bound_below, is_bound, without}
use Rattle.aegis_limits.specs.Limits.{most_stripe_rows}

unbound_below : (page : ℕ) (stripe : ℕ → Option Binding) (rows : ℕ) → is_bound_below page stripe rows ≡ false → (r : ℕ) → r < rows → is_of_page page (stripe r) ≡ false
unbound_below page stripe zero none r below = absurd (omega arith)
unbound_below page stripe (suc rows) none r below =
    let parts = or_parts (is_bound_below page stripe rows) (is_of_page page (stripe rows)) none in
    elim (cases_eq r rows) [
      | inl last ↦ rw last parts.1
      | inr before ↦ unbound_below page stripe rows parts.0 r (omega (arith, before))
    ]

none_below : (page : ℕ) (stripe : ℕ → Option Binding) (rows : ℕ) → ((r : ℕ) → r < rows → is_of_page page (stripe r) ≡ false) → is_bound_below page stripe rows ≡ false
none_below page stripe zero none = refl
none_below page stripe (suc rows) none =
    or_from (is_bound_below page stripe rows) (is_of_page page (stripe rows)) (none_below page stripe rows (λ r below. none r (omega arith))) (none rows (omega arith))

-- a page that isn't bound in a stripe stands in none of its rows
pub unbound_rows : (page : ℕ) (stripe : ℕ → Option Binding) → is_bound page stripe ≡ false → (r : ℕ) → r < most_stripe_rows → is_of_page page (stripe r) ≡ false
unfolding is_bound
unbound_rows page stripe = unbound_below page stripe most_stripe_rows

-- a page that stands in none of the rows isn't bound in the stripe
pub rows_unbound : (page : ℕ) (stripe : ℕ → Option Binding) → ((r : ℕ) → r < most_stripe_rows → is_of_page page (stripe r) ≡ false) → is_bound page stripe ≡ false
unfolding is_bound
rows_unbound page stripe = none_below page stripe most_stripe_rows

-- a row that isn't of the page isn't either without its binding
without_other : (page : ℕ) (broken : Binding → Bool) (row : Option Binding) → is_of_page page row ≡ false → is_of_page page (without broken row) ≡ false
without_other page broken None other = refl
without_other page broken (Some b) other =
    elim (cases_Bool (broken b)) [ inl gone ↦ rw gone refl | inr stays ↦ rw stays other ]

-- a page that isn't bound in a stripe isn't once bindings are broken
pub stays_unbound : StaysUnbound
stays_unbound page broken stripe none = rows_unbound page (λ r. without broken (stripe r)) (λ r below. without_other page broken (stripe r) (unbound_rows page stripe none r below))
