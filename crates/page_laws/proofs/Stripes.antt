-- What is bound in a stripe, and what becomes of it where a row is set or bindings are broken.
use Rattle.std.proofs.Common.{◌≡◌, ◌≢◌, ℕ, zero, suc, ◌<◌, Bool, true, false, ◌||◌, Option, Some, None, inl, inr, refl, sym, ◌∙◌, ap, arith}
use Rattle.std.specs.Prelude.{◌==◌, if◌then◌else◌, slice_index_or}
use Rattle.std.proofs.lemmas.Bool.{ne_eqb, eq-eqb, eqb-true, eqb-false, le-ltb, both_ways, cases_lt, or_cases, or_left, or_right, false_from_ne_true}
use Rattle.bind_book.specs.declared.binding.Binding.{Binding}
use Rattle.bind_book.specs.Stripe.{is_of_page, is_bound_below, is_bound, Stripes, stripe_place, row_of, stripes, without}
use Rattle.aegis_limits.specs.declared.version.Version.{Version}
use Rattle.aegis_limits.specs.Limits.{most_stripe_rows}
use Rattle.aegis_limits.specs.VersionLimits.{stripe_rows}
use Rattle.bind_book.proofs.Rows.{row_most, rows_end}
use Rattle.world_model.specs.Table.{set_at}
use Rattle.page_laws.specs.Sight.{IsStripe}
use Rattle.page_laws.proofs.Tables.{set_here}

-- the rows of a stripe, as a number that doesn't compute
rows : ℕ
rows = most_stripe_rows

rows_are : rows ≡ most_stripe_rows
unfolding rows
rows_are = refl

bound_in_rows : (page : ℕ) (f : ℕ → Option Binding) → is_bound page f ≡ is_bound_below page f rows
unfolding rows is_bound
bound_in_rows page f = refl

-- stripes whose rows are of the page alike
below_alike : (page : ℕ) (f g : ℕ → Option Binding) (n : ℕ) → ((row : ℕ) → is_of_page page (f row) ≡ is_of_page page (g row)) → is_bound_below page f n ≡ is_bound_below page g n
below_alike page f g zero alike = refl
below_alike page f g (suc n) alike = let fewer = below_alike page f g n alike in let last = alike n in λ k. fewer k || last k

pub bound_alike : (page : ℕ) (f g : ℕ → Option Binding) → ((row : ℕ) → is_of_page page (f row) ≡ is_of_page page (g row)) → is_bound page f ≡ is_bound page g
bound_alike page f g alike = bound_in_rows page f ∙ below_alike page f g rows alike ∙ sym (bound_in_rows page g)

-- a stripe no row of which is of the page
below_nowhere : (page : ℕ) (f : ℕ → Option Binding) (n : ℕ) → ((row : ℕ) → is_of_page page (f row) ≡ false) → is_bound_below page f n ≡ false
below_nowhere page f zero none = refl
below_nowhere page f (suc n) none = let fewer = below_nowhere page f n none in let last = none n in λ k. fewer k || last k

pub bound_nowhere : (page : ℕ) (f : ℕ → Option Binding) → ((row : ℕ) → is_of_page page (f row) ≡ false) → is_bound page f ≡ false
bound_nowhere page f none = bound_in_rows page f ∙ below_nowhere page f rows none

-- a stripe with a row of the page
below_somewhere : (page : ℕ) (f : ℕ → Option Binding) (n row : ℕ) → row < n → is_of_page page (f row) ≡ true → is_bound_below page f n ≡ true
below_somewhere page f zero row within is = absurd (omega arith)
below_somewhere page f (suc n) row within is = by_test (row == n) refl (λ less. below_somewhere page f n row less is)
  where
    by_test : (t : Bool) → (row == n) ≡ t → (row < n → is_bound_below page f n ≡ true) → (is_bound_below page f n || is_of_page page (f n)) ≡ true
    by_test true last fewer = or_right (is_bound_below page f n) (is_of_page page (f n)) (ap (λ r. is_of_page page (f r)) (sym (eqb-true row n last)) ∙ is)
    by_test false before fewer = let other : row ≢ n = eqb-false row n before in or_left (is_bound_below page f n) (is_of_page page (f n)) (fewer (omega arith))

pub bound_somewhere : (page : ℕ) (f : ℕ → Option Binding) (row : ℕ) → row < most_stripe_rows → is_of_page page (f row) ≡ true → is_bound page f ≡ true
bound_somewhere page f row within is = bound_in_rows page f ∙ below_somewhere page f rows row (rw rows_are within) is

-- a page that is bound is bound in a row
below_row : (page : ℕ) (f : ℕ → Option Binding) (n : ℕ) → is_bound_below page f n ≡ true → (row : ℕ) × (is_of_page page (f row) ≡ true)
below_row page f zero is = cc
below_row page f (suc n) is = elim (or_cases (is_bound_below page f n) (is_of_page page (f n)) is) [
  | inl fewer ↦ below_row page f n fewer
  | inr last ↦ (n, last)
]

pub bound_row : (page : ℕ) (f : ℕ → Option Binding) → is_bound page f ≡ true → (row : ℕ) × (is_of_page page (f row) ≡ true)
bound_row page f is = below_row page f rows (sym (bound_in_rows page f) ∙ is)

-- a stripe that has rows of the page where another one has
below_less : (page : ℕ) (f g : ℕ → Option Binding) (n : ℕ) → ((row : ℕ) → is_of_page page (f row) ≡ true → is_of_page page (g row) ≡ true) → is_bound_below page f n ≡ true → is_bound_below page g n ≡ true
below_less page f g zero less is = is
below_less page f g (suc n) less is = elim (or_cases (is_bound_below page f n) (is_of_page page (f n)) is) [
  | inl fewer ↦ or_left (is_bound_below page g n) (is_of_page page (g n)) (below_less page f g n less fewer)
  | inr last ↦ or_right (is_bound_below page g n) (is_of_page page (g n)) (less n last)
]

pub bound_less : (page : ℕ) (f g : ℕ → Option Binding) → ((row : ℕ) → is_of_page page (f row) ≡ true → is_of_page page (g row) ≡ true) → is_bound page f ≡ true → is_bound page g ≡ true
bound_less page f g less is = bound_in_rows page g ∙ below_less page f g rows less (sym (bound_in_rows page f) ∙ is)

-- a binding in its row binds its page
pub binds_here : (v : Version) (b : Binding) (f : ℕ → Option Binding) → is_bound b.page (set_at (row_of v b.vpn) (Some b) f) ≡ true
binds_here v b f =
    bound_somewhere b.page (set_at (row_of v b.vpn) (Some b) f) (row_of v b.vpn) (row_most v b.vpn)
    (ap (is_of_page b.page) (set_here (row_of v b.vpn) (Some b) f) ∙ eq-eqb b.page b.page refl)

-- a page other than the one that a row is set to is bound after only if it was before
pub bound_before : (page row : ℕ) (x : Option Binding) (f : ℕ → Option Binding) → is_of_page page x ≡ false → is_bound page (set_at row x f) ≡ true → is_bound page f ≡ true
bound_before page row x f other = bound_less page (set_at row x f) f (λ r. by_test r (r == row))
  where
    by_test : (r : ℕ) (t : Bool) → is_of_page page (if t then x else f r) ≡ true → is_of_page page (f r) ≡ true
    by_test r true is = absurd (both_ways (is_of_page page x) other is)
    by_test r false is = is

-- where no binding of a page is broken, the page is bound as before
spared_row : (page : ℕ) (broken : Binding → Bool) → ((b : Binding) → b.page ≡ page → broken b ≡ false) → (o : Option Binding) → is_of_page page (without broken o) ≡ is_of_page page o
spared_row page broken spared None = refl
spared_row page broken spared (Some b) = by_test (broken b) refl
  where
    by_test : (t : Bool) → broken b ≡ t → is_of_page page (if t then None else Some b) ≡ (b.page == page)
    by_test true goes = sym (ne_eqb b.page page (λ same. both_ways (broken b) (spared b same) goes))
    by_test false stays = refl

pub bound_still : (page : ℕ) (broken : Binding → Bool) (f : ℕ → Option Binding) → ((b : Binding) → b.page ≡ page → broken b ≡ false) → is_bound page (λ row. without broken (f row)) ≡ is_bound page f
bound_still page broken f spared = bound_alike page (λ row. without broken (f row)) f (λ row. spared_row page broken spared (f row))

-- where all bindings of a page are broken, it isn't bound
broken_row : (page : ℕ) (broken : Binding → Bool) → ((b : Binding) → b.page ≡ page → broken b ≡ true) → (o : Option Binding) → is_of_page page (without broken o) ≡ false
broken_row page broken go None = refl
broken_row page broken go (Some b) = by_test (broken b) refl
  where
    by_test : (t : Bool) → broken b ≡ t → is_of_page page (if t then None else Some b) ≡ false
    by_test true goes = refl
    by_test false stays = ne_eqb b.page page (λ same. both_ways (broken b) stays (go b same))

pub bound_no_more : (page : ℕ) (broken : Binding → Bool) (f : ℕ → Option Binding) → ((b : Binding) → b.page ≡ page → broken b ≡ true) → is_bound page (λ row. without broken (f row)) ≡ false
bound_no_more page broken f go = bound_nowhere page (λ row. without broken (f row)) (λ row. broken_row page broken go (f row))

-- a row whose binding isn't broken
pub kept_row : (broken : Binding → Bool) (o : Option Binding) → ((b : Binding) → o ≡ Some b → broken b ≡ false) → without broken o ≡ o
kept_row broken None spared = refl
kept_row broken (Some b) spared = ap (λ t. if t then None else Some b) (spared b refl)

-- where only bindings of a page that isn't bound would be broken, none is
pub nothing_goes : (page : ℕ) (broken : Binding → Bool) (f : ℕ → Option Binding) → IsStripe f → is_bound page f ≡ false → ((b : Binding) → broken b ≡ true → b.page ≡ page) → (row : ℕ) → without broken (f row) ≡ f row
nothing_goes page broken f ends unbound of_page row = kept_row broken (f row) (λ b is. false_from_ne_true (broken b) (stays b is))
  where
    stays : (b : Binding) → f row ≡ Some b → broken b ≡ true → ⊥
    stays b is goes = elim (cases_lt row most_stripe_rows) [
      | inl within ↦ both_ways (is_bound page f) unbound (bound_somewhere page f row within (ap (is_of_page page) is ∙ eq-eqb b.page page (of_page b goes)))
      | inr behind ↦ let clash : None ≡ Some b = sym (ends row behind) ∙ is in cc
    ]

-- each environment's rows are a stripe
pub stripes_end : (binds : Stripes) (e : ℕ) → IsStripe (stripes binds e)
stripes_end binds e row behind =
    ap (λ t. if t then slice_index_or binds.rows (stripe_place binds.version e row) None else None) (le-ltb row (stripe_rows binds.version) (rows_end binds.version row behind))

-- so is a stripe without some of its bindings
pub without_ends : (broken : Binding → Bool) (f : ℕ → Option Binding) → IsStripe f → IsStripe (λ row. without broken (f row))
without_ends broken f ends row behind = ap (without broken) (ends row behind)

-- bindings that are broken in two goes
pub without_both : (f g h : Binding → Bool) → ((b : Binding) → h b ≡ (g b || f b)) → (o : Option Binding) → without f (without g o) ≡ without h o
without_both f g h both None = refl
without_both f g h both (Some b) = by_test (g b) ∙ ap (λ t. if t then None else Some b) (sym (both b))
  where
    by_test : (t : Bool) → without f (if t then None else Some b) ≡ (if t || f b then None else Some b)
    by_test true = refl
    by_test false = refl
