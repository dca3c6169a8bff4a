-- How many pages an environment sees: no more than are guaranteed to it and than its stripe has rows.
use Rattle.std.proofs.Common.{◌≡◌, ◌<◌, ◌≤◌, ℕ, zero, suc, ◌+◌, ◌^◌, List, [], ◌∷◌, ◌++◌, length, map, Option, Some, None, refl, sym, ◌∙◌, ap, subst, inl, inr, arith}
use Rattle.std.specs.Prelude.{◌==◌, if◌then◌else◌}
use Rattle.std.proofs.lemmas.Bool.{cases_eq, eq-eqb, ne_eqb}
use Rattle.std.proofs.lemmas.List.{length-append, length-map}
use Rattle.aegis_limits.specs.Limits.{most_mappings, most_stripe_rows, vpn_end}
use Rattle.bind_book.specs.declared.binding.Binding.{Binding}
use Rattle.bind_book.specs.Stripe.{of_number, row_of}
use Rattle.bind_book.proofs.Rows.{row_most}
use Rattle.world_model.specs.Page.{KeptPage, Mapped}
use Rattle.world_model.specs.Solo.{Solo, kept_at, sight}
use Rattle.world_model.specs.World.{World}
use Rattle.core_file.specs.Core.{HasFewHeaders}
use Rattle.core_file.specs.Pages.{pages_at, pages_below, pages_seen}
use Rattle.core_file.specs.Runs.{runs_of}
use Rattle.core_file.proofs.Adding.{are_below, of_pages}
use Rattle.core_file.proofs.Clear.{none_seen, pages_same}

-- a VPN is none of these
abbrev NoneIs : ℕ → List ℕ → Type 0
NoneIs v [] = Unit {0}
NoneIs v (x ∷ xs) = (x ≡ v → ⊥) × NoneIs v xs

-- pages are seen at these VPNs alone
abbrev AreAt : (ℕ → Option Mapped) → List ℕ → Type 0
AreAt look vpns = (v : ℕ) → NoneIs v vpns → look v ≡ None

-- what is seen, but nothing at one VPN
abbrev without_at : ℕ → (ℕ → Option Mapped) → ℕ → Option Mapped
without_at x look v = if v == x then None else look v

one_page : (vpn : ℕ) (m : Option Mapped) → length (pages_at vpn m) ≤ 1
one_page vpn None = omega arith
one_page vpn (Some m) = omega arith

elsewhere : (look : ℕ → Option Mapped) (x v : ℕ) → (v ≡ x → ⊥) → look v ≡ without_at x look v
elsewhere look x v other = rw (ne_eqb v x other) refl

-- below that VPN as many are seen, and past it one fewer at most
as_many : (look : ℕ → Option Mapped) (x n : ℕ) → n ≤ x → length (pages_below look n) ≤ length (pages_below (without_at x look) n)
as_many look x zero within = omega arith
as_many look x (suc n) within =
    let rest = without_at x look in
    let same : length (pages_at n (look n)) ≡ length (pages_at n (rest n)) =
    ap (λ (m : Option Mapped). length (pages_at n m)) (elsewhere look x n (λ is. omega (arith, is, within))) in
    omega (
      arith,
      length-append (pages_below look n) (pages_at n (look n)),
      length-append (pages_below rest n) (pages_at n (rest n)),
      same,
      as_many look x n (omega (arith, within)),
    )

one_fewer : (look : ℕ → Option Mapped) (x n : ℕ) → length (pages_below look n) ≤ length (pages_below (without_at x look) n) + 1
one_fewer look x zero = omega arith
one_fewer look x (suc n) =
    let rest = without_at x look in
    let both = length-append (pages_below look n) (pages_at n (look n)) in
    let left = length-append (pages_below rest n) (pages_at n (rest n)) in
    elim (cases_eq n x) [
      | inl here ↦ omega (arith, both, left, one_page n (look n), as_many look x n (omega (arith, here)))
      | inr other ↦
          let same : length (pages_at n (look n)) ≡ length (pages_at n (rest n)) =
          ap (λ (m : Option Mapped). length (pages_at n m)) (elsewhere look x n other) in
          omega (arith, both, left, same, one_fewer look x n)
    ]

-- so there are no more pages than VPNs at which they are
no_more : (vpns : List ℕ) (look : ℕ → Option Mapped) (n : ℕ) → AreAt look vpns → length (pages_below look n) ≤ length vpns
no_more [] look n are =
    let none : length (pages_below look n) ≡ 0 = ap length (pages_same look 0 n (omega arith) (λ v from below. are v tt)) in
    omega (arith, none)
no_more (x ∷ xs) look n are = omega (arith, one_fewer look x n, no_more xs (without_at x look) n there)
  where
    there : AreAt (without_at x look) xs
    there v none = elim (cases_eq v x) [
      | inl here ↦ rw (eq-eqb v x here) refl
      | inr other ↦ sym (elsewhere look x v other) ∙ are v ((λ is. other (sym is)), none)
    ]

none_in_both : (v : ℕ) (xs ys : List ℕ) → NoneIs v (xs ++ ys) → NoneIs v xs × NoneIs v ys
none_in_both v [] ys none = (tt, none)
none_in_both v (x ∷ xs) ys none =
    let rest = none_in_both v xs ys none.1 in
    ((none.0, rest.0), rest.1)

-- the VPNs of guaranteed pages, and those that the first rows of a stripe bind
abbrev kept_vpns : List KeptPage → List ℕ
kept_vpns kept = map (λ (p : KeptPage). p.vpn) kept

abbrev vpn_in : Option Binding → List ℕ
vpn_in None = []
vpn_in (Some b) = b.vpn ∷ []

abbrev bound_vpns : (ℕ → Option Binding) → ℕ → List ℕ
bound_vpns binds zero = []
bound_vpns binds (suc r) = bound_vpns binds r ++ vpn_in (binds r)

one_vpn : (b : Option Binding) → length (vpn_in b) ≤ 1
one_vpn None = omega arith
one_vpn (Some b) = omega arith

bound_count : (binds : ℕ → Option Binding) (n : ℕ) → length (bound_vpns binds n) ≤ n
bound_count binds zero = omega arith
bound_count binds (suc n) = omega (arith, length-append (bound_vpns binds n) (vpn_in (binds n)), one_vpn (binds n), bound_count binds n)

none_kept_at : (v : ℕ) (kept : List KeptPage) → NoneIs v (kept_vpns kept) → kept_at kept v ≡ None
none_kept_at v [] none = refl
none_kept_at v (p ∷ kept) none = rw (ne_eqb p.vpn v none.0) (none_kept_at v kept none.1)

none_of_row : (v : ℕ) (b : Option Binding) → NoneIs v (vpn_in b) → of_number v b ≡ None
none_of_row v None none = refl
none_of_row v (Some b) none = rw (ne_eqb b.vpn v none.0) refl

none_in_row : (v : ℕ) (binds : ℕ → Option Binding) (n r : ℕ) → r < n → NoneIs v (bound_vpns binds n) → of_number v (binds r) ≡ None
none_in_row v binds zero r within none = absurd (omega (arith, within))
none_in_row v binds (suc n) r within none =
    let parts = none_in_both v (bound_vpns binds n) (vpn_in (binds n)) none in
    elim (cases_eq r n) [
      | inl last ↦ subst (λ (k : ℕ). of_number v (binds k) ≡ None) (sym last) (none_of_row v (binds n) parts.1)
      | inr before ↦ none_in_row v binds n r (omega (arith, within, before)) parts.0
    ]

-- guaranteed and bound pages, one for each VPN at most, make fewer runs than a half word counts
few_together : (runs pages vpns kept bound guaranteed : ℕ) → runs ≤ pages → pages ≤ vpns → vpns ≡ kept + bound → kept ≡ guaranteed
    → bound ≤ most_stripe_rows → guaranteed ≤ most_mappings → 1 + runs < 2 ^ 16
few_together runs pages vpns kept bound guaranteed of_pages of_vpns both same rows most =
    omega (arith, of_pages, of_vpns, both, same, rows, most)

-- an environment sees pages at these VPNs alone
seen_at : (s : Solo) → AreAt (sight s) (kept_vpns s.kept ++ bound_vpns s.binds most_stripe_rows)
seen_at s v none =
    let parts = none_in_both v (kept_vpns s.kept) (bound_vpns s.binds most_stripe_rows) none in
    none_seen s v (none_kept_at v s.kept parts.0)
    (none_in_row v s.binds most_stripe_rows (row_of s.version v) (row_most s.version v) parts.1)

pub few_headers : (w : World) (e : ℕ) → HasFewHeaders w e
few_headers w e few =
    let s = w.solos e in
    let kept = kept_vpns s.kept in
    let bound = bound_vpns s.binds most_stripe_rows in
    let pages = pages_seen (sight s) in
    few_together (length (runs_of pages)) (length pages) (length (kept ++ bound)) (length kept) (length bound) (length s.kept)
    (of_pages pages (are_below (sight s) vpn_end (omega arith))).few (no_more (kept ++ bound) (sight s) vpn_end (seen_at s))
    (length-append kept bound) (length-map s.kept (λ (p : KeptPage). p.vpn)) (bound_count s.binds most_stripe_rows) few
