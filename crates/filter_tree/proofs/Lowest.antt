-- The lowest number of the claims that pass a test.
use Rattle.std.proofs.Common.{◌≡◌, ℕ, suc, Bool, true, false, not, List, [], ◌∷◌, ◌++◌, Option, Some, None, refl, sym, ap, ◌∙◌, arith}
use Rattle.std.specs.List.{list_all}
use Rattle.std.specs.Prelude.{◌&&◌, filter, find, map}
use Rattle.std.specs.Option.{option_map}
use Rattle.std.proofs.lemmas.Grind.{common_steps}
use Rattle.filter_tree.specs.ClaimBook.{ClaimValue, RowValue, are_numbered, claim_in}
use Rattle.filter_tree.specs.Tree.{lower_number, lowest, number_if, planted}
use Rattle.filter_tree.proofs.Numbers.{above}

pub lower_none : (a : Option ℕ) → lower_number a None ≡ a
lower_none None = refl
lower_none (Some a) = refl

pub lower_swap : (a b : Option ℕ) → lower_number a b ≡ lower_number b a
lower_swap None b = sym (lower_none b)
lower_swap (Some a) None = refl
lower_swap (Some a) (Some b) = grind (arith, common_steps)

pub lower_join : (a b c : Option ℕ) → lower_number a (lower_number b c) ≡ lower_number (lower_number a b) c
lower_join None b c = refl
lower_join (Some a) None c = refl
lower_join (Some a) (Some b) None = sym (lower_none (lower_number (Some a) (Some b)))
lower_join (Some a) (Some b) (Some c) = grind (arith, common_steps)

-- the first of two numbers goes behind the second
pub lower_turn : (a b c : Option ℕ) → lower_number a (lower_number b c) ≡ lower_number b (lower_number a c)
lower_turn a b c = lower_join a b c ∙ ap (λ x. lower_number x c) (lower_swap a b) ∙ sym (lower_join b a c)

-- among some claims and all others
pub lowest_parts : (t q : ClaimValue → Bool) (claims : List ClaimValue) → lower_number (lowest t (filter q claims)) (lowest t (filter (λ c. not (q c)) claims)) ≡ lowest t claims
lowest_parts t q [] = refl
lowest_parts t q (c ∷ claims) = grind (arith, common_steps, lower_join, lower_turn, (lowest_parts t q claims))

-- tests that agree on some claims
pub lowest_same : (q t u : ClaimValue → Bool) → ((c : ClaimValue) → q c ≡ true → t c ≡ u c) → (claims : List ClaimValue) → list_all q claims ≡ true → lowest t claims ≡ lowest u claims
lowest_same q t u same [] all = refl
lowest_same q t u same (c ∷ claims) all = grind (arith, common_steps, (same c), (lowest_same q t u same claims))

-- none passes
pub lowest_none : (q t : ClaimValue → Bool) → ((c : ClaimValue) → q c ≡ true → t c ≡ false) → (claims : List ClaimValue) → list_all q claims ≡ true → None ≡ lowest t claims
lowest_none q t none [] all = refl
lowest_none q t none (c ∷ claims) all = grind (arith, common_steps, (none c), (lowest_none q t none claims))

pub lowest_filter : (t k : ClaimValue → Bool) (claims : List ClaimValue) → lowest t (filter k claims) ≡ lowest (λ c. k c && t c) claims
lowest_filter t k [] = refl
lowest_filter t k (c ∷ claims) = grind (arith, common_steps, (lowest_filter t k claims))

-- with one claim more
pub lowest_planted : (t : ClaimValue → Bool) (c : ClaimValue) (claims : List ClaimValue) → lowest t (planted c claims) ≡ lower_number (number_if t c) (lowest t claims)
lowest_planted t c [] = refl
lowest_planted t c (d ∷ claims) = grind (arith, common_steps, lower_turn, (lowest_planted t c claims))

pub lowest_last : (t : ClaimValue → Bool) (claims : List ClaimValue) (c : ClaimValue) → lowest t (claims ++ c ∷ []) ≡ lower_number (number_if t c) (lowest t claims)
lowest_last t [] c = refl
lowest_last t (d ∷ claims) c = ap (lower_number (number_if t d)) (lowest_last t claims c) ∙ lower_turn (number_if t d) (number_if t c) (lowest t claims)

pub lowest_is_first : (t : ClaimValue → Bool) (least end : ℕ) (rows : List RowValue) → are_numbered least end rows ≡ true
    → lowest t (map claim_in rows) ≡ option_map (λ (r : RowValue). r.claim.id) (find (λ (r : RowValue). t r.claim) rows)
lowest_is_first t least end [] is = refl
lowest_is_first t least end (r ∷ rows) is = grind (arith, common_steps, (above t (suc r.claim.id) end rows), (lowest_is_first t (suc r.claim.id) end rows))
