-- Claims whose filters have the same shapes.
use Rattle.std.proofs.Common.{◌≡◌, ℕ, zero, suc, ◌*◌, true, List, [], ◌∷◌, refl, sym, ap, ◌∙◌, arith, inl, inr}
use Rattle.std.specs.List.{AllByRecursion}
use Rattle.std.specs.Prelude.{map}
use Rattle.std.proofs.lemmas.Bool.{or_cases}
use Rattle.filter_tree.specs.ClaimBook.{RowValue, claim_in}
use Rattle.filter_tree.specs.Laws.{AlikeAreFew, ExampleHasThree, example_book, example_filter, example_rows}
use Rattle.filter_tree.specs.Prefixes.{Shape, prefixes_of, shape_of}
use Rattle.filter_tree.proofs.Counting.{distinct_below, distinct_few, in_joined, is_in, length_prefixes, of_claim, of_claims}

abbrev has_shapes : List Shape → RowValue → Type 0
has_shapes shapes r = map shape_of r.claim.filter ≡ shapes

only_these : (shapes : List Shape) (rows : List RowValue) → AllByRecursion (has_shapes shapes) rows → (p : List Shape) → is_in p (of_claims 0 (map claim_in rows)) ≡ true → is_in p (prefixes_of shapes) ≡ true
only_these shapes [] all p is = cc
only_these shapes (r ∷ rows) all p is =
    elim (or_cases (is_in p (of_claim 0 r.claim)) (is_in p (of_claims 0 (map claim_in rows))) (sym (in_joined p (of_claim 0 r.claim) (of_claims 0 (map claim_in rows))) ∙ is)) [
      | inl here ↦ ap (λ (s : List Shape). is_in p (prefixes_of s)) (sym all.0) ∙ here
      | inr there ↦ only_these shapes rows all.1 p there
    ]

pub alike_are_few : AlikeAreFew
alike_are_few book shapes all =
    omega (arith, distinct_below (of_claims 0 (map claim_in book.rows)) (prefixes_of shapes) (only_these shapes book.rows all), distinct_few (prefixes_of shapes), length_prefixes shapes)

-- all filters of the example have the shapes of the first
all_alike : (first n : ℕ) → AllByRecursion (has_shapes (map shape_of (example_filter 0))) (example_rows first n)
all_alike first zero = tt
all_alike first (suc n) = (refl, all_alike (suc first) n)

pub example_has_three : ExampleHasThree
example_has_three envs = alike_are_few (example_book envs) (map shape_of (example_filter 0)) (all_alike 0 (envs * 8))
