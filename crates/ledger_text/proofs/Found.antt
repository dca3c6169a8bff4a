-- What is found in a list passes the test, and whatever all elements pass.
use Rattle.std.proofs.Common.{refl, subst, ◌≡◌, List, [], ◌∷◌, Bool, true, false, Some}
use Rattle.std.specs.Prelude.{if◌then◌else◌}
use Rattle.std.specs.List.{find, list_all}
use Rattle.std.proofs.lemmas.Bool.{and_parts}

pub found_passes : {X : Type 0} (p test : X → Bool) (xs : List X) (x : X) → list_all p xs ≡ true → find test xs ≡ Some x → (p x ≡ true) × (test x ≡ true)
found_passes p test [] x all found = cc
found_passes p test (y ∷ ys) x all found =
    let parts = and_parts (p y) (list_all p ys) all in
    by_test (test y) refl parts.0 (found_passes p test ys x parts.1) found
  where
    by_test : (b : Bool) → test y ≡ b → p y ≡ true → (find test ys ≡ Some x → (p x ≡ true) × (test x ≡ true)) → (if b then Some y else find test ys) ≡ Some x
        → (p x ≡ true) × (test x ≡ true)
    by_test true is passes later found = let same : y ≡ x = cc in subst (λ z. (p z ≡ true) × (test z ≡ true)) same (passes, is)
    by_test false is passes later found = later found
