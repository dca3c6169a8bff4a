-- Lists some of whose members are found, and some left out.
use Rattle.std.proofs.Common.{◌≡◌, ℕ, zero, suc, List, [], ◌∷◌, ◌++◌, map, Bool, true, false, not, cond, Some, None, ◌⊎◌, inl, inr, arith, refl, sym, ◌∙◌, ap}
use Rattle.std.specs.Prelude.{filter, find, slice_get}
use Rattle.std.specs.Option.{option_map}

-- a list has a member
abbrev pub Has : {A : Type 0} → List A → A → Type 0
Has xs x = (k : ℕ) × (slice_get xs k ≡ Some x)

module _ {A : Type 0} where
  further : (y : A) (ys : List A) (x : A) → Has ys x → Has (y ∷ ys) x
  further y ys x (k, there) = (suc k, there)

  -- what is left was there, and was to be left
  pub left_there : (keep : A → Bool) (xs : List A) (x : A) → Has (filter keep xs) x → (keep x ≡ true) × Has xs x
  left_there keep [] x (k, there) = cc
  left_there keep (y ∷ ys) x (k, there) = by_test (keep y) refl (λ n is. left_there keep ys x (n, is)) k there
    where
      rest : (keep x ≡ true) × Has ys x → (keep x ≡ true) × Has (y ∷ ys) x
      rest (kept, its) = (kept, further y ys x its)

      by_test : (t : Bool) → keep y ≡ t → ((n : ℕ) → slice_get (filter keep ys) n ≡ Some x → (keep x ≡ true) × Has ys x)
          → (n : ℕ) → slice_get (cond t (y ∷ filter keep ys) (filter keep ys)) n ≡ Some x → (keep x ≡ true) × Has (y ∷ ys) x
      by_test true kept before zero is = let same : y ≡ x = cc in (ap keep (sym same) ∙ kept, (zero, ap Some same))
      by_test true kept before (suc n) is = rest (before n is)
      by_test false goes before n is = rest (before n is)

  -- what a longer list has
  pub had_or_last : (xs : List A) (y x : A) → Has (xs ++ y ∷ []) x → Has xs x ⊎ (y ≡ x)
  had_or_last [] y x (zero, is) = inr cc
  had_or_last [] y x (suc k, is) = cc
  had_or_last (z ∷ zs) y x (zero, is) = inl (zero, is)
  had_or_last (z ∷ zs) y x (suc k, is) = elim (had_or_last zs y x (k, is)) [ inl had ↦ inl (further z zs x had) | inr last ↦ inr last ]

  -- what is found is there, and was looked for
  pub found_there : (test : A → Bool) (xs : List A) (x : A) → find test xs ≡ Some x → (test x ≡ true) × Has xs x
  found_there test [] x is = cc
  found_there test (y ∷ ys) x is = by_test (test y) refl (found_there test ys x) is
    where
      by_test : (t : Bool) → test y ≡ t → (find test ys ≡ Some x → (test x ≡ true) × Has ys x) → cond t (Some y) (find test ys) ≡ Some x → (test x ≡ true) × Has (y ∷ ys) x
      by_test true here before is = let same : y ≡ x = cc in (ap test (sym same) ∙ here, (zero, ap Some same))
      by_test false other before is = let its = before is in (its.0, further y ys x its.1)

  -- and what isn't found isn't there
  pub not_there : (test : A → Bool) (xs : List A) → find test xs ≡ None → (x : A) → Has xs x → test x ≡ false
  not_there test [] is x (k, there) = cc
  not_there test (y ∷ ys) is x (zero, at) = grind arith
  not_there test (y ∷ ys) is x (suc n, at) = grind (arith, λ (none : find test ys ≡ None). not_there test ys none x (n, at))

  -- it is found still among those that are left
  pub still_found : (test keep : A → Bool) (xs : List A) (x : A) → keep x ≡ true → find test xs ≡ Some x → find test (filter keep xs) ≡ Some x
  still_found test keep [] x kept is = cc
  still_found test keep (y ∷ ys) x kept is = grind (arith, still_found test keep ys x kept)

  -- and in a longer list
  pub found_before : (test : A → Bool) (xs : List A) (y x : A) → find test xs ≡ Some x → find test (xs ++ y ∷ []) ≡ Some x
  found_before test [] y x is = cc
  found_before test (z ∷ zs) y x is = grind (arith, found_before test zs y x)

  pub found_last : (test : A → Bool) (xs : List A) (y : A) → ((x : A) → Has xs x → test x ≡ false) → test y ≡ true → find test (xs ++ y ∷ []) ≡ Some y
  found_last test [] y none here = ap (λ t. cond t (Some y) None) here
  found_last test (z ∷ zs) y none here = grind (arith, none z (zero, refl), found_last test zs y (λ x its. none x (further z zs x its)))

  -- what is left out in two goes
  pub filter_swap : (p q : A → Bool) (xs : List A) → filter p (filter q xs) ≡ filter q (filter p xs)
  filter_swap p q [] = refl
  filter_swap p q (x ∷ xs) = grind (arith, filter_swap p q xs)

  -- of some that are looked at, two tests leave the same
  pub filter_same : (p q r : A → Bool) (xs : List A) → ((x : A) → Has xs x → p x ≡ true → q x ≡ r x) → filter p (filter q xs) ≡ filter p (filter r xs)
  filter_same p q r [] same = refl
  filter_same p q r (x ∷ xs) same =
      grind (arith, filter_same p q r xs (λ y its. same y (further x xs y its)), same x (zero, refl))

  -- or all of them
  pub filter_spares : (p q : A → Bool) (xs : List A) → ((x : A) → Has xs x → p x ≡ true → q x ≡ true) → filter p (filter q xs) ≡ filter p xs
  filter_spares p q xs spared = filter_same p q (λ x. true) xs spared ∙ ap (filter p) (all_left xs)
    where
      all_left : (ys : List A) → filter (λ x. true) ys ≡ ys
      all_left [] = refl
      all_left (y ∷ ys) = ap (λ zs. y ∷ zs) (all_left ys)

  -- or none
  pub filter_none : (p : A → Bool) (xs : List A) → filter p (filter (λ x. not (p x)) xs) ≡ []
  filter_none p [] = refl
  filter_none p (x ∷ xs) = grind (arith, filter_none p xs)

module _ {A B : Type 0} (f : A → B) where
  -- what is left of values, and what is found among them
  pub filter_map : (p : B → Bool) (xs : List A) → filter p (map f xs) ≡ map f (filter (λ x. p (f x)) xs)
  filter_map p [] = refl
  filter_map p (x ∷ xs) = grind (arith, filter_map p xs)

  pub find_map : (p : B → Bool) (xs : List A) → find p (map f xs) ≡ option_map f (find (λ x. p (f x)) xs)
  find_map p [] = refl
  find_map p (x ∷ xs) = grind (arith, find_map p xs)
