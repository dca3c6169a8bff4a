-- Places in lists.
use Rattle.std.proofs.Common.{◌≡◌, ◌<◌, ◌+◌, ◌∙◌, ℕ, zero, suc, List, [], ◌∷◌, ◌++◌, Some, None, ap, arith, drop, length, refl}
use Rattle.std.specs.Prelude.{replicate, slice_get}

pub get_drop : {A : Type 0} (n i : ℕ) (xs : List A) → slice_get (drop n xs) i ≡ slice_get xs (n + i)
get_drop zero i xs = let same : i ≡ 0 + i = omega arith in ap (slice_get xs) same
get_drop (suc n) i [] = refl
get_drop (suc n) i (x ∷ xs) = let same : suc (n + i) ≡ suc n + i = omega arith in get_drop n i xs ∙ ap (slice_get (x ∷ xs)) same

pub get_first : {A : Type 0} (xs ys : List A) (i : ℕ) → i < length xs → slice_get (xs ++ ys) i ≡ slice_get xs i
get_first [] ys i less = absurd (omega (arith, less))
get_first (x ∷ xs) ys zero less = refl
get_first (x ∷ xs) ys (suc i) less = get_first xs ys i (omega (arith, less))

pub get_repeated : {A : Type 0} (k : ℕ) (x : A) (ys : List A) (i : ℕ) → i < k → slice_get (replicate k x ++ ys) i ≡ Some x
get_repeated zero x ys i less = absurd (omega (arith, less))
get_repeated (suc k) x ys zero less = refl
get_repeated (suc k) x ys (suc i) less = get_repeated k x ys i (omega (arith, less))

-- lists that are the same up to a place behind both
pub same_lists : {A : Type 0} (xs ys : List A) (k : ℕ) → ((i : ℕ) → i < k → slice_get xs i ≡ slice_get ys i) → slice_get xs k ≡ None → slice_get ys k ≡ None → xs ≡ ys
same_lists [] [] k below left right = refl
same_lists [] (y ∷ ys) zero below left right = absurd (cc)
same_lists [] (y ∷ ys) (suc k) below left right = let first : None ≡ Some y = below 0 (omega arith) in absurd (cc)
same_lists (x ∷ xs) [] zero below left right = absurd (cc)
same_lists (x ∷ xs) [] (suc k) below left right = let first : Some x ≡ None = below 0 (omega arith) in absurd (cc)
same_lists (x ∷ xs) (y ∷ ys) zero below left right = absurd (cc)
same_lists (x ∷ xs) (y ∷ ys) (suc k) below left right =
    let first : Some x ≡ Some y = below 0 (omega arith) in
    let head : x ≡ y = cc in
    ap (λ z. z ∷ xs) head ∙ ap (λ zs. y ∷ zs) (same_lists xs ys k (λ i less. below (suc i) (omega (arith, less))) left right)
