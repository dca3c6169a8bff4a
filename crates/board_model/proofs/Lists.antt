-- A list with the element at one place changed.
use Rattle.std.proofs.Common.{◌≡◌, ◌≢◌, ℕ, zero, suc, List, [], ◌∷◌, ◌++◌, length, Some, None, refl, ap}
use Rattle.std.specs.Prelude.{slice_get, slice_set}
use Rattle.std.specs.Option.{option_map}
use Rattle.board_model.specs.Shown.{with_record}

pub changed_here : {A : Type 0} (f : A → A) (xs : List A) (e : ℕ) → slice_get (with_record f xs e) e ≡ option_map f (slice_get xs e)
changed_here f [] e = refl
changed_here f (x ∷ xs) zero = refl
changed_here f (x ∷ xs) (suc e) = changed_here f xs e

pub changed_else : {A : Type 0} (f : A → A) (xs : List A) (e i : ℕ) → i ≢ e → slice_get (with_record f xs e) i ≡ slice_get xs i
changed_else f [] e i ne = refl
changed_else f (x ∷ xs) zero zero ne = absurd (ne refl)
changed_else f (x ∷ xs) zero (suc i) ne = refl
changed_else f (x ∷ xs) (suc e) zero ne = refl
changed_else f (x ∷ xs) (suc e) (suc i) ne = changed_else f xs e i (λ same. ne (ap suc same))

pub length-changed : {A : Type 0} (f : A → A) (xs : List A) (e : ℕ) → length (with_record f xs e) ≡ length xs
length-changed f [] e = refl
length-changed f (x ∷ xs) zero = refl
length-changed f (x ∷ xs) (suc e) = ap suc (length-changed f xs e)

-- what is written in the place of an element
pub set_changed : {A : Type 0} (f : A → A) (xs : List A) (e : ℕ) (x : A) → slice_get xs e ≡ Some x → slice_set xs e (f x) ≡ with_record f xs e
set_changed f [] e x is = refl
set_changed f (y ∷ xs) zero x is = let same : x ≡ y = cc in ap (λ z. f z ∷ xs) same
set_changed f (y ∷ xs) (suc e) x is = ap (λ ys. y ∷ ys) (set_changed f xs e x is)

-- the end of a longer list
pub last_get : {A : Type 0} (xs : List A) (x : A) → slice_get (xs ++ x ∷ []) (length xs) ≡ Some x
last_get [] x = refl
last_get (y ∷ xs) x = last_get xs x

-- what a longer list has elsewhere is what the list has
pub other_get : {A : Type 0} (xs : List A) (x : A) (i : ℕ) → i ≢ length xs → slice_get (xs ++ x ∷ []) i ≡ slice_get xs i
other_get [] x zero ne = absurd (ne refl)
other_get [] x (suc i) ne = refl
other_get (y ∷ xs) x zero ne = refl
other_get (y ∷ xs) x (suc i) ne = other_get xs x i (λ same. ne (ap suc same))

-- behind a list there is nothing
pub past_get : {A : Type 0} (xs : List A) → slice_get xs (length xs) ≡ None
past_get [] = refl
past_get (x ∷ xs) = past_get xs
