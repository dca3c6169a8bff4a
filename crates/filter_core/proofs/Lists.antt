-- What holds of each element of a list.
use Rattle.std.proofs.Common.{◌≡◌, ℕ, Bool, true, List, [], ◌∷◌, refl}
use Rattle.std.proofs.lemmas.Bool.{and_from, and_parts}
use Rattle.std.specs.List.{AllByRecursion, list_all}

pub all_of : {X : Type 0} (t : X → Bool) (P : X → Type 0) → ((x : X) → t x ≡ true → P x) → (xs : List X) → list_all t xs ≡ true → AllByRecursion P xs
all_of t P each [] all = tt
all_of t P each (x ∷ xs) all = let parts = and_parts (t x) (list_all t xs) all in (each x parts.0, all_of t P each xs parts.1)

pub list_all_of : {X : Type 0} (t : X → Bool) (P : X → Type 0) → ((x : X) → P x → t x ≡ true) → (xs : List X) → AllByRecursion P xs → list_all t xs ≡ true
list_all_of t P each [] all = refl
list_all_of t P each (x ∷ xs) all = and_from (t x) (list_all t xs) (each x all.0) (list_all_of t P each xs all.1)

pub all_map : {X : Type 0} (P Q : X → Type 0) → ((x : X) → P x → Q x) → (xs : List X) → AllByRecursion P xs → AllByRecursion Q xs
all_map P Q each [] all = tt
all_map P Q each (x ∷ xs) all = (each x all.0, all_map P Q each xs all.1)

pub all_zip : {X : Type 0} (P Q R : X → Type 0) → ((x : X) → P x → Q x → R x) → (xs : List X) → AllByRecursion P xs → AllByRecursion Q xs → AllByRecursion R xs
all_zip P Q R each [] all both = tt
all_zip P Q R each (x ∷ xs) all both = (each x all.0 both.0, all_zip P Q R each xs all.1 both.1)

-- what holds of each at each number
pub all_at_each : {X : Type 0} (P : ℕ → X → Type 0) (xs : List X) → ((n : ℕ) → AllByRecursion (P n) xs) → AllByRecursion (λ x. (n : ℕ) → P n x) xs
all_at_each P [] all = tt
all_at_each P (x ∷ xs) all = (λ n. (all n).0, all_at_each P xs (λ n. (all n).1))

-- what holds of each of the one with each of the other
pub all_swap : {X Y : Type 0} (R : X → Y → Type 0) (xs : List X) (ys : List Y) → AllByRecursion (λ x. AllByRecursion (λ y. R x y) ys) xs → AllByRecursion (λ y. AllByRecursion (λ x. R x y) xs) ys
all_swap R xs [] all = tt
all_swap R xs (y ∷ ys) all = (
  all_map (λ x. R x y × AllByRecursion (λ z. R x z) ys) (λ x. R x y) (λ x both. both.0) xs all,
  all_swap R xs ys (all_map (λ x. R x y × AllByRecursion (λ z. R x z) ys) (λ x. AllByRecursion (λ z. R x z) ys) (λ x both. both.1) xs all),
)
