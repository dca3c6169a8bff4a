-- Places that are found from the front on.
use Rattle.std.proofs.Common.{◌≡◌, ℕ, List, [], ◌∷◌, Bool, not, length, refl, ◌∙◌, arith, inl, inr}
use Rattle.std.proofs.lemmas.Bool.{cases_Bool, cases_lt, lt-ltb, le-ltb}
use Rattle.std.proofs.lemmas.List.Sums.{prefix_len-le-length}
use Rattle.std.specs.List.{position, position_or_len, prefix_len}
use Rattle.std.specs.Option.{unwrap_or}

-- how many stand before the first that passes: its place, or the length
pub first_place : (p : ℕ → Bool) (xs : List ℕ) → position_or_len p xs ≡ unwrap_or (position p xs) (length xs)
first_place p xs =
    elim (cases_lt (position_or_len p xs) (length xs)) [
      | inl within ↦ rw (lt-ltb _ _ within) refl
      | inr end ↦ rw (le-ltb _ _ end) (omega (arith, prefix_len-le-length (λ x. not (p x)) xs))
    ]

same_front : (p : ℕ → Bool) (xs : List ℕ) → prefix_len p xs ≡ prefix_len (λ x. not (not (p x))) xs
same_front p [] = refl
same_front p (x ∷ xs) = elim (cases_Bool (p x)) [ inl is ↦ rw (is, same_front p xs) refl | inr is ↦ rw is refl ]

-- how many pass at the front
pub front_place : (p : ℕ → Bool) (xs : List ℕ) → prefix_len p xs ≡ unwrap_or (position (λ x. not (p x)) xs) (length xs)
front_place p xs = same_front p xs ∙ first_place (λ x. not (p x)) xs
