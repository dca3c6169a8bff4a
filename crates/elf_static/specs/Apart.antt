-- Things that have bytes at addresses, and lie apart from one another.
use Rattle.std.specs.Prelude.{ℕ, List, [], ◌∷◌}
use Rattle.std.specs.List.{AllByRecursion}

-- no address is that of a byte of both
abbrev pub AreApart : {X : Type 0} → (X → ℕ → Type 0) → X → X → Type 0
AreApart covers one other = (address : ℕ) → covers one address → covers other address → ⊥

-- no two of them meet
abbrev pub NoTwoMeet : {X : Type 0} → (X → ℕ → Type 0) → List X → Type 0
NoTwoMeet covers [] = Unit {0}
NoTwoMeet covers (first ∷ others) = AllByRecursion (AreApart covers first) others × NoTwoMeet covers others
