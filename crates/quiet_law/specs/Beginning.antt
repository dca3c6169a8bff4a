-- Lists that begin others.
use Rattle.std.specs.Prelude.{◌≡◌, ◌⊎◌, List, ◌++◌}

-- a list begins another: the other is this list, and then a rest
pub record IsBeginning {A : Type 0} (xs ys : List A) : Type 0 where
  pub rest : List A
  pub is : xs ++ rest ≡ ys

-- two lists differ nowhere as far as both go: each that is shorter begins the other
abbrev pub NeverDiffer : {A : Type 0} → List A → List A → Type 0
NeverDiffer xs ys = IsBeginning xs ys ⊎ IsBeginning ys xs
