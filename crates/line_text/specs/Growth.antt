-- Lists that grow at their end.
use Rattle.std.specs.Prelude.{◌≡◌, ℕ, List, ◌++◌}

-- a list begins as it did
pub record Keeps (before after : List ℕ) : Type 0 where
  pub more : List ℕ
  pub is : after ≡ before ++ more
