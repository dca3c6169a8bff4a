-- Lists of numbered items.
use Rattle.std.specs.Prelude.{ℕ, zero, suc, List, [], ◌++◌}

-- the lists of 0, 1 and so on, this many, end to end
abbrev pub for_each : {X : Type 0} → (ℕ → List X) → ℕ → List X
for_each items zero = []
for_each items (suc n) = for_each items n ++ items n
