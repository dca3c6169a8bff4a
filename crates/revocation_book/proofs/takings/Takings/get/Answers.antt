-- A taking comes first in what is left from its place on.
use Rattle.std.proofs.Common.{arith, ◌≡◌, ◌∷◌, ℕ, zero, suc, ◌<◌, List, [], drop, get_or, length, map, take, add-one, refl}
use Rattle.revocation_book.specs.declared.takings.TakingRow.{TakingRow}
use Rattle.revocation_book.specs.TakingRow.{taking_in}
use Rattle.revocation_book.proofs.takings.Takings.get.Goals as goal

first_left : (rows : List TakingRow) (len place : ℕ) (d : TakingRow) → place < length (map taking_in (take len rows))
    → drop place (map taking_in (take len rows)) ≡ taking_in (get_or rows place d) ∷ drop (suc place) (map taking_in (take len rows))
first_left rows zero place d below = absurd (omega arith)
first_left [] (suc len) place d below = absurd (omega arith)
first_left (row ∷ rows) (suc len) zero d below = refl
first_left (row ∷ rows) (suc len) (suc place) d below = first_left rows len place d (omega arith)

pub returns-clause-rest : goal.returns-clause-rest
returns-clause-rest c = rw (add-one, c.taking.ensures, ← c.self.view_is) (first_left c.self.inside.rows c.self.inside.len c.args.place _ (rw (← c.self.view_is) at c.requires))
