-- Rows that are emptied once more.
use Rattle.std.proofs.Common.{◌≡◌, refl, Bool, List, [], ◌∷◌, inl, inr}
use Rattle.std.proofs.lemmas.Bool.{cases_Bool}
use Rattle.r3k_tlb.specs.declared.row.Row.{Row}
use Rattle.r3k_tlb.specs.Row.{emptied_row}
use Rattle.r3k_tlb.specs.Rows.{emptied_if, emptied_where}

-- an emptied row is as one that is emptied once more
empty_stays : (test : Row → Bool) → emptied_if test emptied_row ≡ emptied_row
empty_stays test = elim (cases_Bool (test emptied_row)) [ inl is ↦ rw is refl | inr other ↦ rw other refl ]

same_twice : (test : Row → Bool) (row : Row) → emptied_if test (emptied_if test row) ≡ emptied_if test row
same_twice test row = elim (cases_Bool (test row)) [ inl is ↦ rw is (empty_stays test) | inr other ↦ rw (other, other) refl ]

-- rows that are emptied by a test stay when they are emptied by it once more
pub emptied_once : (test : Row → Bool) (rows : List Row) → emptied_where test (emptied_where test rows) ≡ emptied_where test rows
emptied_once test [] = refl
emptied_once test (row ∷ rows) = rw (same_twice test row, emptied_once test rows) refl
