-- Sums of one term more.
use Rattle.std.proofs.Common.{◌≡◌, ℕ, ◌+◌, List, take, add-one, arith}
use Rattle.std.specs.Prelude.{Some, sum, sum_by, slice_get}
use Rattle.std.proofs.lemmas.Grind.{common_steps}
use Rattle.std.proofs.lemmas.List.Sums.{sum_by_more, sum_by_push}
use Rattle.std.proofs.lemmas.Option.{gets}
use Rattle.world_model.specs.Table.{listed}

pub sum_more : (f : List ℕ → ℕ) (xs : List (List ℕ)) (i : ℕ) (x : List ℕ) → slice_get xs i ≡ Some x →
    sum_by f (take (i + 1) xs) ≡ sum_by f (take i xs) + f x
sum_more f xs i x is = grind (arith, common_steps, gets, sum_by_more)

pub listed_more : (f : ℕ → ℕ) (i : ℕ) → sum (listed f (i + 1)) ≡ sum (listed f i) + f i
listed_more f i = rw add-one (sum_by_push (λ n. n) (listed f i) (f i))
