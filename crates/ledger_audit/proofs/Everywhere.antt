-- Arrays of one value.
use Rattle.std.proofs.Common.{◌≡◌, ℕ, inl, inr, replicate}
use Rattle.std.specs.Prelude.{slice_index, slice_index_or}
use Rattle.std.proofs.lemmas.Bool.{cases_lt}
use Rattle.std.proofs.lemmas.List.{get_or-replicate, get_or_past, length-replicate}

pub same_everywhere : {X : Type 0} (n k : ℕ) (d : X) → slice_index_or (replicate n d) k d ≡ d
same_everywhere n k d =
    elim (cases_lt k n) [
      | inl less ↦ get_or-replicate n k d d less
      | inr more ↦ get_or_past (replicate n d) k d (rw (length-replicate n d) more)
    ]

pub zero_everywhere : (n k : ℕ) → slice_index (replicate n 0) k ≡ 0
zero_everywhere n k = same_everywhere n k 0
