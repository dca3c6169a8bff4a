-- A list that is mapped in its place, an element further.
use Rattle.std.proofs.Common.{arith, refl, ◌≡◌, ◌+◌, ◌<◌, ℕ, length, List, [], ◌∷◌, ◌++◌, map, take, drop, get_or, slice_set, append_assoc}
use Rattle.std.proofs.lemmas.List.{take_more_set, drop-set-lt, drop_more}

pub mapped_further : {X : Type 0} (f : X → X) (xs : List X) (i : ℕ) (d : X) → i < length xs → take (i + 1) (slice_set xs i (f (get_or xs i d))) ++ map f (drop (i + 1) (slice_set xs i (f (get_or xs i d)))) ≡ take i xs ++ map f (drop i xs)
mapped_further f xs i d within = rw (take_more_set xs i (f (get_or xs i d)) within, drop-set-lt (i + 1) xs i (f (get_or xs i d)) (omega arith), drop_more xs i d within, append_assoc (take i xs) (f (get_or xs i d) ∷ []) (map f (drop (i + 1) xs))) refl
