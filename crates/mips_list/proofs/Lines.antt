-- Lines, one after another.
use Rattle.std.proofs.Common.{◌≡◌, ℕ, ◌+◌, List, [], ◌∷◌, ◌++◌, sym, ap, ◌∙◌, arith, append_assoc, append-nil}
use Rattle.std.proofs.lemmas.List.{flat_map_more, map-id}
use Rattle.std.proofs.lemmas.List.FromFn.{map-range_with_len_more}
use Rattle.std.specs.List.{flat_map, range_with_len}
use Rattle.line_text.specs.WrittenLine.{line}

range_more : (k : ℕ) → range_with_len 0 (k + 1) ≡ range_with_len 0 k ++ k ∷ []
range_more k =
    sym (map-id (range_with_len 0 (k + 1)))
    ∙ map-range_with_len_more (λ x. x) 0 k k (omega arith)
    ∙ ap (λ ks. ks ++ k ∷ []) (map-id (range_with_len 0 k))

-- one more line behind those of the first numbers
pub lines_more : (f : ℕ → List ℕ) (k : ℕ) (old so_far after : List ℕ) → so_far ≡ old ++ flat_map f (range_with_len 0 k) → after ≡ so_far ++ f k
    → after ≡ old ++ flat_map f (range_with_len 0 (k + 1))
lines_more f k old so_far after before pushed =
    pushed
    ∙ ap (λ xs. xs ++ f k) before
    ∙ flat_map_more f old (range_with_len 0 k) k
    ∙ ap (λ ks. old ++ flat_map f ks) (sym (range_more k))

-- the words of a line, one behind the other
pub three_words : (old a b text : List ℕ) → ((((old ++ a) ++ 32 ∷ b) ++ 32 ∷ []) ++ text) ++ 10 ∷ [] ≡ old ++ line (a ∷ b ∷ text ∷ [])
three_words old a b text = simp (append_assoc, append-nil) (ap (λ rest. old ++ (a ++ 32 ∷ rest)) (sym (append_assoc b (32 ∷ text) (10 ∷ []))))
