-- A text has no more lines than bytes.
use Rattle.std.proofs.Common.{◌≡◌, ℕ, ◌+◌, ◌<◌, ◌≤◌, ◌^◌, List, [], ◌∷◌, length, refl, arith, inl, inr}
use Rattle.std.proofs.lemmas.Bool.{cases_Bool}
use Rattle.std.specs.Prelude.{◌==◌}
use Rattle.std.specs.List.{onto_first}
use Rattle.line_text.specs.Lines.{lines_from, pieces_of}
use Rattle.line_text.specs.Statements.{end_of}

onto_length : (b : ℕ) (pieces : List (List ℕ)) → length (onto_first b pieces) ≤ 1 + length pieces
onto_length b [] = omega arith
onto_length b (piece ∷ pieces) = omega arith

pieces_short : (bs : List ℕ) → length (pieces_of bs) ≤ length bs
pieces_short [] = omega arith
pieces_short (b ∷ bs) =
    let rest = pieces_short bs in
    elim (cases_Bool (b == 10)) [ inl is ↦ rw is (omega (arith, rest)) | inr is ↦ rw is (omega (arith, rest, onto_length b (pieces_of bs))) ]

lines_length : (number start : ℕ) (pieces : List (List ℕ)) → length (lines_from number start pieces) ≡ length pieces
lines_length number start [] = refl
lines_length number start (piece ∷ pieces) = omega (arith, lines_length (number + 1) (start + length piece) pieces)

pub end_small : (text : List ℕ) → length text < 2 ^ 27 → end_of text < 2 ^ 28
end_small text small = omega (arith, lines_length 1 0 (pieces_of text), pieces_short text)
