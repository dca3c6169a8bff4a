-- The first piece of a text.
use Rattle.std.proofs.Common.{◌≡◌, ℕ, suc, ◌+◌, ◌<◌, List, [], ◌∷◌, Bool, length, take, drop, min, refl, arith, inl, inr}
use Rattle.std.proofs.lemmas.Bool.{cases_Bool}
use Rattle.std.proofs.lemmas.List.{take_min, drop_min}
use Rattle.std.specs.Prelude.{◌==◌}
use Rattle.std.specs.List.{position_or_len}
use Rattle.line_text.specs.Lines.{pieces_of}

abbrev pub is_feed : ℕ → Bool
is_feed b = b == 10

-- the first piece ends with the first line feed, or with the text
first_piece : (xs : List ℕ) → 0 < length xs →
    pieces_of xs ≡ take (position_or_len is_feed xs + 1) xs ∷ pieces_of (drop (position_or_len is_feed xs + 1) xs)
first_piece [] some = absurd (omega arith)
first_piece (b ∷ []) some = elim (cases_Bool (is_feed b)) [ inl is ↦ rw is refl | inr is ↦ rw is refl ]
first_piece (b ∷ c ∷ bs) some =
    let next : (1 + position_or_len is_feed (c ∷ bs)) + 1 ≡ suc (position_or_len is_feed (c ∷ bs) + 1) = omega arith in
    elim (cases_Bool (is_feed b)) [ inl is ↦ rw is refl | inr is ↦ rw (is, next, first_piece (c ∷ bs) (omega arith)) refl ]

-- so its length is that of what stands before it and one, or of the text
pub pieces_cut : (xs : List ℕ) → 0 < length xs → let n = min (position_or_len is_feed xs + 1) (length xs) in pieces_of xs ≡ take n xs ∷ pieces_of (drop n xs)
pieces_cut xs some = rw (take_min (position_or_len is_feed xs + 1) xs, drop_min (position_or_len is_feed xs + 1) xs) (first_piece xs some)
