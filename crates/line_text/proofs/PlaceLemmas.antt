-- Each line lies in the text where its place says.
use Rattle.std.proofs.Common.{◌≡◌, ℕ, ◌+◌, ◌-◌, ◌≤◌, List, [], ◌∷◌, ◌++◌, Bool, true, false, cond, length, take, refl, sym, ◌∙◌, arith, inl, inr, append_assoc, length-append, length-take}
use Rattle.std.proofs.Math.Seq.{take-length, drop-append_seam}
use Rattle.std.proofs.lemmas.Bool.{cases_Bool}
use Rattle.std.proofs.lemmas.List.{take-append-le, take_min}
use Rattle.std.specs.List.{AllByRecursion, concat, onto_first}
use Rattle.line_text.specs.Lines.{IsPlaced, pieces_of, lines_from, without_end, lines_of}
use Rattle.line_text.proofs.PieceLemmas.{is_feed}

-- a list is the front of another
record IsFrontOf (xs ys : List ℕ) : Type 0 where
  bytes : take (length ys) xs ≡ ys
  short : length ys ≤ length xs

take_again : (k : ℕ) (xs : List ℕ) → take (length (take k xs)) xs ≡ take k xs
take_again k xs = rw (length-take k xs) (take_min k xs)

front_take : (k : ℕ) (xs : List ℕ) → IsFrontOf xs (take k xs)
front_take k xs = record { bytes = take_again k xs; short = omega (arith, length-take k xs) }

front_whole : (xs : List ℕ) → IsFrontOf xs xs
front_whole xs = record { bytes = take-length xs; short = omega arith }

front_chosen : (v : Bool) (xs a b : List ℕ) → IsFrontOf xs a → IsFrontOf xs b → IsFrontOf xs (cond v a b)
front_chosen true xs a b front other = front
front_chosen false xs a b front other = other

-- a piece without its end is its front
without_end_front : (piece : List ℕ) → IsFrontOf piece (without_end piece)
without_end_front piece =
    front_chosen _ piece _ _ (front_take (length piece - 2) piece)
    (front_chosen _ piece _ _ (front_take (length piece - 1) piece) (front_whole piece))

concat_first : (b : ℕ) (pieces : List (List ℕ)) → concat (onto_first b pieces) ≡ b ∷ concat pieces
concat_first b [] = refl
concat_first b (piece ∷ pieces) = refl

-- the pieces are the whole text
whole_text : (bs : List ℕ) → concat (pieces_of bs) ≡ bs
whole_text [] = refl
whole_text (b ∷ bs) =
    elim (cases_Bool (is_feed b)) [
      | inl is ↦ rw (is, whole_text bs) refl
      | inr is ↦ rw (is, concat_first b (pieces_of bs), whole_text bs) refl
    ]

placed_first : (front piece rest : List ℕ) (number : ℕ) → IsPlaced (front ++ (piece ++ rest)) (record { number = number; start = length front; text = without_end piece })
placed_first front piece rest number = record {
  within = rw (length-append front (piece ++ rest), length-append piece rest) (omega (arith, (without_end_front piece).short));
  bytes = rw (drop-append_seam front (piece ++ rest), take-append-le (length (without_end piece)) piece rest (without_end_front piece).short) (without_end_front piece).bytes;
}

placed_from : (text front : List ℕ) (number : ℕ) (pieces : List (List ℕ)) → text ≡ front ++ concat pieces →
    AllByRecursion (IsPlaced text) (lines_from number (length front) pieces)
placed_from text front number [] is = tt
placed_from text front number (piece ∷ pieces) is = (
  rw is (placed_first front piece (concat pieces) number),
  rw (← length-append front piece) (placed_from text (front ++ piece) (number + 1) pieces (is ∙ sym (append_assoc front piece (concat pieces)))),
)

pub lines_placed : (text : List ℕ) → AllByRecursion (IsPlaced text) (lines_of text)
lines_placed text = placed_from text [] 1 (pieces_of text) (sym (whole_text text))
