-- A text is cut into the lines of which it was made, and a line into its words.
use Rattle.std.proofs.Common.{arith, refl, ◌∙◌, ap, ◌≡◌, ◌-◌, ℕ, zero, suc, List, [], ◌∷◌, ◌++◌, append_assoc, length, length-append, Bool, true, false, take, drop}
use Rattle.std.specs.Prelude.{◌==◌, nat_eq, nat_le, not, codes}
use Rattle.std.specs.List.{AllByRecursion, ends_with, flat_map, list_all, position_or_len, slice_split}
use Rattle.std.specs.Cmp.Lexicographic.{pointwise}
use Rattle.std.proofs.Math.Seq.{drop-append_seam, take-append_seam}
use Rattle.std.proofs.lemmas.Bool.{and_from, and_left, and_parts, cond-true, cond-false, leb-true, ne_eqb, not_from_false}
use Rattle.std.proofs.lemmas.List.{append-nil}
use Rattle.std.proofs.lemmas.List.Folds.{list_all-append}
use Rattle.line_text.specs.Lines.{pieces_of, without_end}
use Rattle.line_text.specs.WrittenLine.{line, spaced}
use Rattle.ledger_text.specs.LineKinds.{first_word}
use Rattle.ledger_text.specs.Words.{is_space, spaced_words}
use Rattle.report_law.proofs.Bytes.{AtLeast, both, one}

-- the first line of a text
pub first_piece : (body rest : List ℕ) → AtLeast 32 body → pieces_of (body ++ 10 ∷ rest) ≡ (body ++ 10 ∷ []) ∷ pieces_of rest
first_piece [] rest are = refl
first_piece (b ∷ bs) rest are =
    let parts = and_parts (nat_le 32 b) (list_all (nat_le 32) bs) are in
    let high = leb-true 32 b parts.0 in
    rw (ne_eqb b 10 (λ (same : b ≡ 10). omega (arith, same, high)), first_piece bs rest parts.1) refl

-- no carriage return stands before its end
abbrev is_other : ℕ → Bool
is_other b = not (13 == b)

others : (bs : List ℕ) → AtLeast 32 bs → list_all is_other bs ≡ true
others [] are = refl
others (b ∷ bs) are =
    let parts = and_parts (nat_le 32 b) (list_all (nat_le 32) bs) are in
    let high = leb-true 32 b parts.0 in
    and_from (is_other b) (list_all is_other bs) (not_from_false (13 == b) (ne_eqb 13 b (λ (same : 13 ≡ b). omega (arith, same, high)))) (others bs parts.1)

others_left : (k : ℕ) (bs : List ℕ) → list_all is_other bs ≡ true → list_all is_other (drop k bs) ≡ true
others_left zero bs are = are
others_left (suc k) [] are = refl
others_left (suc k) (b ∷ bs) are = others_left k bs (and_parts (is_other b) (list_all is_other bs) are).1

no_return : (bs : List ℕ) → list_all is_other bs ≡ true → pointwise nat_eq (codes "\r\n") bs ≡ false
no_return [] are = refl
no_return (b ∷ bs) are = and_left (13 == b) _ (not_true_of (13 == b) (and_parts (is_other b) (list_all is_other bs) are).0)
  where
    not_true_of : (t : Bool) → not t ≡ true → t ≡ false
    not_true_of true is = cc
    not_true_of false is = refl

pub line_end : (body : List ℕ) → AtLeast 32 body → without_end (body ++ 10 ∷ []) ≡ body
line_end body are =
    let piece = body ++ 10 ∷ [] in
    let many : length piece - 1 ≡ length body = omega (arith, length-append body (10 ∷ [])) in
    let all : list_all is_other piece ≡ true = list_all-append is_other body (10 ∷ []) ∙ and_from (list_all is_other body) true (others body are) refl in
    let feed : ends_with nat_eq piece (codes "\n") ≡ true =
    ap (λ (n : ℕ). pointwise nat_eq (codes "\n") (drop n piece)) many ∙ ap (pointwise nat_eq (codes "\n")) (drop-append_seam body (10 ∷ [])) in
    cond-false (ends_with nat_eq piece (codes "\r\n")) _ _ (no_return (drop (length piece - 2) piece) (others_left (length piece - 2) piece all))
    ∙ cond-true (ends_with nat_eq piece (codes "\n")) _ _ feed
    ∙ ap (λ (n : ℕ). take n piece) many ∙ take-append_seam body (10 ∷ [])

-- a word is what stands before the next space
next_word : (word rest : List ℕ) → AtLeast 33 word → slice_split is_space (word ++ 32 ∷ rest) ≡ word ∷ slice_split is_space rest
next_word [] rest are = refl
next_word (b ∷ bs) rest are =
    let parts = and_parts (nat_le 33 b) (list_all (nat_le 33) bs) are in
    let high = leb-true 33 b parts.0 in
    rw (ne_eqb b 32 (λ (same : b ≡ 32). omega (arith, same, high)), next_word bs rest parts.1) refl

last_word : (word : List ℕ) → AtLeast 33 word → slice_split is_space word ≡ word ∷ []
last_word [] are = refl
last_word (b ∷ bs) are =
    let parts = and_parts (nat_le 33 b) (list_all (nat_le 33) bs) are in
    let high = leb-true 33 b parts.0 in
    rw (ne_eqb b 32 (λ (same : b ≡ 32). omega (arith, same, high)), last_word bs parts.1) refl

pub words_cut : (word : List ℕ) (words : List (List ℕ)) → AtLeast 33 word → AllByRecursion (AtLeast 33) words → spaced_words (word ++ flat_map spaced words) ≡ word ∷ words
words_cut word [] first rest = ap spaced_words (append-nil word) ∙ last_word word first
words_cut word (next ∷ words) first (second, rest) =
    next_word word (next ++ flat_map spaced words) first ∙ ap (λ (ws : List (List ℕ)). word ∷ ws) (words_cut next words second rest)

plain_length : (word : List ℕ) (words : List (List ℕ)) → AtLeast 33 word → position_or_len is_space (word ++ flat_map spaced words) ≡ length word
plain_length [] [] are = refl
plain_length [] (next ∷ words) are = refl
plain_length (b ∷ bs) words are =
    let parts = and_parts (nat_le 33 b) (list_all (nat_le 33) bs) are in
    let high = leb-true 33 b parts.0 in
    let rest = plain_length bs words parts.1 in
    rw (ne_eqb b 32 (λ (same : b ≡ 32). omega (arith, same, high))) (omega (arith, rest))

pub first_plain : (word : List ℕ) (words : List (List ℕ)) → AtLeast 33 word → first_word (word ++ flat_map spaced words) ≡ word
first_plain word words are =
    ap (λ (n : ℕ). take n (word ++ flat_map spaced words)) (plain_length word words are) ∙ take-append_seam word (flat_map spaced words)

pub words_plain : (words : List (List ℕ)) → AllByRecursion (AtLeast 32) words → AtLeast 32 (flat_map spaced words)
words_plain [] are = refl
words_plain (word ∷ words) (here, rest) = one 32 32 (word ++ flat_map spaced words) (omega arith) (both 32 word (flat_map spaced words) here (words_plain words rest))

-- a line, and what stands behind it
pub line_then : (word : List ℕ) (words : List (List ℕ)) (rest : List ℕ) → line (word ∷ words) ++ rest ≡ (word ++ flat_map spaced words) ++ 10 ∷ rest
line_then word words rest = append_assoc (word ++ flat_map spaced words) (10 ∷ []) rest
