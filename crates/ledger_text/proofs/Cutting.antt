-- A text that is cut at its first space.
use Rattle.std.proofs.lemmas.Grind.{common_steps}
use Rattle.std.proofs.Common.{◌≡◌, ◌≤◌, ◌+◌, ◌-◌, ℕ, List, [], ◌∷◌, Bool, Some, None, take, drop, length, refl, sym, ◌∙◌, ap, arith, inl, inr, length-drop}
use Rattle.std.proofs.Math.Seq.{take-length}
use Rattle.std.specs.List.{position, position_or_len, slice_split}
use Rattle.std.proofs.lemmas.Bool.{cases_Bool, cases_lt, lt-ltb, le-ltb}
use Rattle.std.proofs.lemmas.List.Splits.{slice_split_first, slice_split-cons_no}
use Rattle.ledger_text.specs.Words.{is_space, spaced_words}

whole : (p : ℕ → Bool) (xs : List ℕ) → length xs ≤ position_or_len p xs → slice_split p xs ≡ xs ∷ []
whole p [] end = refl
whole p (x ∷ xs) end = elim (cases_Bool (p x)) [ inl is ↦ grind (arith, common_steps) | inr is ↦ grind (arith, common_steps, whole p xs, slice_split-cons_no) ]

pub cut_found : (text : List ℕ) (at : ℕ) → position is_space text ≡ Some at → spaced_words text ≡ take at text ∷ spaced_words (drop (at + 1) text)
cut_found text at found =
    elim (cases_lt (position_or_len is_space text) (length text)) [
      | inl within ↦ grind (arith, common_steps, slice_split_first is_space text 0 within, lt-ltb _ _ within)
      | inr end ↦ let none : None ≡ Some at = sym (rw (le-ltb _ _ end) refl) ∙ found in cc
    ]

drop_whole : (n : ℕ) (xs : List ℕ) → take (length xs - n) (drop n xs) ≡ drop n xs
drop_whole n xs = ap (λ (m : ℕ). take m (drop n xs)) (sym (length-drop n xs)) ∙ take-length (drop n xs)

pub cut_behind : (text : List ℕ) (at : ℕ) → position is_space text ≡ Some at
    → spaced_words text ≡ take at text ∷ spaced_words (take (length text - (at + 1)) (drop (at + 1) text))
cut_behind text at found = cut_found text at found ∙ ap (λ (rest : List ℕ). take at text ∷ spaced_words rest) (sym (drop_whole (at + 1) text))

pub cut_none : (text : List ℕ) → position is_space text ≡ None → spaced_words text ≡ text ∷ []
cut_none text none =
    elim (cases_lt (position_or_len is_space text) (length text)) [
      | inl within ↦ let some : Some (position_or_len is_space text) ≡ None = sym (rw (lt-ltb _ _ within) refl) ∙ none in cc
      | inr end ↦ whole is_space text end
    ]
