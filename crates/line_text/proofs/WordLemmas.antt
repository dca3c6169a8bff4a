-- The words of bytes, one after another.
use Rattle.std.proofs.Common.{◌≡◌, ℕ, suc, ◌+◌, ◌<◌, List, [], ◌∷◌, Bool, true, false, length, take, drop, refl, arith, inl, inr}
use Rattle.std.proofs.Math.Bool.{and-false}
use Rattle.std.proofs.lemmas.Bool.{and_parts, cases_Bool, cases_lt, ne_eqb}
use Rattle.std.proofs.lemmas.Grind.{common_steps}
use Rattle.std.proofs.lemmas.List.Elements.{All-filter, All-take}
use Rattle.std.proofs.lemmas.List.Splits.{slice_split-cons_yes, slice_split-cons_no}
use Rattle.std.proofs.lemmas.List.Sums.{AllPass-from_list_all, list_all-from_AllPass, prefix_len-drop_all, prefix_len-drop_no, prefix_len_stops}
use Rattle.std.specs.List.{filter, list_all, onto_first, position_or_len, prefix_len, slice_split}
use Rattle.std.specs.Prelude.{◌==◌, slice_index_or}
use Rattle.line_text.specs.Characters.{is_blank, is_text_byte}
use Rattle.line_text.specs.Statements.{is_empty_line}
use Rattle.line_text.specs.Words.{before_comment, is_word, words_in, words_of}

-- behind the blanks at the front no blank stands
pub blanks_gone : (bs : List ℕ) → prefix_len is_blank (drop (prefix_len is_blank bs) bs) ≡ 0
blanks_gone bs =
    elim (cases_lt (prefix_len is_blank bs) (length bs)) [
      | inl within ↦ prefix_len-drop_no is_blank bs (prefix_len is_blank bs) 0 within (prefix_len_stops is_blank bs 0 within)
      | inr all ↦ prefix_len-drop_all is_blank bs (prefix_len is_blank bs) all
    ]

-- and the words are the same
pub words_left : (bs : List ℕ) → words_in (drop (prefix_len is_blank bs) bs) ≡ words_in bs
words_left [] = refl
words_left (b ∷ bs) =
    let next : 1 + prefix_len is_blank bs ≡ suc (prefix_len is_blank bs) = omega arith in
    elim (cases_Bool (is_blank b)) [ inl is ↦ rw (is, next) (words_left bs) | inr is ↦ rw (is, is) refl ]

-- a byte before the first part stays before it where parts that are no words go
onto_word : (b c : ℕ) (parts : List (List ℕ)) → filter is_word (onto_first b (onto_first c parts)) ≡ onto_first b (filter is_word (onto_first c parts))
onto_word b c [] = refl
onto_word b c (part ∷ parts) = refl

-- a byte that is no blank, and the bytes behind it up to a blank, are a word
word_from : (b : ℕ) (bs : List ℕ) →
    filter is_word (onto_first b (slice_split is_blank bs)) ≡ (b ∷ take (position_or_len is_blank bs) bs) ∷ words_in (drop (position_or_len is_blank bs) bs)
word_from b [] = refl
word_from b (c ∷ bs) =
    let next : 1 + position_or_len is_blank bs ≡ suc (position_or_len is_blank bs) = omega arith in
    elim (cases_Bool (is_blank c)) [
      | inl is ↦ rw (is, is) refl
      | inr is ↦ rw (is, next, onto_word b c (slice_split is_blank bs), word_from c bs) refl
    ]

pub first_word : (bs : List ℕ) → 0 < length bs → prefix_len is_blank bs ≡ 0 →
    words_in bs ≡ take (position_or_len is_blank bs) bs ∷ words_in (drop (position_or_len is_blank bs) bs)
first_word [] some solid = absurd (omega arith)
first_word (b ∷ bs) some solid =
    let next : 1 + position_or_len is_blank bs ≡ suc (position_or_len is_blank bs) = omega arith in
    elim (cases_Bool (is_blank b)) [
      | inl is ↦ let more = rw is at solid in absurd (omega (arith, more))
      | inr is ↦ rw (is, next) (word_from b bs)
    ]

-- before a comment
before_more : (b : ℕ) (bs : List ℕ) → (b == 35) ≡ false → before_comment (b ∷ bs) ≡ b ∷ before_comment bs
before_more b bs other =
    let next : 1 + position_or_len (λ c. c == 35) bs ≡ suc (position_or_len (λ c. c == 35) bs) = omega arith in
    rw (other, next) refl

-- where a byte behind the blanks at the front begins no comment, it begins a word
word_begins : (bs : List ℕ) → prefix_len is_blank bs < length bs → (slice_index_or bs (prefix_len is_blank bs) 0 == 35) ≡ false → (length (words_of bs) == 0) ≡ false
word_begins [] within other = absurd (omega (arith, within))
word_begins (b ∷ bs) within other =
    let next : 1 + prefix_len is_blank bs ≡ suc (prefix_len is_blank bs) = omega arith in
    elim (cases_Bool (is_blank b)) [
      | inl is ↦
          let bare : (b == 35) ≡ false = grind (arith, common_steps) in
          let here = rw (is, next) at other in
          let some = rw (is, next) at within in
          rw (before_more b bs bare, is) (word_begins bs (omega (arith, some)) here)
      | inr is ↦
          let bare = rw is at other in
          rw (before_more b bs bare, is, word_from b (before_comment bs)) (ne_eqb _ 0 (λ e. absurd (omega (arith, e))))
    ]

pub not_empty : (bs : List ℕ) → prefix_len is_blank bs < length bs → (slice_index_or bs (prefix_len is_blank bs) 0 == 35) ≡ false → is_empty_line bs ≡ false
not_empty bs within other = rw (word_begins bs within other) (and-false (list_all is_text_byte bs))

-- What holds of each byte of a line holds of each byte of its words.
all_first : (test : ℕ → Bool) (b : ℕ) (parts : List (List ℕ)) → test b ≡ true → list_all (list_all test) parts ≡ true → list_all (list_all test) (onto_first b parts) ≡ true
all_first test b [] here rest = rw here refl
all_first test b (part ∷ parts) here rest = rw here rest

all_parts : (test : ℕ → Bool) (bs : List ℕ) → list_all test bs ≡ true → list_all (list_all test) (slice_split is_blank bs) ≡ true
all_parts test [] all = refl
all_parts test (b ∷ bs) all =
    let both = and_parts (test b) (list_all test bs) all in
    elim (cases_Bool (is_blank b)) [
      | inl is ↦ rw (slice_split-cons_yes is_blank b bs is) (all_parts test bs both.1)
      | inr is ↦ rw (slice_split-cons_no is_blank b bs is) (all_first test b (slice_split is_blank bs) both.0 (all_parts test bs both.1))
    ]

pub all_words : (test : ℕ → Bool) (line : List ℕ) → list_all test line ≡ true → list_all (list_all test) (words_of line) ≡ true
all_words test line all =
    let said = list_all-from_AllPass test (before_comment line) (All-take (λ b. test b ≡ true) _ line (AllPass-from_list_all test line all)) in
    let parts = AllPass-from_list_all (list_all test) (slice_split is_blank (before_comment line)) (all_parts test (before_comment line) said) in
    list_all-from_AllPass (list_all test) (words_of line) (All-filter is_word (λ part. list_all test part ≡ true) (slice_split is_blank (before_comment line)) parts)
