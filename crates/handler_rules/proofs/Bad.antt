-- The first bad word, as it is searched.
use Rattle.std.specs.Prelude.{if◌then◌else◌}
use Rattle.std.specs.Option.{option_or}
use Rattle.std.proofs.Common.{arith, refl, inl, inr, ◌≡◌, ◌<◌, ℕ, zero, suc, Bool, true, false, List, length, Option, None, Some}
use Rattle.std.proofs.lemmas.Bool.{cases_eq, le-ltb}
use Rattle.handler_rules.specs.Laws.{AreGood, FirstBadIsFirst, IsFirstBad}
use Rattle.handler_rules.specs.Verification.{first_bad_below, is_bad_word, most_words}

-- the first bad word of those below a number
pub record IsFirstIn (words : List ℕ) (count at : ℕ) : Type 0 where
  pub below : at < count
  pub bad : is_bad_word words at ≡ true
  pub first : AreGood words at

-- what is found of the words below a number: the first bad one, or that none is bad
abbrev pub IsFirstBelow : List ℕ → ℕ → Option ℕ → Type 0
IsFirstBelow words count None = AreGood words count
IsFirstBelow words count (Some at) = IsFirstIn words count at

-- the first bad word that is found is the first of all
pub found_first : (words : List ℕ) (at count : ℕ) → first_bad_below words at ≡ None → is_bad_word words at ≡ true → at < count → first_bad_below words count ≡ Some at
found_first words at zero none bad below = absurd (omega arith)
found_first words at (suc count) none bad below =
    elim (cases_eq at count) [
      | inl same ↦ rw (← same, none, bad) refl
      | inr other ↦ rw (found_first words at count none bad (omega (arith, other))) refl
    ]

-- the same of one word more
more : (words : List ℕ) (count : ℕ) (so_far : Option ℕ) (bad : Bool) → is_bad_word words count ≡ bad → IsFirstBelow words count so_far
    → IsFirstBelow words (suc count) (option_or so_far (if bad then Some count else None))
more words count None false is none = λ i below.
    elim (cases_eq i count) [ inl same ↦ rw same is | inr other ↦ none i (omega (arith, other)) ]
more words count None true is none = record { below = omega arith; bad = is; first = none }
more words count (Some at) bad is found = record { below = omega (arith, found.below); bad = found.bad; first = found.first }

-- the search finds it
pub is_first_below : (words : List ℕ) (count : ℕ) → IsFirstBelow words count (first_bad_below words count)
is_first_below words zero = λ i below. absurd (omega arith)
is_first_below words (suc count) = more words count (first_bad_below words count) (is_bad_word words count) refl (is_first_below words count)

-- so of all words
said : (words : List ℕ) (found : Option ℕ) → IsFirstBelow words (length words) found → IsFirstBad words found
said words None none = none
said words (Some at) found = record { within = found.below; bad = found.bad; first = found.first }

-- the first bad word, without a search
pub first_bad_is_first : FirstBadIsFirst
first_bad_is_first words few = rw (le-ltb most_words (length words) few) (said words (first_bad_below words (length words)) (is_first_below words (length words)))
