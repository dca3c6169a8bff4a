-- Lines whose words are few.
use Rattle.std.proofs.Common.{◌≡◌, ℕ, ◌<◌, List, Option, Some, None, length, refl, inl, inr}
use Rattle.std.proofs.lemmas.Bool.{cases_lt, le-leb, lt-leb}
use Rattle.std.specs.Option.{option_and_then}
use Rattle.line_text.specs.Words.{few, line_words}

few_said : {W : Type 0} (form : List (List ℕ) → Option W) (most : ℕ) → ((words : List (List ℕ)) → most < length words → form words ≡ None) → (said : Option (List (List ℕ)))
    → option_and_then form (option_and_then (few most) said) ≡ option_and_then form said
few_said form most long None = refl
few_said form most long (Some words) =
    elim (cases_lt most (length words)) [
      | inl more ↦ rw (lt-leb (length words) most more, long words more) refl
      | inr fits ↦ rw (le-leb (length words) most fits) refl
    ]

-- a form that no long line has is found in the few words
pub few_form : {W : Type 0} (form : List (List ℕ) → Option W) (most : ℕ) → ((words : List (List ℕ)) → most < length words → form words ≡ None) → (text : List ℕ)
    → option_and_then form (option_and_then (few most) (line_words text)) ≡ option_and_then form (line_words text)
few_form form most long text = few_said form most long (line_words text)
