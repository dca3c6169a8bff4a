-- The form of a line, by how many words it has.
use Rattle.std.proofs.Common.{◌≡◌, ℕ, ◌<◌, List, ◌∷◌, None, length, refl, arith}
use Rattle.std.specs.Option.{option_and_then}
use Rattle.line_text.specs.Words.{few, line_words}
use Rattle.line_text.proofs.FewLemmas.{few_form}
use Rattle.boot_schedule.specs.Forms.{event_form}

long_event : (words : List (List ℕ)) → 5 < length words → event_form words ≡ None
long_event (a ∷ b ∷ c ∷ d ∷ e ∷ f ∷ words) long = refl
long_event words long = absurd (omega arith)

pub few_event : (text : List ℕ) → option_and_then event_form (option_and_then (few 5) (line_words text)) ≡ option_and_then event_form (line_words text)
few_event text = few_form event_form 5 long_event text
