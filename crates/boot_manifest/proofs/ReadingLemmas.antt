-- The forms of lines, by how many words these have.
use Rattle.std.proofs.Common.{◌≡◌, ℕ, ◌<◌, List, [], ◌∷◌, None, length, refl, arith}
use Rattle.std.proofs.lemmas.Grind.{common_steps}
use Rattle.std.specs.Option.{option_and_then}
use Rattle.line_text.specs.Words.{few, line_words}
use Rattle.line_text.proofs.FewLemmas.{few_form}
use Rattle.boot_manifest.specs.Forms.{count_form, env_form, program_form}

long_count : (key : List ℕ) (words : List (List ℕ)) → 65 < length words → count_form key words ≡ None
long_count key (a ∷ b ∷ c ∷ words) long = refl
long_count key words long = absurd (omega arith)

long_program : (words : List (List ℕ)) → 64 < length words → program_form words ≡ None
long_program (a ∷ b ∷ c ∷ d ∷ e ∷ f ∷ g ∷ words) long = refl
long_program words long = absurd (omega arith)

long_env : (words : List (List ℕ)) → 65 < length words → env_form words ≡ None
long_env [] long = refl
long_env (first ∷ words) long = rw (long_program words (omega arith)) (grind (arith, common_steps))

pub few_count : (key text : List ℕ) → option_and_then (count_form key) (option_and_then (few 65) (line_words text)) ≡ option_and_then (count_form key) (line_words text)
few_count key text = few_form (count_form key) 65 (long_count key) text

pub few_env : (text : List ℕ) → option_and_then env_form (option_and_then (few 65) (line_words text)) ≡ option_and_then env_form (line_words text)
few_env text = few_form env_form 65 long_env text
