-- What is to be written for a command.
use Rattle.std.specs.Prelude.{ℕ, List, [], ◌∷◌, Option, Some, None, codes}
use Rattle.line_text.specs.Text.{dec_text}
use Rattle.line_text.specs.WrittenLine.{label, line}
use Rattle.commands.specs.declared.status.Status.{Status}
use Rattle.commands.specs.declared.status.Status.TheVariants as status

-- what is due: a refusal, the output, or an output that says that something was found
pub data Due : Type 0 where
  Refusal : (text : List ℕ) → Due
  Whole : (text : List ℕ) → Due
  Found : (text : List ℕ) → Due

-- the text that is to be written
abbrev pub due_text : Due → List ℕ
due_text (Refusal text) = text
due_text (Whole text) = text
due_text (Found text) = text

-- the status once it is written
abbrev pub status_of : Due → Status
status_of (Refusal text) = status.Refused
status_of (Whole text) = status.Done
status_of (Found text) = status.Found

abbrev pub usage_text : List ℕ
usage_text = line (label (codes "aegis") ∷ codes "usage" ∷ [])

-- which file, what is wrong with it, and where
unfoldable pub refusal_text : List ℕ → List ℕ → ℕ → List ℕ
refusal_text name why place = line (label (codes "aegis") ∷ label name ∷ why ∷ dec_text place ∷ [])

-- a file of this name is refused for this, at this place
abbrev pub refused : List ℕ → List ℕ → ℕ → Due
refused name why place = Refusal (refusal_text name why place)

-- the first of the files that is refused, and if none is, this
abbrev pub unless_refused : List (Option Due) → Due → Due
unless_refused [] due = due
unless_refused (Some refusal ∷ files) due = refusal
unless_refused (None ∷ files) due = unless_refused files due
