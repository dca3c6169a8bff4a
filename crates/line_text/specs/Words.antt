-- The words of a line.
use Rattle.std.specs.Prelude.{ℕ, Bool, true, false, List, [], ◌∷◌, Option, Some, None, length, nat_le, ◌==◌, if◌then◌else◌}
use Rattle.std.specs.List.{before_first, filter, list_all, slice_split}
use Rattle.std.specs.Str.{byte}
use Rattle.line_text.specs.Characters.{is_blank, is_text_byte}

-- what stands before the first `#`
abbrev pub before_comment : List ℕ → List ℕ
before_comment line = before_first (λ b. b == byte "#") line

-- whether a part of a line is a word: it isn't empty
abbrev pub is_word : List ℕ → Bool
is_word [] = false
is_word (b ∷ bs) = true

-- the words of bytes, which blanks part
abbrev pub words_in : List ℕ → List (List ℕ)
words_in bytes = filter is_word (slice_split is_blank bytes)

-- the words of a line: those before its comment
abbrev pub words_of : List ℕ → List (List ℕ)
words_of line = words_in (before_comment line)

-- the words of a line, if it is a text
abbrev pub line_words : List ℕ → Option (List (List ℕ))
line_words line = if list_all is_text_byte line then Some (words_of line) else None

-- words, if they are no more than so many
abbrev pub few : ℕ → List (List ℕ) → Option (List (List ℕ))
few most words = if nat_le (length words) most then Some words else None
