-- The statements of a text: its lines that aren't empty.
use Rattle.std.specs.Prelude.{ℕ, Bool, List, length, ◌+◌, not, ◌==◌, ◌&&◌}
use Rattle.std.specs.List.{filter, list_all}
use Rattle.line_text.specs.Characters.{is_text_byte}
use Rattle.line_text.specs.Lines.{LineValue, lines_of}
use Rattle.line_text.specs.Words.{words_of}

-- whether a line is empty: a text without words
abbrev pub is_empty_line : List ℕ → Bool
is_empty_line text = list_all is_text_byte text && (length (words_of text) == 0)

-- the lines that aren't
abbrev pub statements_of : List LineValue → List LineValue
statements_of lines = filter (λ (line : LineValue). not (is_empty_line line.text)) lines

-- the number of the line behind the last
abbrev pub end_of : List ℕ → ℕ
end_of text = length (lines_of text) + 1
