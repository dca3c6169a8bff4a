-- Lines that are written.
use Rattle.std.specs.Prelude.{ℕ, Bool, true, false, List, [], ◌∷◌, ◌++◌, Option, Some, None, codes}
use Rattle.std.specs.List.{flat_map}
use Rattle.std.specs.Str.{byte}
use Rattle.line_text.specs.Text.{dec_text, hex_text, quoted_text}
use Rattle.line_text.specs.declared.line_writing.Word.{Word}
use Rattle.line_text.specs.declared.line_writing.Word.TheVariants.{Text, Label, Number, Dash, PageNumber, Hexadecimal, Flag, Quotation, Bytes}

-- a word behind the space that parts it from the word before it
abbrev pub spaced : List ℕ → List ℕ
spaced word = 32 ∷ word

-- A line is its words, parted by single spaces, and a line feed.
abbrev pub line : List (List ℕ) → List ℕ
line [] = 10 ∷ []
line (word ∷ words) = word ++ flat_map spaced words ++ 10 ∷ []

-- bytes, and a colon behind them
abbrev pub label : List ℕ → List ℕ
label bytes = bytes ++ byte ":" ∷ []

-- a number in decimal, or a dash where there is none
abbrev pub or_dash : Option ℕ → List ℕ
or_dash None = codes "-"
or_dash (Some n) = dec_text n

abbrev pub flag_text : Bool → List ℕ
flag_text true = codes "1"
flag_text false = codes "0"

-- bytes between quotation marks
abbrev pub quotation : List ℕ → List ℕ
quotation bytes = 34 ∷ quoted_text bytes ++ 34 ∷ []

-- bytes in hexadecimal digits, two for each
abbrev pub bytes_text : List ℕ → List ℕ
bytes_text bytes = flat_map (hex_text 2) bytes

-- how a word reads
abbrev pub text_of : Word → List ℕ
text_of (Text bytes) = bytes.now
text_of (Label bytes) = label bytes.now
text_of (Number n) = dec_text n
text_of Dash = or_dash None
text_of (PageNumber n) = hex_text 5 n
text_of (Hexadecimal n) = hex_text 8 n
text_of (Flag flag) = flag_text flag
text_of (Quotation bytes) = quotation bytes.now
text_of (Bytes bytes) = bytes_text bytes.now

-- a line of a name and words
unfoldable pub line_of : List ℕ → List Word → List ℕ
line_of name words = name ++ flat_map (λ w. spaced (text_of w)) words ++ 10 ∷ []
