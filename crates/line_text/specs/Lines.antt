-- The lines of a text.
use Rattle.std.specs.Prelude.{◌≡◌, ◌≤◌, ℕ, ◌+◌, ◌-◌, List, [], ◌∷◌, nat_eq, ◌==◌, if◌then◌else◌, length, take, drop, codes}
use Rattle.std.specs.List.{ends_with, onto_first}

-- a line: its number from 1, the place of its first byte in the text, and its bytes without its end
pub record LineValue : Type 0 where
  pub number : ℕ
  pub start : ℕ
  pub text : List ℕ

-- a text cut directly after each of its line feeds: a line feed ends its line, and each other byte
-- stands before what follows it
abbrev pub pieces_of : List ℕ → List (List ℕ)
pieces_of [] = []
pieces_of (b ∷ bs) = if b == 10 then (b ∷ []) ∷ pieces_of bs else onto_first b (pieces_of bs)

-- a piece without its end: a line feed, and a carriage return directly before it
abbrev pub without_end : List ℕ → List ℕ
without_end piece =
    if ends_with nat_eq piece (codes "\r\n") then take (length piece - 2) piece else
    if ends_with nat_eq piece (codes "\n") then take (length piece - 1) piece else
    piece

-- the pieces as lines, where the first has this number and this place
abbrev pub lines_from : ℕ → ℕ → List (List ℕ) → List LineValue
lines_from number start [] = []
lines_from number start (piece ∷ pieces) =
    record { number = number; start = start; text = without_end piece }
    ∷ lines_from (number + 1) (start + length piece) pieces

-- the lines of a text
abbrev pub lines_of : List ℕ → List LineValue
lines_of text = lines_from 1 0 (pieces_of text)

-- a line lies in a text where its place says
pub record IsPlaced (text : List ℕ) (line : LineValue) : Type 0 where
  pub within : line.start + length line.text ≤ length text
  pub bytes : take (length line.text) (drop line.start text) ≡ line.text
