-- What a statement puts into its section.
use Rattle.std.specs.Prelude.{ℕ, ◌*◌, List, length}
use Rattle.asm_parse.specs.Expression.{ExpressionValue}
use Rattle.asm_layout.specs.declared.number.NumberSize.{NumberSize}
use Rattle.asm_layout.specs.declared.number.NumberSize.TheVariants.{Byte, Half, Word}
use Rattle.asm_layout.specs.Draft.{Draft, Filling, Whole, Filled, Halves}

pub data Content : Type 0 where
  Instruction : Draft → Content
  -- a number for each expression
  Numbers : NumberSize → List ExpressionValue → Content
  -- these bytes, none of them where the statement puts nothing
  Given : List ℕ → Content

-- the bytes that an instruction takes, or two of them
abbrev pub filled_length : Filling → ℕ
filled_length Whole = 4
filled_length (Filled field e) = 4
filled_length (Halves e) = 8

abbrev pub draft_length : Draft → ℕ
draft_length draft = filled_length draft.filling

-- the bytes that a number takes
abbrev pub number_length : NumberSize → ℕ
number_length Byte = 1
number_length Half = 2
number_length Word = 4

-- how many bytes it takes
abbrev pub content_length : Content → ℕ
content_length (Instruction draft) = draft_length draft
content_length (Numbers size es) = number_length size * length es
content_length (Given bs) = length bs

-- what its place is a multiple of
abbrev pub alignment : Content → ℕ
alignment (Instruction draft) = 4
alignment (Numbers size es) = number_length size
alignment (Given bs) = 1
