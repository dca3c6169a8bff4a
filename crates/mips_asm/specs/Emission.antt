-- The bytes of what statements put into their sections.
use Rattle.std.specs.Prelude.{ℕ, List, [], ◌∷◌, Result, Ok}
use Rattle.asm_parse.specs.Expression.{ExpressionValue}
use Rattle.asm_parse.specs.declared.fault.AsmWhy.{AsmWhy}
use Rattle.asm_layout.specs.Content.{Content, Instruction, Numbers, Given}
use Rattle.asm_layout.specs.declared.number.NumberSize.{NumberSize}
use Rattle.asm_layout.specs.Draft.{Draft}
use Rattle.line_text.specs.Outcome.{◌>>=◌}
use Rattle.asm_layout.specs.Value.{Names, defined}
use Rattle.mips_asm.specs.Number.{numbers_bytes}
use Rattle.mips_asm.specs.Words.{words_bytes, encoded_words}

-- the values of expressions, each of whose names has one
abbrev pub values_of : Names → List ExpressionValue → Result (List ℕ) AsmWhy
values_of names [] = Ok []
values_of names (e ∷ es) = do
  v ← defined names e
  vs ← values_of names es
  Ok (v ∷ vs)

-- the bytes of an instruction at a place
abbrev pub draft_bytes : Names → ℕ → Draft → Result (List ℕ) AsmWhy
draft_bytes names place draft = do
  words ← encoded_words names place draft
  Ok (words_bytes words)

-- the bytes of expressions, each as a number
abbrev pub expressions_bytes : Names → NumberSize → List ExpressionValue → Result (List ℕ) AsmWhy
expressions_bytes names size es = do
  vs ← values_of names es
  numbers_bytes size vs

-- the bytes of a content at a place
unfoldable pub bytes_of : Names → ℕ → Content → Result (List ℕ) AsmWhy
bytes_of names place (Instruction draft) = draft_bytes names place draft
bytes_of names place (Numbers size es) = expressions_bytes names size es
bytes_of names place (Given bs) = Ok bs
