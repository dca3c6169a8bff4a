-- The words of instructions.
use Rattle.std.specs.Prelude.{ℕ, ◌+◌, ◌/◌, ◌%◌, ◌^◌, List, [], ◌∷◌, Result, Ok}
use Rattle.std.specs.List.{flat_map}
use Rattle.std.specs.Int.{w32, to_le_bytes}
use Rattle.asm_parse.specs.declared.fault.AsmWhy.{AsmWhy}
use Rattle.mips_isa.specs.Encoding.{word_of}
use Rattle.mips_isa.specs.declared.insn.Insn.TheVariants.{Lui, Ori}
use Rattle.asm_layout.specs.Draft.{Draft, Filling, Whole, Filled, Halves}
use Rattle.line_text.specs.Outcome.{◌>>=◌}
use Rattle.asm_layout.specs.Value.{Names, defined}
use Rattle.mips_text.specs.WordRows.{slot_of}
use Rattle.mips_text.specs.declared.shape.Slot.TheVariants.{Rt}
use Rattle.mips_asm.specs.Field.{field_bits_in}

-- LUI of a number's high half and ORI of its low half, into a register
abbrev pub halves_words : ℕ → ℕ → List ℕ
halves_words rt v = word_of (Lui rt (v / 2 ^ 16)) ∷ word_of (Ori rt rt (v % 2 ^ 16)) ∷ []

-- the words that a word at a place makes with what an expression gives to it
unfoldable pub filled_words : Names → ℕ → ℕ → Filling → Result (List ℕ) AsmWhy
filled_words names place w Whole = Ok (w ∷ [])
filled_words names place w (Filled field e) = do
  bits ← field_bits_in names field place e
  Ok ((w + bits) ∷ [])
filled_words names place w (Halves e) = do
  v ← defined names e
  Ok (halves_words (slot_of Rt w) v)

-- the words that a draft at a place makes
abbrev pub encoded_words : Names → ℕ → Draft → Result (List ℕ) AsmWhy
encoded_words names place draft = filled_words names place draft.word draft.filling

-- words in memory
abbrev pub words_bytes : List ℕ → List ℕ
words_bytes words = flat_map (λ word. to_le_bytes w32 word) words
