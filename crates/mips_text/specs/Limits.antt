-- The limits of the instructions' texts.
use Rattle.std.specs.Prelude.{ℕ}

-- The words of texts lie below this one: no opcode above 47 has a row.
abbrev pub text_word_limit : ℕ
text_word_limit = 0xc0000000

-- the most operands of an instruction
abbrev pub most_operands : ℕ
most_operands = 3
