-- Printed fields, as the assembler takes them.
use Rattle.std.proofs.Common.{◌≡◌, ℕ, ◌+◌, ◌%◌, ◌^◌, ◌<◌, Ok, arith, rules}
use Rattle.mips_text.specs.WordRows.{field_of}
use Rattle.mips_text.specs.declared.shape.Field.{Field}
use Rattle.mips_text.specs.declared.shape.Field.TheVariants.{Amount, Signed, Unsigned, Code, Branch, Jump}
use Rattle.mips_list.specs.WordText.{branch_target, field_text, jump_target}
use Rattle.mips_asm.specs.Field as fields
use Rattle.assembler_laws.proofs.NumberTexts.{IsNumber, decimal_text, half_text_read, signed_text_read, signed_value, word_text_read}

-- the number that is printed of a field
abbrev pub field_value : Field → ℕ → ℕ → ℕ
field_value Amount word address = field_of Amount word
field_value Signed word address = signed_value (field_of Signed word)
field_value Unsigned word address = field_of Unsigned word
field_value Code word address = field_of Code word
field_value Branch word address = branch_target address (field_of Branch word)
field_value Jump word address = jump_target address (field_of Jump word)

pub field_text_read : (field : Field) (word address : ℕ) → IsNumber (field_text field word address) (field_value field word address)
field_text_read Amount word address = decimal_text (field_of Amount word) (omega arith)
field_text_read Signed word address = signed_text_read (field_of Signed word) (omega arith)
field_text_read Unsigned word address = half_text_read (field_of Unsigned word) (omega arith)
field_text_read Code word address = decimal_text (field_of Code word) (omega arith)
field_text_read Branch word address = word_text_read (branch_target address (field_of Branch word)) (omega arith)
field_text_read Jump word address = word_text_read (jump_target address (field_of Jump word)) (omega arith)

-- the assembler gets the field back
pub field_back : (field : Field) (word address : ℕ) → address % 4 ≡ 0 → address + 4 < 2 ^ 32 → fields.bits_of_field field address (field_value field word address) ≡ Ok (field_of field word)
field_back field word address aligned below = search rules
