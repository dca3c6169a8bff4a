-- The row of a word: the instruction that it spells, and the operands that stand in its bits.
use Rattle.std.specs.Prelude.{ℕ, ◌+◌, Bool, true, false, List, [], ◌∷◌, ◌++◌, Option, ◌==◌}
use Rattle.std.specs.List.{find}
use Rattle.mips_isa.specs.Fields.{rs_of, rt_of, rd_of, sh_of, code_of, imm_of, target_of}
use Rattle.mips_isa.specs.declared.insn.Insn.{Insn}
use Rattle.mips_isa.specs.declared.insn.Insn.TheVariants.{Cop, Reserved}
use Rattle.mips_text.specs.Texts.{TextValue, field_word, slot_word, special_texts, immediate_rows, memory_rows, system_texts}
use Rattle.mips_text.specs.declared.shape.Field.{Field}
use Rattle.mips_text.specs.declared.shape.Field.TheVariants.{Amount, Signed, Unsigned, Code, Branch, Jump}
use Rattle.mips_text.specs.declared.shape.OperandForm.{OperandForm}
use Rattle.mips_text.specs.declared.shape.OperandForm.TheVariants.{Register, Value, Optional, Based, Halves}
use Rattle.mips_text.specs.declared.shape.Slot.{Slot}
use Rattle.mips_text.specs.declared.shape.Slot.TheVariants.{Rd, Rs, Rt}

-- the register in a slot of a word
abbrev pub slot_of : Slot → ℕ → ℕ
slot_of Rs word = rs_of word
slot_of Rt word = rt_of word
slot_of Rd word = rd_of word

-- the number in a field of a word
abbrev pub field_of : Field → ℕ → ℕ
field_of Amount word = sh_of word
field_of Signed word = imm_of word
field_of Unsigned word = imm_of word
field_of Code word = code_of word
field_of Branch word = imm_of word
field_of Jump word = target_of word

-- a slot of a word, and all other bits 0
abbrev pub slot_bits : Slot → ℕ → ℕ
slot_bits slot word = slot_word slot (slot_of slot word)

-- a field of a word, and all other bits 0
abbrev pub field_bits : Field → ℕ → ℕ
field_bits field word = field_word field (field_of field word)

-- the bits of a word where an operand stands, and all other bits 0
abbrev pub form_bits : OperandForm → ℕ → ℕ
form_bits (Register slot) word = slot_bits slot word
form_bits (Value field) word = field_bits field word
form_bits (Optional field) word = field_bits field word
form_bits Based word = slot_bits Rs word + field_bits Signed word
form_bits Halves word = field_bits Unsigned word

-- the bits of a word where operands stand, and all other bits 0
abbrev pub operand_bits : List OperandForm → ℕ → ℕ
operand_bits [] word = 0
operand_bits (form ∷ forms) word = form_bits form word + operand_bits forms word

-- whether a word is that of a text, with operands in their bits
abbrev pub spells : TextValue → ℕ → Bool
spells text word = word == text.word + operand_bits text.operands word

-- the instructions by name, a row for each, without further forms
abbrev pub main_rows : List (List ℕ × TextValue)
main_rows = special_texts ++ immediate_rows ++ memory_rows ++ system_texts

-- the row of a word, where it has one
unfoldable pub row_of : ℕ → Option (List ℕ × TextValue)
row_of word = find (λ row. spells row.1 word) main_rows

-- whether an instruction has no name: one for another coprocessor, or a reserved word
abbrev pub is_nameless : Insn → Bool
is_nameless (Cop op rest) = true
is_nameless (Reserved value) = true
is_nameless _ = false
